-- How the first line and the first word are taken off.
use Rattle.std.proofs.Common.{◌≡◌, ◌==◌, ℕ, zero, suc, ◌+◌, ◌-◌, ◌<◌, ◌≤◌, Bool, true, false, not, cond, List, [], ◌∷◌, length, get_or, take, drop, position, Some, None, filter, refl, sym, ap, ◌∙◌, eqb, arith, length-drop, drop-cons, add-one, add-zero}
use Rattle.std.specs.List.{slice_split, position_or_len, All}
use Rattle.std.specs.Str.Lines.{lines, lines_of_parts, strip_carriage_return}
use Rattle.std.proofs.lemmas.Bool.{ltb-false, ne_eqb, eqb-false}
use Rattle.std.proofs.lemmas.List.{get_or-drop, take_all, drop_all, length-take-le}
use Rattle.std.proofs.lemmas.List.Quantifiers.{position-Some}
use Rattle.std.proofs.lemmas.List.Sums.{position_or_len_is, fails_before_first}
use Rattle.std.proofs.lemmas.List.Splits.{slice_split_first, slice_split_none, slice_split-cons_yes, length-slice_split}
use Rattle.gt_lines.specs.Words.{is_blank, has_bytes, words_of}

-- a tail of a list, as the code cuts it
pub take-drop_rest : (n : ℕ) (xs : List ℕ) → take (length xs - n) (drop n xs) ≡ drop n xs
take-drop_rest n xs = take_all _ _ (omega (arith, length-drop n xs))

-- a list that is not empty, as the code tests it
pub some-from_test : (n : ℕ) (b : Bool) → b ≡ false → b ≡ eqb n 0 → 0 < n
some-from_test n b h e = let ne = eqb-false n 0 (sym e ∙ h) in omega (arith, ne)

position_or_len-Some : (p : ℕ → Bool) (xs : List ℕ) (i : ℕ) → position p xs ≡ Some i → position_or_len p xs ≡ i
position_or_len-Some p xs i h =
    let found = position-Some p xs i 0 h in
    position_or_len_is p xs i 0 (omega (arith, found.0)) found.2 (λ _. found.1)

test-None : (b : Bool) (i : ℕ) → cond b (Some i) None ≡ None → b ≡ false
test-None true i h = cc
test-None false i h = refl

fails-None : (p : ℕ → Bool) (xs : List ℕ) → position p xs ≡ None → All (λ x. p x ≡ false) xs
fails-None p xs h = λ k d k_in. fails_before_first p xs k d (omega (arith, ltb-false _ _ (test-None _ _ h)))

lines_of_parts-more : (x : List ℕ) (parts : List (List ℕ)) → 0 < length parts → lines_of_parts (x ∷ parts) ≡ strip_carriage_return x ∷ lines_of_parts parts
lines_of_parts-more x [] h = absurd (omega arith)
lines_of_parts-more x (y ∷ parts) h = refl

-- the first line ends at a line feed
pub lines-Some : (text : List ℕ) (at : ℕ) → position (λ b. b == 10) text ≡ Some at → lines text ≡ strip_carriage_return (take at text) ∷ lines (drop (at + 1) text)
lines-Some text at h =
    let p : ℕ → Bool = λ b. b == 10 in
    let found = position-Some p text at 0 h in
    let place : position_or_len p text ≡ at = position_or_len-Some p text at h in
    let parts : slice_split p text ≡ take at text ∷ slice_split p (drop (at + 1) text) =
    rw place at (slice_split_first p text 0 (omega (arith, found.0, place))) in
    ap lines_of_parts parts ∙ lines_of_parts-more (take at text) (slice_split p (drop (at + 1) text)) (omega (arith, length-slice_split p (drop (at + 1) text)))

lines_of_parts-one : (text : List ℕ) → 0 < length text → lines_of_parts (text ∷ []) ≡ text ∷ []
lines_of_parts-one [] h = absurd (omega arith)
lines_of_parts-one (b ∷ bs) h = rw (ne_eqb (suc (length bs)) 0 (λ e. absurd (omega arith))) refl

-- the first line is the last
pub lines-None : (text : List ℕ) → position (λ b. b == 10) text ≡ None → 0 < length text → lines text ≡ text ∷ []
lines-None text h some =
    let p : ℕ → Bool = λ b. b == 10 in
    let parts : slice_split p text ≡ text ∷ [] = slice_split_none p text (fails-None p text h) in
    ap lines_of_parts parts ∙ lines_of_parts-one text some

passes : (b : Bool) → not b ≡ false → b ≡ true
passes true h = refl
passes false h = cc

words_of-blank : (b : ℕ) (bs : List ℕ) → is_blank b ≡ true → words_of (b ∷ bs) ≡ words_of bs
words_of-blank b bs h = ap (filter has_bytes) (slice_split-cons_yes is_blank b bs h)

-- blanks in front of the words
pub words_of-drop : (n : ℕ) (line : List ℕ) → n ≤ length line → ((k : ℕ) → k < n → not (is_blank (get_or line k 0)) ≡ false) → words_of line ≡ words_of (drop n line)
words_of-drop zero line in_line blank = refl
words_of-drop (suc n) [] in_line blank = absurd (omega arith)
words_of-drop (suc n) (b ∷ bs) in_line blank =
    words_of-blank b bs (passes _ (blank 0 (omega arith))) ∙ words_of-drop n bs (omega arith) (λ k below. blank (suc k) (omega arith))

-- no words
pub words_of-None : (line : List ℕ) → position (λ b. not (is_blank b)) line ≡ None → words_of line ≡ []
words_of-None line h =
    let blank = fails-None (λ b. not (is_blank b)) line h in
    words_of-drop (length line) line (omega arith) (λ k below. blank k 0 below) ∙ ap words_of (drop_all (length line) line (omega arith))

-- words begin at the first byte that is no blank
pub words_of-begin : (line : List ℕ) (at : ℕ) → position (λ b. not (is_blank b)) line ≡ Some at → words_of line ≡ words_of (drop at line)
words_of-begin line at h =
    let found = position-Some (λ b. not (is_blank b)) line at 0 h in
    words_of-drop at line (omega (arith, found.0)) found.2

filter-has_bytes : (word : List ℕ) (more : List (List ℕ)) → 0 < length word → filter has_bytes (word ∷ more) ≡ word ∷ filter has_bytes more
filter-has_bytes [] more h = absurd (omega arith)
filter-has_bytes (b ∷ bs) more h = refl

-- the first word ends at a blank
pub words_of-Some : (line : List ℕ) (at : ℕ) → 0 < at → position is_blank line ≡ Some at → words_of line ≡ take at line ∷ words_of (drop at line)
words_of-Some line at some h =
    let found = position-Some is_blank line at 0 h in
    let place : position_or_len is_blank line ≡ at = position_or_len-Some is_blank line at h in
    let parts : slice_split is_blank line ≡ take at line ∷ slice_split is_blank (drop (at + 1) line) =
    rw place at (slice_split_first is_blank line 0 (omega (arith, found.0, place))) in
    let behind : drop at line ≡ get_or line at 0 ∷ drop (at + 1) line = rw add-one (drop-cons line at 0 found.0) in
    let rest : words_of (drop at line) ≡ words_of (drop (at + 1) line) =
    ap words_of behind ∙ words_of-blank (get_or line at 0) (drop (at + 1) line) found.1 in
    ap (filter has_bytes) parts ∙ filter-has_bytes (take at line) (slice_split is_blank (drop (at + 1) line)) (omega (arith, length-take-le at line (omega (arith, found.0))))
    ∙ ap (λ ws. take at line ∷ ws) (sym rest)

-- the first word is the last
pub words_of-last : (line : List ℕ) → 0 < length line → position is_blank line ≡ None → words_of line ≡ line ∷ []
words_of-last line some h =
    ap (filter has_bytes) (slice_split_none is_blank line (fails-None is_blank line h)) ∙ filter-has_bytes line [] some

-- the first word begins at the first byte that is no blank, and ends with the line
pub first-is_last : (line : List ℕ) (start : ℕ) → position (λ b. not (is_blank b)) line ≡ Some start → position is_blank (drop start line) ≡ None → words_of line ≡ take (length (drop start line)) (drop start line) ∷ words_of (drop (length (drop start line)) (drop start line))
first-is_last line start begins ends =
    let found = position-Some (λ b. not (is_blank b)) line start 0 begins in
    rw (take_all (length (drop start line)) (drop start line) (omega arith), drop_all (length (drop start line)) (drop start line) (omega arith))
    (words_of-begin line start begins ∙ words_of-last (drop start line) (omega (arith, found.0, length-drop start line)) ends)

no_blank : (b : Bool) → not b ≡ true → b ≡ true → ⊥
no_blank true h e = cc
no_blank false h e = cc

word-some : (line : List ℕ) (start end : ℕ) → position (λ b. not (is_blank b)) line ≡ Some start → position is_blank (drop start line) ≡ Some end → 0 < end
word-some line start zero begins ends =
    let first = position-Some (λ b. not (is_blank b)) line start 0 begins in
    let found = position-Some is_blank (drop start line) 0 0 ends in
    let same : get_or (drop start line) 0 0 ≡ get_or line start 0 = get_or-drop start line 0 0 ∙ ap (λ n. get_or line n 0) (add-zero start) in
    absurd (no_blank (is_blank (get_or line start 0)) first.1 (ap is_blank (sym same) ∙ found.1))
word-some line start (suc end) begins ends = omega arith

-- .. or with a blank
pub first-is_cut : (line : List ℕ) (start end : ℕ) → position (λ b. not (is_blank b)) line ≡ Some start → position is_blank (drop start line) ≡ Some end → words_of line ≡ take end (drop start line) ∷ words_of (drop end (drop start line))
first-is_cut line start end begins ends =
    words_of-begin line start begins ∙ words_of-Some (drop start line) end (word-some line start end begins ends) ends
