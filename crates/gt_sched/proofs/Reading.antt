-- How the items of a text are read, from the front on.
use Rattle.std.proofs.Common.{◌≡◌, ◌+◌, ◌-◌, ◌^◌, ◌<◌, ◌≤◌, ℕ, min, not, cond, leb, List, [], ◌∷◌, ◌++◌, length, take, drop, Option, None, Some, refl, sym, ap, ◌∙◌, arith, append_assoc, length-drop, inl, inr}
use Rattle.std.specs.List.{slice_split, before_first, after_first, position_or_len}
use Rattle.std.proofs.lemmas.Bool.{le-leb, lt-leb, cases_lt}
use Rattle.std.proofs.lemmas.List.{take_all, length-take-le, drop-drop, append-nil, length-take}
use Rattle.std.proofs.lemmas.List.Splits.{slice_split_first, slice_split_none}
use Rattle.std.proofs.lemmas.List.Sums.{fails_before_first, prefix_len-le-length, sum_by-cons}
use Rattle.gt_sched.specs.declared.fault.SchedFault.{SchedFault}
use Rattle.gt_sched.specs.Items.{is_blank, Item, with_item, items_among, items_of, first_fault, fault_in, or_else, count_in, count_of, turns_in, turns_of}
use Rattle.gt_sched.specs.Schedules.{fault_of, fault_of_count}

-- a tail of a text, as the code cuts it
pub take-drop_rest : (n : ℕ) (xs : List ℕ) → take (length xs - n) (drop n xs) ≡ drop n xs
take-drop_rest n xs = take_all _ _ (omega (arith, length-drop n xs))

-- the items that start at the byte `at` or behind it; where it is behind the end, there are none
abbrev pub items_behind : ℕ → List ℕ → List Item
items_behind at text = cond (leb at (length text)) (items_among at (slice_split is_blank (drop at text))) []

-- what is read in front of the byte `at`, and what is left
pub record IsReading (ps : ℕ) (text : List ℕ) (at : ℕ) (turns : List ℕ) (total : ℕ) : Type 0 where
  pub faults : first_fault ps (items_of text) ≡ first_fault ps (items_behind at text)
  pub count : min (count_of (items_of text)) (2 ^ 64 - 1) ≡ min (total + count_of (items_behind at text)) (2 ^ 64 - 1)
  pub listed : total ≤ 1000000 → turns_of (items_of text) ≡ turns ++ turns_of (items_behind at text)
  pub in_text : at ≤ length text + 1

items_behind-begin : (text : List ℕ) → items_behind 0 text ≡ items_of text
items_behind-begin text = rw (le-leb 0 (length text) (omega arith)) refl

pub reading_begins : (ps : ℕ) (text : List ℕ) → IsReading ps text 0 [] 0
reading_begins ps text =
    let e = items_behind-begin text in
    record { faults = ap (first_fault ps) (sym e); count = rw e (omega arith); listed = λ _. rw e refl; in_text = omega arith }

-- the part that ends at the byte n, with more behind it, or as the last
parts-cut : (at n : ℕ) (xs : List ℕ) → n ≡ position_or_len is_blank xs → n < length xs
    → items_among at (slice_split is_blank xs) ≡ with_item at (take n xs) (items_among (at + (n + 1)) (slice_split is_blank (drop (n + 1) xs)))
parts-cut at n xs is more =
    rw is
    (ap (items_among at) (slice_split_first is_blank xs 0 (omega arith))
    ∙ ap (λ k. with_item at (before_first is_blank xs) (items_among (at + (k + 1)) (slice_split is_blank (after_first is_blank xs)))) (length-take-le (position_or_len is_blank xs) xs (omega arith)))

parts-last : (at n : ℕ) (xs : List ℕ) → n ≡ position_or_len is_blank xs → length xs ≤ n
    → items_among at (slice_split is_blank xs) ≡ with_item at (take n xs) []
parts-last at n xs is last =
    ap (items_among at) (slice_split_none is_blank xs (λ k d in_xs. fails_before_first is_blank xs k d (omega arith)))
    ∙ ap (λ part. with_item at part []) (sym (take_all n xs last))

-- what follows the part that is read next
pub items_behind-cut : (at : ℕ) (text : List ℕ) → at ≤ length text
    → items_behind at text ≡ with_item at (before_first is_blank (drop at text)) (items_behind (at + (length (before_first is_blank (drop at text)) + 1)) text)
items_behind-cut at text h = elim (cases_lt n (length xs)) [ inl more ↦ when_more more | inr last ↦ when_last last ]
  where
    xs : List ℕ
    xs = drop at text

    n : ℕ
    n = position_or_len is_blank xs

    part_is : length (take n xs) ≡ n
    part_is = length-take-le n xs (prefix_len-le-length (λ b. not (is_blank b)) xs)

    begin : items_behind at text ≡ items_among at (slice_split is_blank xs)
    begin = rw (le-leb at (length text) h) refl

    when_more : n < length xs → items_behind at text ≡ with_item at (take n xs) (items_behind (at + (length (take n xs) + 1)) text)
    when_more more =
        let inside : at + (n + 1) ≤ length text = omega (arith, length-drop at text) in
        begin ∙ parts-cut at n xs refl more
        ∙ ap (λ r. with_item at (take n xs) (items_among (at + (n + 1)) (slice_split is_blank r))) (drop-drop (n + 1) at text)
        ∙ rw (part_is, le-leb (at + (n + 1)) (length text) inside) refl

    when_last : length xs ≤ n → items_behind at text ≡ with_item at (take n xs) (items_behind (at + (length (take n xs) + 1)) text)
    when_last last =
        let outside : length text < at + (n + 1) = omega (arith, length-drop at text) in
        begin ∙ parts-last at n xs refl last ∙ rw (part_is, lt-leb (at + (n + 1)) (length text) outside) refl

items_behind-end : (at : ℕ) (text : List ℕ) → length text < at → items_behind at text ≡ []
items_behind-end at text h = rw (lt-leb at (length text) h) refl

or_else-or_else : (f g : Option SchedFault) → or_else f g ≡ or_else (or_else f None) g
or_else-or_else None g = refl
or_else-or_else (Some x) g = refl

first_fault-with_item : (ps at : ℕ) (part : List ℕ) (items : List Item)
    → first_fault ps (with_item at part items) ≡ or_else (first_fault ps (with_item at part [])) (first_fault ps items)
first_fault-with_item ps at [] items = refl
first_fault-with_item ps at (b ∷ bs) items = or_else-or_else (fault_in ps (record { at = at; bytes = b ∷ bs })) (first_fault ps items)

count_of-with_item : (at : ℕ) (part : List ℕ) (items : List Item) → count_of (with_item at part items) ≡ count_of (with_item at part []) + count_of items
count_of-with_item at [] items = omega arith
count_of-with_item at (b ∷ bs) items =
    let i : Item = record { at = at; bytes = b ∷ bs } in
    let e = sum_by-cons count_in i items in
    let f = sum_by-cons count_in i [] in
    omega arith

turns_of-with_item : (at : ℕ) (part : List ℕ) (items : List Item) → turns_of (with_item at part items) ≡ turns_of (with_item at part []) ++ turns_of items
turns_of-with_item at [] items = refl
turns_of-with_item at (b ∷ bs) items = ap (λ ts. ts ++ turns_of items) (sym (append-nil (turns_in (record { at = at; bytes = b ∷ bs }))))

-- one more part is read
pub reading_more : (ps at : ℕ) (text turns turns' part : List ℕ) (total total' : ℕ)
    → IsReading ps text at turns total → at ≤ length text → part ≡ before_first is_blank (drop at text)
    → first_fault ps (with_item at part []) ≡ None
    → total' ≡ min (total + count_of (with_item at part [])) (2 ^ 64 - 1)
    → (total' ≤ 1000000 → turns' ≡ turns ++ turns_of (with_item at part []))
    → IsReading ps text (at + (length part + 1)) turns' total'
reading_more ps at text turns turns' part total total' r inside is good sum listed =
    let rest : List Item = items_behind (at + (length part + 1)) text in
    let cut : items_behind at text ≡ with_item at part rest = rw is (items_behind-cut at text inside) in
    let counts : count_of (items_behind at text) ≡ count_of (with_item at part []) + count_of rest = ap count_of cut ∙ count_of-with_item at part rest in
    let was = r.count in
    let short : length part ≤ length (drop at text) = rw (is, length-take) (omega arith) in
    record {
      faults = r.faults ∙ (ap (first_fault ps) cut ∙ (first_fault-with_item ps at part rest ∙ ap (λ f. or_else f (first_fault ps rest)) good));
      count = omega arith;
      listed = λ few.
          let e : turns' ≡ turns ++ turns_of (with_item at part []) = listed few in
          r.listed (omega arith) ∙ (ap (λ ts. turns ++ ts) (ap turns_of cut ∙ turns_of-with_item at part rest)
          ∙ (sym (append_assoc turns (turns_of (with_item at part [])) (turns_of rest)) ∙ ap (λ ts. ts ++ turns_of rest) (sym e)));
      in_text = omega (arith, length-drop at text);
    }

-- a part with a fault
pub reading_fails : (ps at : ℕ) (text turns part : List ℕ) (total : ℕ) (e : SchedFault)
    → IsReading ps text at turns total → at ≤ length text → part ≡ before_first is_blank (drop at text)
    → first_fault ps (with_item at part []) ≡ Some e
    → fault_of ps text ≡ Some e
reading_fails ps at text turns part total e r inside is bad =
    let rest : List Item = items_behind (at + (length part + 1)) text in
    let cut : items_behind at text ≡ with_item at part rest = rw is (items_behind-cut at text inside) in
    let first : first_fault ps (items_of text) ≡ Some e = r.faults ∙ (ap (first_fault ps) cut ∙ (first_fault-with_item ps at part rest ∙ ap (λ f. or_else f (first_fault ps rest)) bad)) in
    ap (λ f. or_else f (fault_of_count (count_of (items_of text)))) first

-- the end of the text
pub reading_ends : (ps at : ℕ) (text turns : List ℕ) (total : ℕ) → IsReading ps text at turns total → length text < at
    → (first_fault ps (items_of text) ≡ None) × (min (count_of (items_of text)) (2 ^ 64 - 1) ≡ min total (2 ^ 64 - 1)) × (total ≤ 1000000 → turns_of (items_of text) ≡ turns)
reading_ends ps at text turns total r outside =
    let none = items_behind-end at text outside in
    let count : count_of (items_behind at text) ≡ 0 = ap count_of none in
    let was = r.count in (
      r.faults ∙ ap (first_fault ps) none,
      omega arith,
      λ few. r.listed few ∙ (ap (λ items. turns ++ turns_of items) none ∙ append-nil turns),
    )

pub fault_of-few : (ps : ℕ) (text : List ℕ) → first_fault ps (items_of text) ≡ None → count_of (items_of text) ≤ 1000000 → fault_of ps text ≡ None
fault_of-few ps text good few = ap (λ f. or_else f (fault_of_count (count_of (items_of text)))) good ∙ rw (le-leb (count_of (items_of text)) 1000000 few) refl

pub fault_of-many : (ps : ℕ) (text : List ℕ) → first_fault ps (items_of text) ≡ None → 1000000 < count_of (items_of text) → fault_of ps text ≡ Some SchedFault.Long
fault_of-many ps text good many = ap (λ f. or_else f (fault_of_count (count_of (items_of text)))) good ∙ rw (lt-leb (count_of (items_of text)) 1000000 many) refl
