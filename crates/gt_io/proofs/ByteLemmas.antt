-- What follows from bytes that were taken or appended.
use Rattle.std.proofs.Common.{◌≡◌, ℕ, ◌+◌, ◌-◌, ◌≤◌, List, [], ◌++◌, length, take, drop, Option, Some, None, sym, ◌∙◌, ap, subst, append_assoc, arith, length-drop}
use Rattle.std.proofs.lemmas.List.{append-nil, take-append-drop, drop-drop, take_at, length-take-le}
use Rattle.std.proofs.Math.Seq.{take-add}
use Rattle.gt_io.specs.Bytes.{Appended}
use Rattle.gt_io.specs.Buffer.{and_then}

-- two pieces that were appended one after the other are one piece
pub Appended-trans : (a b c : Option (List ℕ)) (x y : List ℕ) → Appended a b x → Appended b c y → Appended a c (x ++ y)
Appended-trans None None None x y first next = tt
Appended-trans None None (Some after) x y first next = next
Appended-trans None (Some middle) c x y first next = absurd first
Appended-trans (Some before) None None x y first next = tt
Appended-trans (Some before) None (Some after) x y first next = absurd next
Appended-trans (Some before) (Some middle) None x y first next = tt
Appended-trans (Some before) (Some middle) (Some after) x y first next =
    next ∙ ap (λ l. l ++ y) first ∙ append_assoc before x y

-- after the first i bytes of a list the next n were appended
pub Appended-more : (a b c : Option (List ℕ)) (bytes : List ℕ) (i n : ℕ) → Appended a b (take i bytes) → Appended b c (take n (drop i bytes)) → Appended a c (take (i + n) bytes)
Appended-more a b c bytes i n first next =
    subst (λ (l : List ℕ). Appended a c l) (sym (take-add i n bytes)) (Appended-trans a b c (take i bytes) (take n (drop i bytes)) first next)

-- n bytes copied to the front of a buffer, and what is left after them
pub copied_front : (bytes buffer copied : List ℕ) (at n k : ℕ) → k ≡ n → n ≤ length (drop at bytes) → copied ≡ take k (drop at bytes) → drop at bytes ≡ take n (copied ++ drop n buffer) ++ drop (at + n) bytes
copied_front bytes buffer copied at n k same fits is =
    let front : copied ≡ take n (drop at bytes) = is ∙ ap (λ (m : ℕ). take m (drop at bytes)) same in
    let len : length copied ≡ n = ap length front ∙ length-take-le n (drop at bytes) fits in
    sym (take-append-drop n (drop at bytes)) ∙ ap (λ (l : List ℕ). take n (drop at bytes) ++ l) (drop-drop n at bytes)
    ∙ ap (λ (l : List ℕ). l ++ drop (at + n) bytes) (sym (take_at copied (drop n buffer) n len ∙ front))

-- what was passed on and what is kept back are together what was kept back before
pub Appended-passed_on : (a b : Option (List ℕ)) (kept : List ℕ) (n : ℕ) → Appended a b (take n kept) → Appended (and_then a kept) (and_then b (drop n kept)) []
Appended-passed_on None None kept n passed = tt
Appended-passed_on None (Some after) kept n passed = absurd passed
Appended-passed_on (Some before) None kept n passed = tt
Appended-passed_on (Some before) (Some after) kept n passed =
    ap (λ (l : List ℕ). l ++ drop n kept) passed ∙ append_assoc before (take n kept) (drop n kept)
    ∙ ap (λ (l : List ℕ). before ++ l) (take-append-drop n kept) ∙ sym (append-nil (before ++ kept))

-- a piece that is kept back comes after what was taken before
pub Appended-kept : (a b : Option (List ℕ)) (old new piece : List ℕ) → Appended a (and_then b old) [] → new ≡ old ++ piece → Appended a (and_then b new) piece
Appended-kept None None old new piece same is = tt
Appended-kept None (Some after) old new piece same is = same
Appended-kept (Some before) None old new piece same is = tt
Appended-kept (Some before) (Some after) old new piece same is =
    ap (λ (l : List ℕ). after ++ l) is ∙ sym (append_assoc after old piece) ∙ ap (λ (l : List ℕ). l ++ piece) (same ∙ append-nil before)

-- after the first bytes of a list the next n were passed on too
pub passed_on-more : (a b c : Option (List ℕ)) (whole old new : List ℕ) (n : ℕ) → length old ≤ length whole → old ≡ drop (length whole - length old) whole → Appended a b (take (length whole - length old) whole) → n ≤ length old → new ≡ drop n old → Appended b c (take n old) → (length new ≤ length whole) × (new ≡ drop (length whole - length new) whole) × Appended a c (take (length whole - length new) whole)
passed_on-more a b c whole old new n within rest first fits is next =
    let passed : ℕ = length whole - length old in
    let len : length new ≡ length old - n = ap length is ∙ length-drop {A = ℕ} n old in
    let sum : length whole - length new ≡ passed + n = omega (arith, len, within, fits) in
    let short : length new ≤ length whole = omega (arith, len, within) in (
      short,
      is ∙ ap (λ (l : List ℕ). drop n l) rest ∙ drop-drop n passed whole ∙ ap (λ (k : ℕ). drop k whole) (sym sum),
      subst (λ (k : ℕ). Appended a c (take k whole)) (sym sum)
          (Appended-more a b c whole passed n first (subst (λ (l : List ℕ). Appended b c (take n l)) rest next)),
    )
