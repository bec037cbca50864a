-- Where the bodies of the selects begin that are open at an index of the code.
use Rattle.std.proofs.Common.{◌≡◌, inl, inr, ℕ, zero, suc, ◌+◌, ◌<◌, ◌≤◌, List, [], ◌∷◌, slice_get, Option, Some, None, ap, subst, ◌∙◌, arith}
use Rattle.std.specs.Prelude.{IfSome}
use Rattle.gt_model.specs.declared.script.Instr.{Instr}
use Rattle.gt_model.specs.declared.script.Case.{Case}
use Rattle.gt_grammar.specs.Deeds.{Deed, declares, opens, does, loops, selects, chooses, defaults, closes, span, cases_from, default_from}
use Rattle.gt_grammar.proofs.OpenLoops.{from-here}

-- a place as the body of each of these cases begins at
abbrev pub EachCase : (ℕ → Type 0) → List Case → Type 0
EachCase P [] = Unit {0}
EachCase P (c ∷ cases) = P c.to × EachCase P cases

-- the same of a default too
abbrev pub Bodies : (ℕ → Type 0) → List Case → Option ℕ → Type 0
Bodies P cases default_to = EachCase P cases × IfSome default_to P

pub each-map : (P Q : ℕ → Type 0) → ((to : ℕ) → P to → Q to) → (cases : List Case) → EachCase P cases → EachCase Q cases
each-map P Q by [] h = tt
each-map P Q by (c ∷ cases) h = (by c.to h.0, each-map P Q by cases h.1)

some-map : (P Q : ℕ → Type 0) → ((to : ℕ) → P to → Q to) → (o : Option ℕ) → IfSome o P → IfSome o Q
some-map P Q by None h = tt
some-map P Q by (Some to) h = by to h

pub bodies-map : (P Q : ℕ → Type 0) → ((to : ℕ) → P to → Q to) → (cases : List Case) (o : Option ℕ) → Bodies P cases o → Bodies Q cases o
bodies-map P Q by cases o h = (each-map P Q by cases h.0, some-map P Q by o h.1)

each-both : (P Q : ℕ → Type 0) (cases : List Case) → EachCase P cases → EachCase Q cases → EachCase (λ to. P to × Q to) cases
each-both P Q [] h k = tt
each-both P Q (c ∷ cases) h k = ((h.0, k.0), each-both P Q cases h.1 k.1)

some-both : (P Q : ℕ → Type 0) (o : Option ℕ) → IfSome o P → IfSome o Q → IfSome o (λ to. P to × Q to)
some-both P Q None h k = tt
some-both P Q (Some to) h k = (h, k)

pub bodies-both : (P Q : ℕ → Type 0) (cases : List Case) (o : Option ℕ) → Bodies P cases o → Bodies Q cases o → Bodies (λ to. P to × Q to) cases o
bodies-both P Q cases o h k = (each-both P Q cases h.0 k.0, some-both P Q o h.1 k.1)

pub each-at : (P : ℕ → Type 0) (cases : List Case) (k : ℕ) (c : Case) → EachCase P cases → slice_get cases k ≡ Some c → P c.to
each-at P [] k c h e = cc
each-at P (x ∷ cases) zero c h e = let same : x ≡ c = cc in subst (λ (y : Case). P y.to) same h.0
each-at P (x ∷ cases) (suc k) c h e = each-at P cases k c h.1 e

pub some-at : (P : ℕ → Type 0) (o : Option ℕ) (to : ℕ) → IfSome o P → o ≡ Some to → P to
some-at P None to h e = cc
some-at P (Some x) to h e = let same : x ≡ to = cc in subst P same h

-- what is still to come begins at or behind the next index
pub bodies-ahead : (m i : ℕ) (deeds : List Deed) → Bodies (λ to. i ≤ to) (cases_from m i deeds) (default_from m i deeds)
bodies-ahead zero i [] = (tt, tt)
bodies-ahead (suc m) i [] = (tt, tt)
bodies-ahead m i (declares name what ∷ rest) = bodies-ahead m i rest
bodies-ahead m i (opens name decl ∷ rest) = bodies-ahead m i rest
bodies-ahead m i (does instr ∷ rest) = bodies-map (λ to. i + 1 ≤ to) (λ to. i ≤ to) (λ to h. omega (arith, h)) (cases_from m (i + 1) rest) (default_from m (i + 1) rest) (bodies-ahead m (i + 1) rest)
bodies-ahead m i (loops count ∷ rest) =
    bodies-map (λ to. i + 1 ≤ to) (λ to. i ≤ to) (λ to h. omega (arith, h)) (cases_from (suc m) (i + 1) rest) (default_from (suc m) (i + 1) rest) (bodies-ahead (suc m) (i + 1) rest)
bodies-ahead m i (selects ∷ rest) = bodies-ahead (suc m) i rest
bodies-ahead zero i (chooses kind ∷ rest) =
    let w = bodies-map (λ to. i + 1 ≤ to) (λ to. i ≤ to) (λ to h. omega (arith, h)) (cases_from 0 (i + 1) rest) (default_from 0 (i + 1) rest) (bodies-ahead 0 (i + 1) rest) in
    ((omega arith, w.0), w.1)
bodies-ahead (suc m) i (chooses kind ∷ rest) =
    bodies-map (λ to. i + 1 ≤ to) (λ to. i ≤ to) (λ to h. omega (arith, h)) (cases_from (suc m) (i + 1) rest) (default_from (suc m) (i + 1) rest) (bodies-ahead (suc m) (i + 1) rest)
bodies-ahead zero i (defaults ∷ rest) =
    let w = bodies-map (λ to. i + 1 ≤ to) (λ to. i ≤ to) (λ to h. omega (arith, h)) (cases_from 0 (i + 1) rest) (default_from 0 (i + 1) rest) (bodies-ahead 0 (i + 1) rest) in
    (w.0, omega arith)
bodies-ahead (suc m) i (defaults ∷ rest) =
    bodies-map (λ to. i + 1 ≤ to) (λ to. i ≤ to) (λ to h. omega (arith, h)) (cases_from (suc m) (i + 1) rest) (default_from (suc m) (i + 1) rest) (bodies-ahead (suc m) (i + 1) rest)
bodies-ahead zero i (closes ∷ rest) = (tt, tt)
bodies-ahead (suc m) i (closes ∷ rest) =
    bodies-map (λ to. i + 1 ≤ to) (λ to. i ≤ to) (λ to h. omega (arith, h)) (cases_from m (i + 1) rest) (default_from m (i + 1) rest) (bodies-ahead m (i + 1) rest)

-- and what is still to come of an outer block behind the end of an inner one
pub bodies-beyond : (a m i : ℕ) (deeds : List Deed) → a ≤ m → Bodies (λ to. i + span a deeds ≤ to) (cases_from (suc m) i deeds) (default_from (suc m) i deeds)
bodies-beyond a m i [] h = (tt, tt)
bodies-beyond a m i (declares name what ∷ rest) h = bodies-beyond a m i rest h
bodies-beyond a m i (opens name decl ∷ rest) h = bodies-beyond a m i rest h
bodies-beyond a m i (does instr ∷ rest) h =
    bodies-map (λ to. i + 1 + span a rest ≤ to) (λ to. i + (span a rest + 1) ≤ to) (λ to k. omega (arith, k)) (cases_from (suc m) (i + 1) rest) (default_from (suc m) (i + 1) rest) (bodies-beyond a m (i + 1) rest h)
bodies-beyond a m i (loops count ∷ rest) h =
    bodies-map (λ to. i + 1 + span (suc a) rest ≤ to) (λ to. i + (span (suc a) rest + 1) ≤ to) (λ to k. omega (arith, k)) (cases_from (suc (suc m)) (i + 1) rest) (default_from (suc (suc m)) (i + 1) rest)
    (bodies-beyond (suc a) (suc m) (i + 1) rest (omega (arith, h)))
bodies-beyond a m i (selects ∷ rest) h = bodies-beyond (suc a) (suc m) i rest (omega (arith, h))
bodies-beyond a m i (chooses kind ∷ rest) h =
    bodies-map (λ to. i + 1 + span a rest ≤ to) (λ to. i + (span a rest + 1) ≤ to) (λ to k. omega (arith, k)) (cases_from (suc m) (i + 1) rest) (default_from (suc m) (i + 1) rest) (bodies-beyond a m (i + 1) rest h)
bodies-beyond a m i (defaults ∷ rest) h =
    bodies-map (λ to. i + 1 + span a rest ≤ to) (λ to. i + (span a rest + 1) ≤ to) (λ to k. omega (arith, k)) (cases_from (suc m) (i + 1) rest) (default_from (suc m) (i + 1) rest) (bodies-beyond a m (i + 1) rest h)
bodies-beyond zero m i (closes ∷ rest) h = bodies-ahead m (i + 1) rest
bodies-beyond (suc a) zero i (closes ∷ rest) h = absurd (omega (arith, h))
bodies-beyond (suc a) (suc m) i (closes ∷ rest) h =
    bodies-map (λ to. i + 1 + span a rest ≤ to) (λ to. i + (span a rest + 1) ≤ to) (λ to k. omega (arith, k)) (cases_from (suc m) (i + 1) rest) (default_from (suc m) (i + 1) rest)
    (bodies-beyond a m (i + 1) rest (omega (arith, h)))

-- no loop from an index on reaches over a place
abbrev pub Clear : List Instr → ℕ → ℕ → Type 0
Clear code i to = (top depth count behind : ℕ) → slice_get code top ≡ Some (Instr.LoopTop depth count behind) → i ≤ top → top < to → behind ≤ to

-- the body of a case that is still to come begins there, in front of the end of its select
pub record GoodBody (code : List Instr) (i to past : ℕ) : Type 0 where
  pub ahead : i < to
  pub before : to < past
  pub clear : Clear code i to

pub body-before : (code : List Instr) (i to past before : ℕ) → past ≡ before → ((depth count behind : ℕ) → slice_get code i ≡ Some (Instr.LoopTop depth count behind) → behind ≤ to)
    → GoodBody code (i + 1) to past → GoodBody code i to before
body-before code i to past before same here b = record {
  ahead = omega (arith, b.ahead);
  before = omega (arith, b.before, same);
  clear = λ top depth count behind e from upto. elim (from-here i top from) [
    | inl k ↦ here depth count behind (ap (slice_get code) k ∙ e)
    | inr k ↦ b.clear top depth count behind e k upto
  ];
}
