-- How a standing note stays in sight where the words of its heap, or the phase of its heap's seat, change.
use Rattle.std.proofs.Common.{◌≡◌, ◌+◌, ◌<◌, ◌≤◌, ℕ, Bool, true, false, IsTrue, cond, eqb, ltb, min, refl, ◌∙◌, inl, inr, arith}
use Rattle.std.proofs.lemmas.Bool.{ltb-true, cases_lt}
use Rattle.gt_word_table.specs.declared.view.Note.{Note}
use Rattle.gt_word_table.specs.declared.view.Phase.{Phase}
use Rattle.gt_word_table.specs.Views.{lowered}
use Rattle.gt_word_table.specs.Rule.{Covers, is_bumped}

pub false_true : {P : Type 0} → IsTrue false → P
false_true h = cc

-- a lesser modified word
pub Covers-less : (b : Bool) (a h c a' h' c' : ℕ) (m : Note) → a' ≤ a → h' ≡ h → c' ≡ c → Covers b a h c m → Covers b a' h' c' m
Covers-less b a h c a' h' c' m less same_heap same_count v = record {
  counted = let l = v.counted in omega arith;
  least = λ e. let l = v.least (e ∙ same_count) in omega arith;
  modified_least = λ e t. let l = v.modified_least (e ∙ same_count) t in omega arith;
  passed = λ t e. let l = v.passed t (e ∙ same_count) in omega arith;
  passed_bumped = λ t u. let l = v.passed_bumped t u in omega arith;
  behind = λ t. let l = v.behind t in omega arith;
}

count_risen : (a b : ℕ) → a ≤ b → (a ≡ b → ⊥) → a < b
count_risen a b le ne = elim (cases_lt a b) [ inl less ↦ less | inr more ↦ absurd (ne (omega arith)) ]

-- the modified word is loaded
pub Covers-passed_at : (b : Bool) (a h c q : ℕ) (m : Note) → (m.heap ≡ q → Covers b a h c m) → m.heap ≡ q → Covers b a h c (record m { passed = ltb m.when a })
Covers-passed_at b a h c q m covers here = let v = covers here in record {
  counted = v.counted;
  least = v.least;
  modified_least = v.modified_least;
  passed = λ t e. let l = v.least e in let above = ltb-true m.when a t in omega arith;
  passed_bumped = λ t u. let above = ltb-true m.when a t in count_risen m.count c v.counted (λ e. let l = v.modified_least e u in omega arith);
  behind = v.behind;
}

-- the heap word is loaded, and is above the note like the modified word before
pub Covers-behind : (b : Bool) (a h c : ℕ) (m : Note) → Covers b a h c m → IsTrue m.passed → m.when < h → Covers b a h c (record m { behind = true })
Covers-behind b a h c m v passed above = record {
  counted = v.counted;
  least = v.least;
  modified_least = v.modified_least;
  passed = v.passed;
  passed_bumped = v.passed_bumped;
  behind = λ _. count_risen m.count c v.counted (λ e. let l = v.passed passed e in omega arith);
}

-- a heap's seat that is bumped no longer
pub Covers-seen : (b : Bool) (a h c : ℕ) (m : Note) → Covers b a h c m → Covers false a h c m
Covers-seen b a h c m v = record {
  counted = v.counted;
  least = v.least;
  modified_least = λ _ t. false_true t;
  passed = v.passed;
  passed_bumped = λ _ t. false_true t;
  behind = v.behind;
}

pub is_bumped-lowered : (p : Phase) (v : ℕ) → is_bumped (lowered p v) ≡ is_bumped p
is_bumped-lowered Phase.Free v = refl
is_bumped-lowered (Phase.Seen u) v = elim (eqb u v) as (λ b. is_bumped (cond b (Phase.Low u) (Phase.Seen u)) ≡ false) [ true ↦ refl | false ↦ refl ]
is_bumped-lowered (Phase.Low u) v = refl
is_bumped-lowered Phase.Cleared v = refl
is_bumped-lowered Phase.Bumped v = refl

pub Covers-lowered : (b : Bool) (a h c v : ℕ) (m : Note) → Covers b a h c m → Covers b a (min h v) c m
Covers-lowered b a h c v m w = record {
  counted = w.counted;
  least = λ e. let l = w.least e in omega arith;
  modified_least = w.modified_least;
  passed = λ t e. let l = w.passed t e in omega arith;
  passed_bumped = w.passed_bumped;
  behind = w.behind;
}

-- the modified word that the heap word was lowered to goes
pub Covers-cleared : (a h c n : ℕ) (m : Note) → Covers false a h c m → h ≤ a → Covers false n h c m
Covers-cleared a h c n m v low = record {
  counted = v.counted;
  least = λ e. let l = v.least e in omega arith;
  modified_least = λ _ t. false_true t;
  passed = v.passed;
  passed_bumped = λ _ t. false_true t;
  behind = v.behind;
}

pub Covers-bumped : (a h c : ℕ) (m : Note) → Covers false a h c m → Covers true a h (c + 1) m
Covers-bumped a h c m v = let k = v.counted in record {
  counted = omega arith;
  least = λ e. absurd (omega arith);
  modified_least = λ e _. absurd (omega arith);
  passed = λ _ e. absurd (omega arith);
  passed_bumped = λ _ _. omega arith;
  behind = λ t. let l = v.behind t in omega arith;
}

pub Covers-raised : (a h c v : ℕ) (m : Note) → Covers true a h c m → Covers false a v c m
Covers-raised a h c v m w = record {
  counted = w.counted;
  least = λ e. let l = w.modified_least e refl in omega arith;
  modified_least = λ _ t. false_true t;
  passed = λ t e. let l = w.passed_bumped t refl in absurd (omega arith);
  passed_bumped = λ _ t. false_true t;
  behind = w.behind;
}
