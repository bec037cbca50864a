-- Two numbers are alike or not.
use Rattle.std.proofs.Common.{◌≡◌, ◌≢◌, ℕ, ◌==◌, sym, subst, Bool, true, false, inl, inr}
use Rattle.std.proofs.lemmas.Bool.Decides.{eqb_tells}

pub by-number : (i j : ℕ) (P : Bool → Type 0) → (i ≡ j → P true) → (j ≢ i → P false) → P (i == j)
by-number i j P same other = elim (eqb_tells i j) [ inl h ↦ subst P (sym h.0) (same h.1) | inr h ↦ subst P (sym h.0) (other (λ e. h.1 (sym e))) ]
