-- Rings of nodes, seen as two functions that undo each other, and what an exchange leaves of them.
use Rattle.std.proofs.Common.{◌≡◌, ℕ, ◌<◌, List, length, get_or, sym, ◌∙◌, ap, inl, inr}
use Rattle.std.proofs.lemmas.Bool.{cases_eq}
use Rattle.std.proofs.lemmas.List.Edits.{Swapped}
use Rattle.gt_queue.specs.Links.{AreRings}

-- f and g undo each other below n
pub record AreInverse (n : ℕ) (f g : ℕ → ℕ) : Type 0 where
  pub f_in : (k : ℕ) → k < n → f k < n
  pub g_in : (k : ℕ) → k < n → g k < n
  pub back : (k : ℕ) → k < n → g (f k) ≡ k
  pub forth : (k : ℕ) → k < n → f (g k) ≡ k

-- f has another value at another place
pub same_place : (n : ℕ) (f g : ℕ → ℕ) → AreInverse n f g → (i j : ℕ) → i < n → j < n → f i ≡ f j → i ≡ j
same_place n f g r i j il jl e = sym (r.back i il) ∙ ap g e ∙ r.back j jl

-- two values exchanged stay below n
swapped_in : (n : ℕ) (f f' : ℕ → ℕ) (a b : ℕ) → a < n → b < n → Swapped f f' a b → ((k : ℕ) → k < n → f k < n) → (k : ℕ) → k < n → f' k < n
swapped_in n f f' a b al bl s h k kl =
    elim (cases_eq k a) [
      | inl ka ↦ rw (ka, s.0) (h b bl)
      | inr ka ↦
          elim (cases_eq k b) [
            | inl kb ↦ rw (kb, s.1) (h a al)
            | inr kb ↦ rw (s.2 k ka kb) (h k kl)
          ]
    ]

-- g' is g with its values at x and y exchanged, and f' is f with those at g x and g y: then f' undoes g'
swapped_forth : (n : ℕ) (f g f' g' : ℕ → ℕ) (x y : ℕ) → x < n → y < n → AreInverse n f g → Swapped f f' (g x) (g y) → Swapped g g' x y → (k : ℕ) → k < n → f' (g' k) ≡ k
swapped_forth n f g f' g' x y xl yl r s t k kl =
    elim (cases_eq k x) [
      | inl kx ↦ rw (kx, t.0, s.1) (r.forth x xl)
      | inr kx ↦
          elim (cases_eq k y) [
            | inl ky ↦ rw (ky, t.1, s.0) (r.forth y yl)
            | inr ky ↦
                rw (t.2 k kx ky)
                (s.2 (g k)
                (λ e. kx (sym (r.forth k kl) ∙ ap f e ∙ r.forth x xl))
                (λ e. ky (sym (r.forth k kl) ∙ ap f e ∙ r.forth y yl))
                ∙ r.forth k kl)
          ]
    ]

-- and g' undoes f'
swapped_back : (n : ℕ) (f g f' g' : ℕ → ℕ) (x y : ℕ) → x < n → y < n → AreInverse n f g → Swapped f f' (g x) (g y) → Swapped g g' x y → (k : ℕ) → k < n → g' (f' k) ≡ k
swapped_back n f g f' g' x y xl yl r s t k kl =
    elim (cases_eq k (g x)) [
      | inl kx ↦ rw (kx, s.0, r.forth y yl, t.1)
      | inr kx ↦
          elim (cases_eq k (g y)) [
            | inl ky ↦ rw (ky, s.1, r.forth x xl, t.0)
            | inr ky ↦
                rw (s.2 k kx ky)
                (t.2 (f k)
                (λ e. kx (sym (r.back k kl) ∙ ap g e))
                (λ e. ky (sym (r.back k kl) ∙ ap g e))
                ∙ r.back k kl)
          ]
    ]

pub AreInverse-swapped : (n : ℕ) (f g f' g' : ℕ → ℕ) (x y : ℕ) → x < n → y < n → AreInverse n f g → Swapped f f' (g x) (g y) → Swapped g g' x y → AreInverse n f' g'
AreInverse-swapped n f g f' g' x y xl yl r s t = record {
  f_in = swapped_in n f f' (g x) (g y) (r.g_in x xl) (r.g_in y yl) s r.f_in;
  g_in = swapped_in n g g' x y xl yl t r.g_in;
  back = swapped_back n f g f' g' x y xl yl r s t;
  forth = swapped_forth n f g f' g' x y xl yl r s t;
}

-- the links as functions
pub AreInverse-from_rings : (next prev : List ℕ) → AreRings next prev → AreInverse (length next) (λ k. get_or next k 0) (λ k. get_or prev k 0)
AreInverse-from_rings next prev r = record {
  f_in = r.next_in;
  g_in = r.prev_in;
  back = r.back;
  forth = r.forth;
}
