-- The nodes of one key, taken out one after the other.
use Rattle.std.proofs.Common.{◌≡◌, ◌≢◌, ℕ, zero, suc, ◌+◌, ◌*◌, ◌/◌, ◌%◌, ◌<◌, ◌≤◌, ◌⊎◌, List, [], ◌∷◌, length, map, set, get_or-set_same, get_or-set_other, refl, sym, ap, ◌∙◌, inl, inr, arith}
use Rattle.std.specs.List.{Contains}
use Rattle.std.proofs.lemmas.Bool.{cases_eq, cases_lt, eq-eqb, ne_eqb}
use Rattle.std.proofs.lemmas.List.{set-set}
use Rattle.std.proofs.lemmas.Nat.{div-add-mod'}
use Rattle.gt_queue.specs.Contents.{waiting_in, without}
use Rattle.gt_queue.proofs.Members.{without-same, without-other, Contains-here, Contains-there, Contains-without}
use Rattle.gt_select.specs.Kept.{without_run, without_key, IsReached}

-- a node of the run is gone, and another one stays
without_run-outside : (x first n : ℕ) (xs : List ℕ) → (x < first) ⊎ (first + n ≤ x) → without_run (x ∷ xs) first n ≡ x ∷ without_run xs first n
without_run-outside x first zero xs out = refl
without_run-outside x first (suc n) xs out =
    let other : x ≢ first + n = λ e. elim out [ inl low ↦ omega arith | inr high ↦ omega arith ] in
    let still : (x < first) ⊎ (first + n ≤ x) = elim out [ inl low ↦ inl low | inr high ↦ inr (omega arith) ] in
    ap (λ ys. without ys (first + n)) (without_run-outside x first n xs still)
    ∙ without-other (first + n) x (without_run xs first n) other

without_run-inside : (x first n : ℕ) (xs : List ℕ) → first ≤ x → x < first + n → without_run (x ∷ xs) first n ≡ without_run xs first n
without_run-inside x first zero xs above below = absurd (omega arith)
without_run-inside x first (suc n) xs above below =
    elim (cases_eq x (first + n)) [
      | inl e ↦
          ap (λ ys. without ys (first + n)) (without_run-outside x first n xs (inr (omega arith)))
          ∙ without-same (first + n) x (without_run xs first n) e
      | inr k ↦ ap (λ ys. without ys (first + n)) (without_run-inside x first n xs above (omega arith))
    ]

without_run-empty : (first n : ℕ) → without_run [] first n ≡ []
without_run-empty first zero = refl
without_run-empty first (suc n) = ap (λ ys. without ys (first + n)) (without_run-empty first n)

pub without_key-same : (x key : ℕ) (xs : List ℕ) → x / 17 ≡ key → without_key (x ∷ xs) key ≡ without_key xs key
without_key-same x key xs e = rw (eq-eqb (x / 17) key e) refl

pub without_key-other : (x key : ℕ) (xs : List ℕ) → x / 17 ≢ key → without_key (x ∷ xs) key ≡ x ∷ without_key xs key
without_key-other x key xs n = rw (ne_eqb (x / 17) key n) refl

-- the run of a key, as far as one of it stands there
pub without_run-key : (key most : ℕ) (xs : List ℕ) → most ≤ 16 → IsReached xs key most → without_run xs (key * 17) (most + 1) ≡ without_key xs key
without_run-key key most [] small reached = without_run-empty (key * 17) (most + 1)
without_run-key key most (x ∷ xs) small reached =
    let rest = without_run-key key most xs small (λ y h. reached y (Contains-there x y xs h)) in
    elim (cases_eq (x / 17) key) [
      | inl e ↦
          let below = within (reached x (Contains-here x xs) e) e in
          without_run-inside x (key * 17) (most + 1) xs (omega arith) below
          ∙ rest
          ∙ sym (without_key-same x key xs e)
      | inr n ↦
          without_run-outside x (key * 17) (most + 1) xs
          (elim (cases_lt x (key * 17)) [ inl low ↦ inl low | inr high ↦ inr (past high n) ])
          ∙ ap (λ ys. x ∷ ys) rest
          ∙ sym (without_key-other x key xs n)
    ]
  where
    within : x % 17 ≤ most → x / 17 ≡ key → x < key * 17 + (most + 1)
    within low e = let whole = div-add-mod' x 17 in omega arith

    past : key * 17 ≤ x → x / 17 ≢ key → key * 17 + (most + 1) ≤ x
    past high n =
        elim (cases_lt x (key * 17 + 17)) [
          | inl low ↦ absurd (n (omega arith))
          | inr ok ↦ omega arith
        ]

-- one more node is taken out, of all lists and of one
pub map-without_run : (queues : List (List ℕ)) (first n : ℕ) → map (λ waiting. without waiting (first + n)) (map (λ waiting. without_run waiting first n) queues) ≡ map (λ waiting. without_run waiting first (suc n)) queues
map-without_run [] first n = refl
map-without_run (x ∷ queues) first n = ap (λ ys. without_run x first (suc n) ∷ ys) (map-without_run queues first n)

pub map-without_none : (queues : List (List ℕ)) (first : ℕ) → map (λ waiting. without_run waiting first 0) queues ≡ queues
map-without_none [] first = refl
map-without_none (x ∷ queues) first = ap (λ ys. x ∷ ys) (map-without_none queues first)

pub map-without_key : (queues : List (List ℕ)) (key most : ℕ) → most ≤ 16 → ((q : ℕ) → IsReached (waiting_in queues q) key most) → map (λ waiting. without_run waiting (key * 17) (most + 1)) queues ≡ map (λ waiting. without_key waiting key) queues
map-without_key [] key most small reached = refl
map-without_key (x ∷ queues) key most small reached =
    ap (λ y. y ∷ map (λ waiting. without_run waiting (key * 17) (most + 1)) queues) (without_run-key key most x small (reached 0))
    ∙ ap (λ ys. without_key x key ∷ ys) (map-without_key queues key most small (λ q. reached (suc q)))

-- one more node is taken out of one list
pub set-without_run : (queues : List (List ℕ)) (queue first n : ℕ) → queue < length queues
    → let now : List (List ℕ) = set queues queue (without_run (waiting_in queues queue) first n) in
    set now queue (without (waiting_in now queue) (first + n)) ≡ set queues queue (without_run (waiting_in queues queue) first (suc n))
set-without_run queues queue first n ql =
    let now : List (List ℕ) = set queues queue (without_run (waiting_in queues queue) first n) in
    let here : waiting_in now queue ≡ without_run (waiting_in queues queue) first n = get_or-set_same queues queue (without_run (waiting_in queues queue) first n) [] ql in
    ap (λ xs. set now queue (without xs (first + n))) here
    ∙ set-set queues queue (without_run (waiting_in queues queue) first n) (without_run (waiting_in queues queue) first (suc n))

-- who is left was there
pub Contains-without_run : (y first n : ℕ) (xs : List ℕ) → Contains (without_run xs first n) y → Contains xs y
Contains-without_run y first zero xs h = h
Contains-without_run y first (suc n) xs h =
    Contains-without_run y first n xs (Contains-without (first + n) y (without_run xs first n) h).0

pub Contains-set_run : (queues : List (List ℕ)) (queue first n q y : ℕ) → queue < length queues → Contains (waiting_in (set queues queue (without_run (waiting_in queues queue) first n)) q) y → Contains (waiting_in queues q) y
Contains-set_run queues queue first n q y ql h =
    let xs = without_run (waiting_in queues queue) first n in
    elim (cases_eq q queue) [
      | inl same ↦
          rw same
          (Contains-without_run y first n (waiting_in queues queue) (rw (same, get_or-set_same queues queue xs [] ql) at h))
      | inr other ↦ rw (get_or-set_other queues queue q xs [] other) at h
    ]
