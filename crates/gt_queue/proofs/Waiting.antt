-- Who waits where after one queue has changed.
use Rattle.std.proofs.Common.{◌≡◌, ◌≢◌, ℕ, zero, suc, ◌<◌, ap, arith, map, List, [], ◌∷◌, ◌++◌, length, set, get_or-set_same, get_or-set_other, refl, sym, ◌∙◌, ◌⊎◌, inl, inr}
use Rattle.std.specs.List.{Contains}
use Rattle.std.proofs.lemmas.Bool.{cases_eq, cases_lt}
use Rattle.std.proofs.lemmas.Cmp.{nat_eq_equiv}
use Rattle.std.proofs.lemmas.List.{get_or_past}
use Rattle.std.proofs.lemmas.List.Elements.{Contains-append_left, Contains-push, Contains-push_cases}
use Rattle.std.proofs.lemmas.Map.Keys.{IsDistinct-push}
use Rattle.gt_queue.specs.Contents.{waiting_in, IsWaiting, IsLawful, without}
use Rattle.gt_queue.proofs.Members.{Contains-nil, Contains-without, without-keeps, without-absent, IsDistinct-without, list_any-absent}

-- where somebody waits there is a queue
pub queue_in : (queues : List (List ℕ)) (q m : ℕ) → Contains (waiting_in queues q) m → q < length queues
queue_in queues q m h =
    elim (cases_lt q (length queues)) [
      | inl l ↦ l
      | inr past ↦ Contains-nil m (rw (get_or_past queues q [] past) at h)
    ]

-- the queues with the member at the end of one
abbrev pub pushed : List (List ℕ) → ℕ → ℕ → List (List ℕ)
pushed queues q m = set queues q (waiting_in queues q ++ m ∷ [])

-- the queues without the member in one
abbrev pub removed : List (List ℕ) → ℕ → ℕ → List (List ℕ)
removed queues q m = set queues q (without (waiting_in queues q) m)

module _ (queues : List (List ℕ)) (q m : ℕ) where
  pub waiting_in-pushed_same : (p : ℕ) → q < length queues → p ≡ q → waiting_in (pushed queues q m) p ≡ waiting_in queues q ++ m ∷ []
  waiting_in-pushed_same p ql e = rw e (get_or-set_same queues q (waiting_in queues q ++ m ∷ []) [] ql)

  pub waiting_in-pushed_other : (p : ℕ) → p ≢ q → waiting_in (pushed queues q m) p ≡ waiting_in queues p
  waiting_in-pushed_other p n = get_or-set_other queues q p (waiting_in queues q ++ m ∷ []) [] n

  -- who waited still does
  pub kept_by_push : (p y : ℕ) → q < length queues → Contains (waiting_in queues p) y → Contains (waiting_in (pushed queues q m) p) y
  kept_by_push p y ql h =
      elim (cases_eq p q) [
        | inl e ↦ rw (waiting_in-pushed_same p ql e) (Contains-append_left (waiting_in queues q) (m ∷ []) y (rw e at h))
        | inr n ↦ rw (waiting_in-pushed_other p n) h
      ]

  -- the new one waits
  pub added_by_push : q < length queues → Contains (waiting_in (pushed queues q m) q) m
  added_by_push ql = rw (waiting_in-pushed_same q ql refl) (Contains-push (waiting_in queues q) m)

  -- who waits did before, or is the new one
  pub waited_or_pushed : (p y : ℕ) → q < length queues → Contains (waiting_in (pushed queues q m) p) y → Contains (waiting_in queues p) y ⊎ ((p ≡ q) × (m ≡ y))
  waited_or_pushed p y ql h =
      elim (cases_eq p q) [
        | inl e ↦
            elim (Contains-push_cases (waiting_in queues q) m y (rw (waiting_in-pushed_same p ql e) at h)) [
              | inl old ↦ inl (rw e old)
              | inr new ↦ inr (e, new)
            ]
        | inr n ↦ inl (rw (waiting_in-pushed_other p n) at h)
      ]

  pub IsLawful-pushed : (members : ℕ) → q < length queues → m < members → (IsWaiting queues m → ⊥) → IsLawful (record { queues = queues; members = members }) → IsLawful (record { queues = pushed queues q m; members = members })
  IsLawful-pushed members ql ml free lawful = record {
    below = λ p y h.
        elim (waited_or_pushed p y ql h) [
          | inl old ↦ lawful.below p y old
          | inr new ↦ rw (← new.1) ml
        ];
    apart = λ p r y h k.
        elim (waited_or_pushed p y ql h) [
          | inl old ↦
              elim (waited_or_pushed r y ql k) [
                | inl other ↦ lawful.apart p r y old other
                | inr new ↦ absurd (free (p, rw new.1 old))
              ]
          | inr new ↦
              elim (waited_or_pushed r y ql k) [
                | inl other ↦ absurd (free (r, rw new.1 other))
                | inr also ↦ new.0 ∙ sym also.0
              ]
        ];
    once = λ p.
        elim (cases_eq p q) [
          | inl e ↦
              rw (waiting_in-pushed_same p ql e)
              (IsDistinct-push nat_eq_equiv (waiting_in queues q) m (lawful.once q) (list_any-absent m (waiting_in queues q) (λ h. free (q, h))))
          | inr n ↦ rw (waiting_in-pushed_other p n) (lawful.once p)
        ];
  }

  -- everywhere the member is gone, as it stood in that queue alone
  pub waiting_in-removed : (members p : ℕ) → Contains (waiting_in queues q) m → IsLawful (record { queues = queues; members = members }) → waiting_in (removed queues q m) p ≡ without (waiting_in queues p) m
  waiting_in-removed members p stands lawful =
      elim (cases_eq p q) [
        | inl e ↦ rw e (get_or-set_same queues q (without (waiting_in queues q) m) [] (queue_in queues q m stands))
        | inr n ↦
            get_or-set_other queues q p (without (waiting_in queues q) m) [] n
            ∙ sym (without-absent m (waiting_in queues p) (λ h. n (lawful.apart p q m h stands)))
      ]

  -- who waits did before
  pub waited : (members p y : ℕ) → Contains (waiting_in queues q) m → IsLawful (record { queues = queues; members = members }) → Contains (waiting_in (removed queues q m) p) y → Contains (waiting_in queues p) y
  waited members p y stands lawful h =
      (Contains-without m y (waiting_in queues p) (rw (waiting_in-removed members p stands lawful) at h)).0

  -- the others wait still
  pub kept_by_remove : (members p y : ℕ) → Contains (waiting_in queues q) m → IsLawful (record { queues = queues; members = members }) → y ≢ m → Contains (waiting_in queues p) y → Contains (waiting_in (removed queues q m) p) y
  kept_by_remove members p y stands lawful n h =
      rw (waiting_in-removed members p stands lawful) (without-keeps m y (waiting_in queues p) h n)

  pub IsLawful-removed : (members : ℕ) → Contains (waiting_in queues q) m → IsLawful (record { queues = queues; members = members }) → IsLawful (record { queues = removed queues q m; members = members })
  IsLawful-removed members stands lawful = record {
    below = λ p y h. lawful.below p y (waited members p y stands lawful h);
    apart = λ p r y h k. lawful.apart p r y (waited members p y stands lawful h) (waited members r y stands lawful k);
    once = λ p. rw (waiting_in-removed members p stands lawful) (IsDistinct-without m (waiting_in queues p) (lawful.once p));
  }

-- a change that leaves each item as it is leaves the list as it is
map-same : (f : List ℕ → List ℕ) (xs : List (List ℕ)) → ((p : ℕ) → f (waiting_in xs p) ≡ waiting_in xs p) → map f xs ≡ xs
map-same f [] same = refl
map-same f (x ∷ xs) same = ap (λ y. y ∷ map f xs) (same 0) ∙ ap (λ ys. x ∷ ys) (map-same f xs (λ p. same (suc p)))

-- one that leaves all others as they are changes that one alone
map-one : (f : List ℕ → List ℕ) (xs : List (List ℕ)) (q : ℕ) → ((p : ℕ) → p ≢ q → f (waiting_in xs p) ≡ waiting_in xs p) → map f xs ≡ set xs q (f (waiting_in xs q))
map-one f [] q same = refl
map-one f (x ∷ xs) zero same = ap (λ ys. f x ∷ ys) (map-same f xs (λ p. same (suc p) (λ e. absurd (omega arith))))
map-one f (x ∷ xs) (suc q) same =
    ap (λ y. y ∷ map f xs) (same 0 (λ e. absurd (omega arith)))
    ∙ ap (λ ys. x ∷ ys) (map-one f xs q (λ p n. same (suc p) (λ e. n (omega arith))))

-- without somebody who stands in one queue alone
pub without-one : (queues : List (List ℕ)) (members q m : ℕ) → IsLawful (record { queues = queues; members = members }) → Contains (waiting_in queues q) m
    → map (λ waiting. without waiting m) queues ≡ removed queues q m
without-one queues members q m lawful stands =
    map-one (λ waiting. without waiting m) queues q (λ p n. without-absent m (waiting_in queues p) (λ h. n (lawful.apart p q m h stands)))

-- without somebody who stands in none
pub without-none : (queues : List (List ℕ)) (m : ℕ) → ¬ IsWaiting queues m → map (λ waiting. without waiting m) queues ≡ queues
without-none queues m free = map-same (λ waiting. without waiting m) queues (λ p. without-absent m (waiting_in queues p) (λ h. free (p, h)))
