-- Where a member came to stand in front of another one: who waits, and that the links make it.
use Rattle.std.proofs.Common.{◌≡◌, ◌≢◌, ℕ, ◌+◌, ◌<◌, ◌⊎◌, inl, inr, false, eqb, List, [], ◌∷◌, length, get_or, set, length-set, get_or-set_same, get_or-set_other, refl, sym, ◌∙◌, ap, arith}
use Rattle.std.specs.List.{Contains, IsDistinct, AllByRecursion, swap}
use Rattle.std.proofs.lemmas.Bool.{cases_eq, eq-eqb, ne_eqb}
use Rattle.std.proofs.lemmas.List.Edits.{length-swap}
use Rattle.std.proofs.lemmas.Map.Keys.{IsDistinct-head, IsDistinct-tail, IsDistinct-cons}
use Rattle.gt_queue.specs.Contents.{waiting_in, IsWaiting, IsLawful, put_before}
use Rattle.gt_queue.specs.Links.{linked_queues, Leads, IsLinked}
use Rattle.gt_queue.proofs.Members.{Contains-nil, Contains-here, Contains-there, Contains_cases, IsDistinct-apart}
use Rattle.gt_queue.proofs.Paths.{passing, passing-same, passing-other}
use Rattle.gt_queue.proofs.Waiting.{queue_in}
use Rattle.gt_queue.proofs.Changes.{AreRings-swapped, joined_goes, joined_to, not_alone_if_waiting, Makes, Makes-linked}

pub put_before-same : (x other m : ℕ) (xs : List ℕ) → x ≡ other → put_before (x ∷ xs) other m ≡ m ∷ x ∷ xs
put_before-same x other m xs e = rw (eq-eqb x other e) refl

pub put_before-other : (x other m : ℕ) (xs : List ℕ) → x ≢ other → put_before (x ∷ xs) other m ≡ x ∷ put_before xs other m
put_before-other x other m xs n = rw (ne_eqb x other n) refl

-- where the other one does not stand nothing changes
pub put_before-absent : (other m : ℕ) (xs : List ℕ) → (Contains xs other → ⊥) → put_before xs other m ≡ xs
put_before-absent other m [] h = refl
put_before-absent other m (x ∷ xs) h =
    put_before-other x other m xs (λ e. h (rw (← e) (Contains-here x xs)))
    ∙ ap (λ ys. x ∷ ys) (put_before-absent other m xs (λ g. h (Contains-there x other xs g)))

-- who stood there still does
pub put_before-keeps : (other m y : ℕ) (xs : List ℕ) → Contains xs y → Contains (put_before xs other m) y
put_before-keeps other m y [] h = Contains-nil y h
put_before-keeps other m y (x ∷ xs) h =
    elim (cases_eq x other) [
      | inl e ↦ rw (put_before-same x other m xs e) (Contains-there m y (x ∷ xs) h)
      | inr n ↦
          rw (put_before-other x other m xs n)
          (elim (Contains_cases x y xs h) [
            | inl f ↦ rw (← f) (Contains-here x (put_before xs other m))
            | inr g ↦ Contains-there x y (put_before xs other m) (put_before-keeps other m y xs g)
          ])
    ]

-- and so does the new one
pub put_before-adds : (other m : ℕ) (xs : List ℕ) → Contains xs other → Contains (put_before xs other m) m
put_before-adds other m [] h = Contains-nil other h
put_before-adds other m (x ∷ xs) h =
    elim (cases_eq x other) [
      | inl e ↦ rw (put_before-same x other m xs e) (Contains-here m (x ∷ xs))
      | inr n ↦
          rw (put_before-other x other m xs n)
          (elim (Contains_cases x other xs h) [
            | inl f ↦ absurd (n f)
            | inr g ↦ Contains-there x m (put_before xs other m) (put_before-adds other m xs g)
          ])
    ]

-- and nobody else
pub Contains-put_before : (other m y : ℕ) (xs : List ℕ) → Contains (put_before xs other m) y → Contains xs y ⊎ (m ≡ y)
Contains-put_before other m y [] h = Contains-nil y h
Contains-put_before other m y (x ∷ xs) h =
    elim (cases_eq x other) [
      | inl e ↦
          elim (Contains_cases m y (x ∷ xs) (rw (put_before-same x other m xs e) at h)) [
            | inl new ↦ inr new
            | inr old ↦ inl old
          ]
      | inr n ↦
          elim (Contains_cases x y (put_before xs other m) (rw (put_before-other x other m xs n) at h)) [
            | inl f ↦ inl (rw (← f) (Contains-here x xs))
            | inr g ↦
                elim (Contains-put_before other m y xs g) [
                  | inl old ↦ inl (Contains-there x y xs old)
                  | inr new ↦ inr new
                ]
          ]
    ]

AllByRecursion-put_before : (P : ℕ → Type 0) (other m : ℕ) (xs : List ℕ) → P m → AllByRecursion P xs → AllByRecursion P (put_before xs other m)
AllByRecursion-put_before P other m [] p h = h
AllByRecursion-put_before P other m (x ∷ xs) p h =
    elim (cases_eq x other) [
      | inl e ↦ rw (put_before-same x other m xs e) (p, h)
      | inr n ↦ rw (put_before-other x other m xs n) (h.0, AllByRecursion-put_before P other m xs p h.1)
    ]

-- nobody there is the new one
AllByRecursion-apart : (m : ℕ) (xs : List ℕ) → (Contains xs m → ⊥) → AllByRecursion (λ y. eqb m y ≡ false) xs
AllByRecursion-apart m [] h = tt
AllByRecursion-apart m (x ∷ xs) h = (
  ne_eqb m x (λ e. h (rw e (Contains-here x xs))),
  AllByRecursion-apart m xs (λ g. h (Contains-there x m xs g)),
)

pub IsDistinct-put_before : (other m : ℕ) (xs : List ℕ) → (Contains xs m → ⊥) → IsDistinct eqb xs → IsDistinct eqb (put_before xs other m)
IsDistinct-put_before other m [] h d = d
IsDistinct-put_before other m (x ∷ xs) h d =
    elim (cases_eq x other) [
      | inl e ↦
          rw (put_before-same x other m xs e)
          (IsDistinct-cons eqb m (x ∷ xs) (AllByRecursion-apart m (x ∷ xs) h) d)
      | inr n ↦
          rw (put_before-other x other m xs n)
          (IsDistinct-cons eqb x (put_before xs other m)
          (AllByRecursion-put_before _ other m xs (ne_eqb x m (λ e. h (rw (← e) (Contains-here x xs)))) (IsDistinct-head eqb x xs d))
          (IsDistinct-put_before other m xs (λ g. h (Contains-there x m xs g)) (IsDistinct-tail eqb x xs d)))
    ]

-- f' goes where f goes, but to m in place of the other one, and from m to that one
Leads-put_before : (f f' : ℕ → ℕ) (other m : ℕ) → f' m ≡ other → (xs : List ℕ) (node end : ℕ) → IsDistinct eqb xs → end ≢ other → ((x : ℕ) → Contains xs x → f' x ≡ passing other m (f x)) → Leads f node xs end → Leads f' (passing other m node) (put_before xs other m) end
unfolding Leads
Leads-put_before f f' other m to [] node end d apart goes path =
    passing-other other m node (λ e. apart (sym path ∙ e)) ∙ path
Leads-put_before f f' other m to (x ∷ xs) node end d apart goes path =
    let rest = Leads-put_before f f' other m to xs (f x) end (IsDistinct-tail eqb x xs d) apart (λ y h. goes y (Contains-there x y xs h)) path.1 in
    let here = goes x (Contains-here x xs) in
    elim (cases_eq x other) [
      | inl e ↦
          let absent : Contains xs other → ⊥ = λ h. IsDistinct-apart x xs d (rw e h) in
          rw (put_before-same x other m xs e, passing-same other m node (path.0 ∙ e))
          (refl, (to ∙ sym e, rw here (rw (put_before-absent other m xs absent) at rest)))
      | inr n ↦
          rw (put_before-other x other m xs n, passing-other other m node (λ e. n (sym path.0 ∙ e)))
          (path.0, rw here rest)
    ]

-- the queues with the member in front of the other one in one of them
abbrev pub inserted : List (List ℕ) → ℕ → ℕ → ℕ → List (List ℕ)
inserted queues q other m = set queues q (put_before (waiting_in queues q) other m)

module _ (queues : List (List ℕ)) (q other m : ℕ) (stands : Contains (waiting_in queues q) other) where
  waiting_in-inserted_same : (p : ℕ) → p ≡ q → waiting_in (inserted queues q other m) p ≡ put_before (waiting_in queues q) other m
  waiting_in-inserted_same p e = rw e (get_or-set_same queues q (put_before (waiting_in queues q) other m) [] (queue_in queues q other stands))

  waiting_in-inserted_other : (p : ℕ) → p ≢ q → waiting_in (inserted queues q other m) p ≡ waiting_in queues p
  waiting_in-inserted_other p n = get_or-set_other queues q p (put_before (waiting_in queues q) other m) [] n

  -- everywhere the member stands in front of the other one, as that one stands in that queue alone
  pub waiting_in-inserted : (members p : ℕ) → IsLawful (record { queues = queues; members = members }) → waiting_in (inserted queues q other m) p ≡ put_before (waiting_in queues p) other m
  waiting_in-inserted members p lawful =
      elim (cases_eq p q) [
        | inl e ↦ waiting_in-inserted_same p e ∙ ap (λ k. put_before (waiting_in queues k) other m) (sym e)
        | inr n ↦ waiting_in-inserted_other p n ∙ sym (put_before-absent other m (waiting_in queues p) (λ h. n (lawful.apart p q other h stands)))
      ]

  -- who waited still does
  pub kept_by_insert : (p y : ℕ) → Contains (waiting_in queues p) y → Contains (waiting_in (inserted queues q other m) p) y
  kept_by_insert p y h =
      elim (cases_eq p q) [
        | inl e ↦ rw (waiting_in-inserted_same p e) (put_before-keeps other m y (waiting_in queues q) (rw e at h))
        | inr n ↦ rw (waiting_in-inserted_other p n) h
      ]

  -- the new one waits
  pub added_by_insert : Contains (waiting_in (inserted queues q other m) q) m
  added_by_insert = rw (waiting_in-inserted_same q refl) (put_before-adds other m (waiting_in queues q) stands)

  -- who waits did before, or is the new one
  pub waited_or_inserted : (p y : ℕ) → Contains (waiting_in (inserted queues q other m) p) y → Contains (waiting_in queues p) y ⊎ ((p ≡ q) × (m ≡ y))
  waited_or_inserted p y h =
      elim (cases_eq p q) [
        | inl e ↦
            elim (Contains-put_before other m y (waiting_in queues q) (rw (waiting_in-inserted_same p e) at h)) [
              | inl old ↦ inl (rw e old)
              | inr new ↦ inr (e, new)
            ]
        | inr n ↦ inl (rw (waiting_in-inserted_other p n) at h)
      ]

  IsLawful-inserted : (members : ℕ) → m < members → (IsWaiting queues m → ⊥) → IsLawful (record { queues = queues; members = members }) → IsLawful (record { queues = inserted queues q other m; members = members })
  IsLawful-inserted members ml free lawful = record {
    below = λ p y h.
        elim (waited_or_inserted p y h) [
          | inl old ↦ lawful.below p y old
          | inr new ↦ rw (← new.1) ml
        ];
    apart = λ p r y h k.
        elim (waited_or_inserted p y h) [
          | inl old ↦
              elim (waited_or_inserted r y k) [
                | inl also ↦ lawful.apart p r y old also
                | inr new ↦ absurd (free (p, rw new.1 old))
              ]
          | inr new ↦
              elim (waited_or_inserted r y k) [
                | inl old ↦ absurd (free (r, rw new.1 old))
                | inr also ↦ new.0 ∙ sym also.0
              ]
        ];
    once = λ p.
        rw (waiting_in-inserted members p lawful)
        (IsDistinct-put_before other m (waiting_in queues p) (λ h. free (p, h)) (lawful.once p));
  }

module _ (members : ℕ) (next prev : List ℕ) (queues : List (List ℕ)) (l : IsLinked members next prev queues) (q other m : ℕ) (stands : Contains (waiting_in queues q) other) (ml : m < members) (free : IsWaiting queues m → ⊥) where
  abbrev next' : List ℕ
  next' = swap next (get_or prev other 0) (get_or prev m 0)

  IsLinked-inserted : IsLinked members next' (swap prev other m) (inserted queues q other m)
  IsLinked-inserted =
      let nodes = l.nodes in
      let few = l.few in
      let below = l.lawful.below q other stands in
      let ol : other < length next = omega arith in
      let goes : (k : ℕ) → k < length next → k ≢ m → get_or next' k 0 ≡ passing other m (get_or next k 0) = joined_goes members next prev queues l other m ol ml free in
      let count : length (inserted queues q other m) ≡ length queues = length-set queues q (put_before (waiting_in queues q) other m) in
      let size = length-swap next (get_or prev other 0) (get_or prev m 0) in
      record {
        nodes = omega arith;
        few = omega arith;
        rings = AreRings-swapped next prev other m ol (omega arith) l.rings;
        leads = λ p pl.
            let pq : p < length queues = omega arith in
            let start = goes (members + p) (omega arith) (λ e. absurd (omega arith)) in
            rw (start, waiting_in-inserted queues q other m stands members p l.lawful)
            (Leads-put_before (λ k. get_or next k 0) (λ k. get_or next' k 0) other m (joined_to members next prev queues l other m ol ml free) (waiting_in queues p) (get_or next (members + p) 0) (members + p)
            (l.lawful.once p)
            (λ e. absurd (omega arith))
            (λ k h. let kl = l.lawful.below p k h in goes k (omega arith) (λ e. free (p, rw e at h)))
            (l.leads p pq));
        alone = λ k kl moves.
            elim (cases_eq k m) [
              | inl e ↦ rw e (q, added_by_insert queues q other m stands)
              | inr n ↦
                  let w = l.alone k kl (λ itself. moves (goes k (omega arith) n ∙ ap (passing other m) itself ∙ passing-other other m k (λ e. not_alone_if_waiting members next prev queues l q k (rw (← e) at stands) itself))) in
                  (w.0, kept_by_insert queues q other m stands w.0 k w.1)
            ];
        lawful = IsLawful-inserted queues q other m stands members ml free l.lawful;
      }

pub Makes-inserted : (members : ℕ) (next prev next' prev' : List ℕ) → IsLinked members next prev (linked_queues members next) → (q other m : ℕ) → Contains (waiting_in (linked_queues members next) q) other → m < members → (IsWaiting (linked_queues members next) m → ⊥) → next' ≡ swap next (get_or prev other 0) (get_or prev m 0) → prev' ≡ swap prev other m → Makes members next' prev' (inserted (linked_queues members next) q other m)
Makes-inserted members next prev next' prev' l q other m stands ml free n p =
    rw (n, p)
    (Makes-linked members _ _ (inserted (linked_queues members next) q other m) (IsLinked-inserted members next prev (linked_queues members next) l q other m stands ml free))
