-- Who waits behind a member: where the path goes on from it.
use Rattle.std.proofs.Common.{◌≡◌, ◌≢◌, ℕ, ◌+◌, Some, List, [], ◌∷◌, get_or, refl, ap, inl, inr, arith}
use Rattle.std.specs.List.{Contains, IsDistinct, slice_get}
use Rattle.std.proofs.lemmas.Bool.{cases_eq, eq-eqb, ne_eqb}
use Rattle.std.proofs.lemmas.Map.Keys.{IsDistinct-tail}
use Rattle.std.specs.Prelude.{nat_eq}
use Rattle.gt_queue.specs.Contents.{waiting_in, behind}
use Rattle.gt_queue.specs.Links.{Leads, IsLinked}
use Rattle.gt_queue.proofs.Members.{Contains-nil, Contains-there, Contains_cases, Contains-from_first, IsDistinct-apart}
use Rattle.gt_queue.proofs.Paths.{Begins, Leads-first, Leads-nothing}
use Rattle.gt_queue.proofs.Waiting.{queue_in}

pub behind-same : (x m : ℕ) (xs : List ℕ) → x ≡ m → behind (x ∷ xs) m ≡ xs
behind-same x m xs e = rw (eq-eqb x m e) refl

pub behind-other : (x m : ℕ) (xs : List ℕ) → x ≢ m → behind (x ∷ xs) m ≡ behind xs m
behind-other x m xs n = rw (ne_eqb x m n) refl

-- who waits behind a member waits
pub Contains-behind : (m y : ℕ) (xs : List ℕ) → Contains (behind xs m) y → Contains xs y
Contains-behind m y [] h = h
Contains-behind m y (x ∷ xs) h =
    elim (cases_eq x m) [
      | inl e ↦ Contains-there x y xs (rw (behind-same x m xs e) at h)
      | inr n ↦ Contains-there x y xs (Contains-behind m y xs (rw (behind-other x m xs n) at h))
    ]

Leads-behind : (f : ℕ → ℕ) (m : ℕ) (xs : List ℕ) (node end : ℕ) → Contains xs m → Leads f node xs end → Leads f (f m) (behind xs m) end
unfolding Leads
Leads-behind f m [] node end stands path = Contains-nil m stands
Leads-behind f m (x ∷ xs) node end stands path =
    elim (cases_eq x m) [
      | inl e ↦ rw (behind-same x m xs e) (rw e at path.1)
      | inr n ↦
          rw (behind-other x m xs n)
          (elim (Contains_cases x m xs stands) [
            | inl e ↦ absurd (n e)
            | inr h ↦ Leads-behind f m xs (f x) end h path.1
          ])
    ]

-- what stands after a member's node
pub Begins-behind : (members : ℕ) (next prev : List ℕ) (queues : List (List ℕ)) → IsLinked members next prev queues → (q m node : ℕ) → Contains (waiting_in queues q) m → node ≡ get_or next m 0 → Begins members (behind (waiting_in queues q) m) node
Begins-behind members next prev queues l q m node stands read =
    let f = λ (k : ℕ). get_or next k 0 in
    let xs = behind (waiting_in queues q) m in
    let path : Leads f node xs (members + q) = rw read (Leads-behind f m (waiting_in queues q) (get_or next (members + q) 0) (members + q) stands (l.leads q (queue_in queues q m stands))) in
    record {
      member = λ low. Leads-first f members xs node (members + q) (omega arith) low path;
      nobody = λ high. Leads-nothing f members xs node (members + q) (λ x h. l.lawful.below q x (Contains-behind m x (waiting_in queues q) h)) high path;
    }

-- the next one, and those behind it
pub behind-next : (m n : ℕ) (xs : List ℕ) → IsDistinct nat_eq xs → Some n ≡ slice_get (behind xs m) 0 → behind xs m ≡ n ∷ behind xs n
behind-next m n [] d first = absurd (cc)
behind-next m n (x ∷ xs) d first =
    elim (cases_eq x m) [
      | inl e ↦ rw (behind-same x m xs e) (next xs d (rw (behind-same x m xs e) at first))
      | inr k ↦
          let found = rw (behind-other x m xs k) at first in
          let stands = Contains-behind m n xs (Contains-from_first n (behind xs m) found) in
          rw (behind-other x m xs k, behind-other x n xs (λ e. IsDistinct-apart x xs d (rw e stands)))
          (behind-next m n xs (IsDistinct-tail nat_eq x xs d) found)
    ]
  where
    next : (ys : List ℕ) → IsDistinct nat_eq (x ∷ ys) → Some n ≡ slice_get ys 0 → ys ≡ n ∷ behind (x ∷ ys) n
    next [] d first = absurd (cc)
    next (y ∷ ys) d first =
        let same : y ≡ n = cc in
        let apart : x ≢ n = λ e. IsDistinct-apart x (y ∷ ys) d (rw e (Contains-from_first n (y ∷ ys) first)) in
        rw (behind-other x n (y ∷ ys) apart, behind-same y n ys same) (ap (λ z. z ∷ ys) same)
