-- What a caller makes of the clauses: who waits after a call, and who does not.
use Rattle.std.proofs.Common.{◌≡◌, ◌≢◌, ℕ, ◌<◌, ◌⊎◌, inl, inr, Some, List, set, drop, length, sym, ap}
use Rattle.std.specs.List.{Contains, slice_get}
use Rattle.gt_queue.specs.Contents.{waiting_in, IsWaiting, IsLawful}
use Rattle.gt_queue.proofs.Members.{Contains-from_first, Contains-without, without-first}
use Rattle.gt_queue.proofs.Waiting.{pushed, removed, kept_by_push, added_by_push, waited_or_pushed, waiting_in-removed, kept_by_remove}

module _ (queues : List (List ℕ)) (q m : ℕ) where
  -- after `enqueue` the new one waits, and who waited before; and nobody else
  pub IsWaiting-pushed_itself : q < length queues → IsWaiting (pushed queues q m) m
  IsWaiting-pushed_itself ql = (q, added_by_push queues q m ql)

  pub IsWaiting-pushed_still : (y : ℕ) → q < length queues → IsWaiting queues y → IsWaiting (pushed queues q m) y
  IsWaiting-pushed_still y ql w = (w.0, kept_by_push queues q m w.0 y ql w.1)

  pub IsWaiting-pushed_cases : (y : ℕ) → q < length queues → IsWaiting (pushed queues q m) y → IsWaiting queues y ⊎ (m ≡ y)
  IsWaiting-pushed_cases y ql w =
      elim (waited_or_pushed queues q m w.0 y ql w.1) [
        | inl old ↦ inl (w.0, old)
        | inr new ↦ inr new.1
      ]

  -- after `remove` those wait that waited before, but for the one
  pub IsWaiting-removed_before : (members y : ℕ) → Contains (waiting_in queues q) m → IsLawful (record { queues = queues; members = members }) → IsWaiting (removed queues q m) y → IsWaiting queues y × (y ≢ m)
  IsWaiting-removed_before members y stands lawful w =
      let before = Contains-without m y (waiting_in queues w.0) (rw (waiting_in-removed queues q m members w.0 stands lawful) at w.1) in
      ((w.0, before.0), before.1)

  pub IsWaiting-removed_still : (members y : ℕ) → Contains (waiting_in queues q) m → IsLawful (record { queues = queues; members = members }) → y ≢ m → IsWaiting queues y → IsWaiting (removed queues q m) y
  IsWaiting-removed_still members y stands lawful n w =
      (w.0, kept_by_remove queues q m members w.0 y stands lawful n w.1)

  -- `dequeue` leaves what `remove` of the first leaves
  pub removed-first : (members : ℕ) → Some m ≡ slice_get (waiting_in queues q) 0 → IsLawful (record { queues = queues; members = members }) → set queues q (drop 1 (waiting_in queues q)) ≡ removed queues q m
  removed-first members first lawful =
      ap (set queues q) (sym (without-first m (waiting_in queues q) first (lawful.once q)))

  -- the first of a queue stands in it
  pub Contains-first : Some m ≡ slice_get (waiting_in queues q) 0 → Contains (waiting_in queues q) m
  Contains-first first = Contains-from_first m (waiting_in queues q) first
