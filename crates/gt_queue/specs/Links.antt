-- How the links of the nodes make the queues: the nodes are the members by their numbers, and then one for each queue.
use Rattle.std.specs.Prelude.{◌≡◌, ◌≢◌, ℕ, zero, suc, ◌+◌, ◌-◌, ◌^◌, ◌<◌, List, [], ◌∷◌, length, map, nat_lt, if◌then◌else◌, slice_index}
use Rattle.std.specs.List.{range_with_len}
use Rattle.gt_queue.specs.Contents.{IsLawful, IsWaiting, waiting_in}

-- the members from a node on, up to the node of a queue, and n of them at most
unfoldable pub walk : (ℕ → ℕ) → ℕ → ℕ → ℕ → List ℕ
walk after members zero node = []
walk after members (suc n) node =
    if nat_lt node members then node ∷ walk after members n (after node) else []

-- the members of each queue
unfoldable pub linked_queues : ℕ → List ℕ → List (List ℕ)
linked_queues members next =
    map
    (λ queue. walk (slice_index next) members members (slice_index next (members + queue)))
    (range_with_len 0 (length next - members))

-- from a node on there are these nodes, and then the end
unfoldable pub Leads : (ℕ → ℕ) → ℕ → List ℕ → ℕ → Type 0
Leads after node [] end = node ≡ end
Leads after node (x ∷ xs) end = (node ≡ x) × Leads after (after x) xs end

-- the node before the one after a node is that node, and so is the one after the one before it
pub record AreRings (next prev : List ℕ) : Type 0 where
  pub as_many : length prev ≡ length next
  pub next_in : (k : ℕ) → k < length next → slice_index next k < length next
  pub prev_in : (k : ℕ) → k < length next → slice_index prev k < length next
  pub back : (k : ℕ) → k < length next → slice_index prev (slice_index next k) ≡ k
  pub forth : (k : ℕ) → k < length next → slice_index next (slice_index prev k) ≡ k

-- the links make these queues, and a member that stands in none is alone
pub record IsLinked (members : ℕ) (next prev : List ℕ) (queues : List (List ℕ)) : Type 0 where
  pub nodes : length next ≡ members + length queues
  pub few : members + length queues < 2 ^ 32
  pub rings : AreRings next prev
  pub leads : (queue : ℕ) → queue < length queues
      → Leads (slice_index next) (slice_index next (members + queue)) (waiting_in queues queue) (members + queue)
  pub alone : (member : ℕ) → member < members → slice_index next member ≢ member → IsWaiting queues member
  pub lawful : IsLawful (record { queues = queues; members = members })
