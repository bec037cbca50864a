-- What a contract sees of the queues.
use Rattle.std.specs.Prelude.{◌≡◌, ℕ, ◌<◌, ◌==◌, List, [], ◌∷◌, Contains, filter, not, nat_eq, slice_index_or, if◌then◌else◌}
use Rattle.std.specs.List.{IsDistinct}

-- the members of each queue, the longest waiting first, and the number below which each member's number lies
pub record Contents : Type 0 where
  pub queues : List (List ℕ)
  pub members : ℕ

-- who waits in a queue, the longest waiting first
abbrev pub waiting_in : List (List ℕ) → ℕ → List ℕ
waiting_in queues queue = slice_index_or queues queue []

-- the member stands in some queue
abbrev pub IsWaiting : List (List ℕ) → ℕ → Type 0
IsWaiting queues member = (queue : ℕ) × Contains (waiting_in queues queue) member

-- the others, in their order
abbrev pub without : List ℕ → ℕ → List ℕ
without waiting member = filter (λ other. not (other == member)) waiting

-- those that wait behind a member, in their order
abbrev pub behind : List ℕ → ℕ → List ℕ
behind [] member = []
behind (first ∷ others) member = if first == member then others else behind others member

-- those that wait in front of a member, in their order
abbrev pub in_front : List ℕ → ℕ → List ℕ
in_front [] member = []
in_front (first ∷ others) member =
    if first == member then [] else first ∷ in_front others member

-- a member comes to stand in front of another one, and the rest keep their order
abbrev pub put_before : List ℕ → ℕ → ℕ → List ℕ
put_before [] other member = []
put_before (first ∷ others) other member =
    if first == other then member ∷ first ∷ others else first ∷ put_before others other member

-- what is true of the queues at all times: each number is a member's, and nobody stands in two queues or twice in one
pub record IsLawful (c : Contents) : Type 0 where
  pub below : (queue member : ℕ) → Contains (waiting_in c.queues queue) member → member < c.members
  pub apart : (p q member : ℕ) → Contains (waiting_in c.queues p) member → Contains (waiting_in c.queues q) member → p ≡ q
  pub once : (queue : ℕ) → IsDistinct nat_eq (waiting_in c.queues queue)
