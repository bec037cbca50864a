-- How queues of nodes make the lists: the goroutine whose ticket has the key k has the seventeen nodes from 17 k on, one for
-- each number of a case.
use Rattle.std.specs.Prelude.{◌≡◌, ℕ, zero, suc, ◌+◌, ◌-◌, ◌*◌, ◌/◌, ◌%◌, ◌==◌, ◌≤◌, ◌<◌, ◌^◌, max, not, Option, Some, None, IsSome, is_some, List, [], ◌∷◌, map, filter, length, count_by, slice_index_or, Contains}
use Rattle.slab.specs.Slab.{Slab, get, slab_len}
use Rattle.gt_model.specs.declared.entry.Party.{Party}
use Rattle.gt_queue.specs.Contents.{Contents, waiting_in, without, behind}
use Rattle.gt_select.specs.declared.nodes.Waiter.{Waiter}

abbrev pub goroutine_of : Option Waiter → ℕ
goroutine_of None = 0
goroutine_of (Some w) = w.g

abbrev pub turn_of : Option Waiter → Option ℕ
turn_of None = None
turn_of (Some w) = Some w.turn

-- the party at a node
abbrev pub party_at : Slab Waiter → ℕ → Party
party_at tickets node = record { g = goroutine_of (get tickets (node / 17)); case_no = node % 17 }

-- the lists, made of queues of nodes
abbrev pub lists_of : Slab Waiter → List (List ℕ) → List (List Party)
lists_of tickets queues = map (map (party_at tickets)) queues

-- the turn of the ticket under a key
abbrev pub turn_at : Slab Waiter → Option ℕ → Option ℕ
turn_at tickets None = None
turn_at tickets (Some key) = turn_of (get tickets key)

-- by goroutine, made of the keys of the tickets
abbrev pub turns_of : Slab Waiter → List (Option ℕ) → List (Option ℕ)
turns_of tickets keys = map (turn_at tickets) keys

-- the nodes of other keys, in their order
abbrev pub without_key : List ℕ → ℕ → List ℕ
without_key waiting key = filter (λ node. not (node / 17 == key)) waiting

-- of the nodes of a key none stands there past the number `most` of a case
abbrev pub IsReached : List ℕ → ℕ → ℕ → Type 0
IsReached waiting key most = (node : ℕ) → Contains waiting node → node / 17 ≡ key → node % 17 ≤ most

-- it waits under this number of a case too
abbrev pub raised : Waiter → ℕ → Waiter
raised w case_no = record w { most = max w.most case_no }

-- without the n nodes from `first` on
abbrev pub without_run : List ℕ → ℕ → ℕ → List ℕ
without_run waiting first zero = waiting
without_run waiting first (suc n) = without (without_run waiting first n) (first + n)

-- a member, and those behind it
abbrev pub from_member : List ℕ → Option ℕ → List ℕ
from_member waiting None = []
from_member waiting (Some member) = member ∷ behind waiting member

-- the ticket under the key is g's
abbrev pub HoldsTicket : Slab Waiter → ℕ → ℕ → Type 0
HoldsTicket tickets key g = (w : Waiter) × (get tickets key ≡ Some w) × (w.g ≡ g)

-- each key is that of its goroutine's ticket, and there is room for a ticket of each goroutine
pub record AreTickets (goroutines turns : ℕ) (keys : List (Option ℕ)) (tickets : Slab Waiter) : Type 0 where
  pub size : length keys ≡ goroutines + 1
  pub room : goroutines + 1 ≤ tickets.capacity
  pub counted : slab_len tickets ≡ count_by is_some keys
  pub keyed : (g key : ℕ) → slice_index_or keys g None ≡ Some key → HoldsTicket tickets key g
  pub held : (key : ℕ) (w : Waiter) → get tickets key ≡ Some w → slice_index_or keys w.g None ≡ Some key
  pub earlier : (key : ℕ) (w : Waiter) → get tickets key ≡ Some w → w.turn ≤ turns
  pub most : turns ≤ 2 ^ 64 - 1
  pub inside : (key : ℕ) (w : Waiter) → get tickets key ≡ Some w → key < tickets.capacity

-- who stands in a queue has its number at its place, and its goroutine has a ticket, with which the greatest number of a case
-- is kept
pub record ArePlaced (places : List (Option ℕ)) (tickets : Slab Waiter) (c : Contents) : Type 0 where
  pub nodes : c.members ≡ tickets.capacity * 17
  pub few : c.members < 2 ^ 32
  pub size : length places ≡ c.members
  pub placed : (queue node : ℕ) → Contains (waiting_in c.queues queue) node → slice_index_or places node None ≡ Some queue
  pub ticketed : (queue node : ℕ) → Contains (waiting_in c.queues queue) node → IsSome (get tickets (node / 17))
  pub reached : (key : ℕ) (w : Waiter) → get tickets key ≡ Some w → (queue : ℕ) → IsReached (waiting_in c.queues queue) key w.most
  pub small : (key : ℕ) (w : Waiter) → get tickets key ≡ Some w → w.most ≤ 16
