-- What a contract sees of a channel, and who waits at it.
use Rattle.std.specs.Prelude.{◌≡◌, ℕ, ◌+◌, ◌≤◌, ◌<◌, ◌==◌, if◌then◌else◌, Bool, true, false, Option, Some, None, IsSome, List, [], ◌∷◌, length, slice_get}
use Rattle.gt_model.specs.declared.entry.Party.{Party}
use Rattle.gt_select.specs.Waiting.{Waiting, MayWait, ticket_of, parties_in, without_goroutine, joined, left, forgotten}

pub record Channel : Type 0 where
  pub world : Option ℕ  -- where it was made, if it was
  pub capacity : ℕ  -- how many items it can hold
  pub items : List ℕ  -- what was sent and not yet received, the longest waiting first
  pub closed : Bool
  pub list : ℕ  -- in which list senders wait; receivers wait in the next one

-- what is true at all times
pub record IsLawful (ch : Channel) : Type 0 where
  pub few : length ch.items ≤ ch.capacity
  pub empty : ch.world ≡ None → ch.items ≡ []
  pub opened : ch.world ≡ None → ch.closed ≡ false

abbrev pub senders : Channel → ℕ
senders ch = ch.list

abbrev pub receivers : Channel → ℕ
receivers ch = ch.list + 1

-- the channel's lists are lists of w
abbrev pub HasLists : Waiting → Channel → Type 0
HasLists w ch = receivers ch < length w.lists

-- the party of another goroutine than g that has waited longest in a list
abbrev pub other_in : Waiting → ℕ → ℕ → Option Party
other_in w list g = slice_get (without_goroutine (parties_in w.lists list) g) 0

-- whom an operation of g at a channel of this capacity meets there: nobody where items are kept in between
abbrev pub partner_in : ℕ → Waiting → ℕ → ℕ → Option Party
partner_in capacity w list g = if capacity == 0 then other_in w list g else None

-- the partner stands in no list
abbrev pub without_partner : Option Party → Waiting → Waiting
without_partner None w = w
without_partner (Some q) w = left w q

-- where p's goroutine has a live ticket, p can wait
abbrev pub MayPark : Waiting → Party → Type 0
MayPark w p = IsSome (ticket_of w p.g) → MayWait w p

-- p waits in a list where its goroutine has a live ticket, whose turn is given
abbrev pub parked_by : Option ℕ → Waiting → ℕ → Party → Waiting
parked_by None w list p = w
parked_by (Some turn) w list p = joined w list p

abbrev pub parked : Waiting → ℕ → Party → Waiting
parked w list p = parked_by (ticket_of w p.g) w list p

-- nobody of g waits at the channel
abbrev pub without_waiters : Channel → Waiting → ℕ → Waiting
without_waiters ch w g = forgotten (forgotten w (senders ch) g) (receivers ch) g

-- the one that has waited longest as a receiver, or where none waits as a sender
abbrev pub first_of : List Party → List Party → Option Party
first_of [] waiting = slice_get waiting 0
first_of (q ∷ others) waiting = Some q

abbrev pub waiter : Channel → Waiting → Option Party
waiter ch w = first_of (parties_in w.lists (receivers ch)) (parties_in w.lists (senders ch))

-- before it is made, in its world once it is made, and once it is closed
abbrev pub unmade : ℕ → ℕ → Channel
unmade capacity list = record { world = None; capacity = capacity; items = []; closed = false; list = list }

abbrev pub made : Channel → ℕ → Channel
made ch world = record ch { world = Some world; items = []; closed = false }

abbrev pub shut : Channel → Channel
shut ch = record ch { closed = true }
