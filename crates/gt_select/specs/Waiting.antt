-- Who waits in which list, and who has a live ticket.
use Rattle.std.specs.Prelude.{◌≡◌, ℕ, ◌+◌, ◌-◌, ◌≤◌, ◌==◌, ◌^◌, min, Bool, not, Option, Some, None, IsSome, List, [], ◌∷◌, ◌++◌, map, filter, length, replicate, slice_set, slice_index_or, Contains, if◌then◌else◌, false}
use Rattle.std.specs.List.{IsDistinct}
use Rattle.gt_model.specs.declared.entry.Party.{Party}
use Rattle.gt_select.specs.declared.nodes.Ticket.{Ticket}

pub record Waiting : Type 0 where
  pub lists : List (List Party)  -- by list: the parties that wait there, the longest waiting first
  pub tickets : List (Option ℕ)  -- by goroutine: the turn of its live ticket, if it has one
  pub turns : ℕ  -- how many tickets were given; it stands still at its greatest value
  pub goroutines : ℕ  -- the greatest number of a goroutine

-- who wait in a list, the longest waiting first
abbrev pub parties_in : List (List Party) → ℕ → List Party
parties_in lists list = slice_index_or lists list []

-- the turn of a goroutine's live ticket
abbrev pub ticket_of : Waiting → ℕ → Option ℕ
ticket_of w g = slice_index_or w.tickets g None

-- the ticket is its goroutine's live one
abbrev pub IsLive : Waiting → Ticket → Type 0
IsLive w t = ticket_of w t.g ≡ Some t.turn

-- g can have a ticket, and has none
pub record MayEnrol (w : Waiting) (g : ℕ) : Type 0 where
  pub first : 1 ≤ g
  pub last : g ≤ w.goroutines
  pub none : ticket_of w g ≡ None

-- p can wait: its goroutine has a live ticket, and p stands in no list
pub record MayWait (w : Waiting) (p : Party) : Type 0 where
  pub live : IsSome (ticket_of w p.g)
  pub case_no : p.case_no ≤ 16
  pub waits_nowhere : (list : ℕ) → ¬ Contains (parties_in w.lists list) p

-- both are the same party
abbrev pub is_party : Party → Party → Bool
is_party p q = if p.g == q.g then p.case_no == q.case_no else false

-- the others, in their order
abbrev pub without_party : List Party → Party → List Party
without_party waiting p = filter (λ other. not (is_party other p)) waiting

-- the parties of other goroutines, in their order
abbrev pub without_goroutine : List Party → ℕ → List Party
without_goroutine waiting g = filter (λ other. not (other.g == g)) waiting

-- those that wait in front of p, in their order
abbrev pub parties_in_front : List Party → Party → List Party
parties_in_front [] p = []
parties_in_front (first ∷ others) p =
    if is_party first p then [] else first ∷ parties_in_front others p

-- p comes to stand in front of another party, and the rest keep their order
abbrev pub put_party_before : List Party → Party → Party → List Party
put_party_before [] other p = []
put_party_before (first ∷ others) other p =
    if is_party first other then p ∷ first ∷ others
    else first ∷ put_party_before others other p

-- nobody waits, and there is no ticket yet
abbrev pub nobody_waits : ℕ → ℕ → Waiting
nobody_waits goroutines lists = record {
  lists = replicate lists [];
  tickets = replicate (goroutines + 1) None;
  turns = 0;
  goroutines = goroutines;
}

-- a count stands still at its greatest value
abbrev pub next_turn : ℕ → ℕ
next_turn turns = min (turns + 1) (2 ^ 64 - 1)

-- g has the next ticket
abbrev pub enrolled : Waiting → ℕ → Waiting
enrolled w g = record w { tickets = slice_set w.tickets g (Some w.turns); turns = next_turn w.turns }

-- p is the last in a list
abbrev pub joined : Waiting → ℕ → Party → Waiting
joined w list p = record w { lists = slice_set w.lists list (parties_in w.lists list ++ p ∷ []) }

-- p stands in front of another party in a list
abbrev pub joined_before : Waiting → ℕ → Party → Party → Waiting
joined_before w list p other =
    record w { lists = slice_set w.lists list (put_party_before (parties_in w.lists list) other p) }

-- p stands in no list
abbrev pub left : Waiting → Party → Waiting
left w p = record w { lists = map (λ waiting. without_party waiting p) w.lists }

-- nobody of g stands in a list
abbrev pub forgotten : Waiting → ℕ → ℕ → Waiting
forgotten w list g =
    record w { lists = slice_set w.lists list (without_goroutine (parties_in w.lists list) g) }

-- g has no ticket, and nobody of g stands in any list
abbrev pub gone : Waiting → ℕ → Waiting
gone w g =
    record w {
      lists = map (λ waiting. without_goroutine waiting g) w.lists;
      tickets = slice_set w.tickets g None;
    }

-- what is true at all times: who stands in a list is of a goroutine with a live ticket, and stands there once and nowhere else
pub record IsLawful (w : Waiting) : Type 0 where
  pub live : (list : ℕ) (p : Party) → Contains (parties_in w.lists list) p → IsSome (ticket_of w p.g)
  pub case_no : (list : ℕ) (p : Party) → Contains (parties_in w.lists list) p → p.case_no ≤ 16
  pub apart : (m n : ℕ) (p : Party) → Contains (parties_in w.lists m) p → Contains (parties_in w.lists n) p → m ≡ n
  pub once : (list : ℕ) → IsDistinct is_party (parties_in w.lists list)
  pub goroutines : length w.tickets ≡ w.goroutines + 1
  pub earlier : (g turn : ℕ) → ticket_of w g ≡ Some turn → turn ≤ w.turns
