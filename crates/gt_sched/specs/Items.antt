-- The items of a schedule's text, and the turns that they ask for.
use Rattle.std.specs.Prelude.{ℕ, ◌+◌, ◌-◌, ◌^◌, ◌==◌, nat_lt, min, Bool, ◌&&◌, ◌||◌, if◌then◌else◌, List, [], ◌∷◌, ◌++◌, length, sum_by, replicate, Option, None, Some}
use Rattle.std.specs.List.{slice_split, before_first, after_first}
use Rattle.std.specs.Option.{option_map_or}
use Rattle.gt_sched.specs.declared.fault.SchedFault.{SchedFault}
use Rattle.gt_sched.specs.declared.item.Run.{Run}
use Rattle.gt_sched.specs.Numbers.{is_number, value_of}

-- what stands between items: a space, a tab, a carriage return or a line feed
abbrev pub is_blank : ℕ → Bool
is_blank b = b == 32 || b == 9 || b == 13 || b == 10

abbrev pub is_x : ℕ → Bool
is_x b = b == 120

-- an item, and the byte at which it starts
pub record Item : Type 0 where
  pub at : ℕ
  pub bytes : List ℕ

-- what stands between two blanks is an item, unless it is empty
abbrev pub with_item : ℕ → List ℕ → List Item → List Item
with_item at [] items = items
with_item at (b ∷ bs) items = record { at = at; bytes = b ∷ bs } ∷ items

-- the items among the parts between blanks, where the first part starts at the byte `at`
abbrev pub items_among : ℕ → List (List ℕ) → List Item
items_among at [] = []
items_among at (part ∷ parts) = with_item at part (items_among (at + (length part + 1)) parts)

abbrev pub items_of : List ℕ → List Item
items_of text = items_among 0 (slice_split is_blank text)

-- the turns that an item asks for: a number is one turn of that worker, and `NxK` is K turns of worker N
abbrev pub run_of : List ℕ → Option Run
run_of bytes =
    if is_number bytes then Some (record { worker = value_of bytes; count = 1 })
    else (if is_number (before_first is_x bytes) && is_number (after_first is_x bytes)
    then Some (record { worker = value_of (before_first is_x bytes); count = value_of (after_first is_x bytes) })
    else None)

-- the same in 64 bits
abbrev pub capped : Run → Run
capped r = record { worker = min r.worker (2 ^ 64 - 1); count = min r.count (2 ^ 64 - 1) }

abbrev pub fault_of_run : ℕ → ℕ → Option Run → Option SchedFault
fault_of_run ps at None = Some (SchedFault.Item at)
fault_of_run ps at (Some r) = if nat_lt r.worker ps then None else Some (SchedFault.Worker at)

-- the fault of an item, for so many workers
abbrev pub fault_in : ℕ → Item → Option SchedFault
fault_in ps i = fault_of_run ps i.at (run_of i.bytes)

abbrev pub or_else : Option SchedFault → Option SchedFault → Option SchedFault
or_else None next = next
or_else (Some fault) next = Some fault

-- the fault of the first faulty item
abbrev pub first_fault : ℕ → List Item → Option SchedFault
first_fault ps [] = None
first_fault ps (i ∷ items) = or_else (fault_in ps i) (first_fault ps items)

-- how many turns an item asks for
abbrev pub count_in : Item → ℕ
count_in i = option_map_or (λ r. r.count) (run_of i.bytes) 0

abbrev pub count_of : List Item → ℕ
count_of items = sum_by count_in items

-- the turns of an item, each the number of its worker
abbrev pub turns_in : Item → List ℕ
turns_in i = option_map_or (λ r. replicate r.count r.worker) (run_of i.bytes) []

abbrev pub turns_of : List Item → List ℕ
turns_of [] = []
turns_of (i ∷ items) = turns_in i ++ turns_of items
