-- What the words of the command line ask for, and how many entries the heap has at the end.
use Rattle.std.specs.Prelude.{ℕ, ◌+◌, ◌-◌, if◌then◌else◌, List, [], ◌∷◌, codes}
use Rattle.std.specs.Str.{bytes_eq}
use Rattle.std.specs.declared.option.Option.{Option}
use Rattle.std.specs.declared.option.Option.TheVariants.{None, Some}
use Rattle.gt_heap_bench.specs.declared.task.Calls.{Calls}
use Rattle.gt_heap_bench.specs.declared.task.Size.{Size}
use Rattle.gt_heap_bench.specs.declared.task.Task.{Task}

abbrev pub calls_of : List ℕ → Option Calls
calls_of word =
    if bytes_eq word (codes "fill") then Some Calls.Fill
    else if bytes_eq word (codes "push") then Some Calls.Push
    else if bytes_eq word (codes "pop") then Some Calls.Pop
    else if bytes_eq word (codes "change") then Some Calls.Change
    else None

abbrev pub size_of : List ℕ → Option Size
size_of word =
    if bytes_eq word (codes "1000") then Some Size.Thousand
    else if bytes_eq word (codes "200000") then Some Size.TwoHundredThousand
    else None

-- the number of entries that the heap is filled with
abbrev pub entry_count : Size → ℕ
entry_count Size.Thousand = 1000
entry_count Size.TwoHundredThousand = 200000

-- the number of entries after a thousand of these calls on a heap of n entries
abbrev pub count_after : Calls → ℕ → ℕ
count_after Calls.Fill n = n
count_after Calls.Push n = n + 1000
count_after Calls.Pop n = n - 1000
count_after Calls.Change n = n

abbrev pub task_from : Option Calls → Option Size → Option Task
task_from None size = None
task_from (Some calls) None = None
task_from (Some calls) (Some size) = Some (record { calls = calls; size = size })

-- the task that words mean: two of them
abbrev pub task_of : List (List ℕ) → Option Task
task_of [] = None
task_of (calls ∷ []) = None
task_of (calls ∷ size ∷ []) = task_from (calls_of calls) (size_of size)
task_of (calls ∷ size ∷ more ∷ words) = None
