-- The faults of a schedule's text, and drawn turns.
use Rattle.std.specs.Prelude.{ℕ, zero, suc, ◌%◌, nat_le, if◌then◌else◌, List, [], ◌∷◌, map, Option, None, Some}
use Rattle.rand_core.specs.Pcg32Seed.{pcg32_seed}
use Rattle.rand_pcg.specs.Lcg.{Lcg}
use Rattle.rand_pcg.specs.Pcg.{pcg32, pcg32_of_seed}
use Rattle.gt_sched.specs.declared.fault.SchedFault.{SchedFault}
use Rattle.gt_sched.specs.Items.{items_of, first_fault, or_else, count_of}

-- the fault where the turns are too many
abbrev pub fault_of_count : ℕ → Option SchedFault
fault_of_count n = if nat_le n 1000000 then None else Some SchedFault.Long

-- the fault of a text: that of the first faulty item, and else that the turns are too many
abbrev pub fault_of : ℕ → List ℕ → Option SchedFault
fault_of ps text = or_else (first_fault ps (items_of text)) (fault_of_count (count_of (items_of text)))

-- the next so many words of a generator
abbrev pub words : ℕ → Lcg → List ℕ
words zero g = []
words (suc n) g = (pcg32 g).0 ∷ words n (pcg32 g).1

-- the turns that the generator seeded by `start` draws
abbrev pub drawn : ℕ → ℕ → ℕ → List ℕ
drawn start turns ps = map (λ w. w % ps) (words turns (pcg32_of_seed (pcg32_seed 16 start)))
