use Rattle.gt_heap_bench.proofs.run.Given as goal

abbrev pub ghosts-final_length : goal.ghosts-final_length
ghosts-final_length a = record { name = a.blank.name; parts = a.blank.parts }
