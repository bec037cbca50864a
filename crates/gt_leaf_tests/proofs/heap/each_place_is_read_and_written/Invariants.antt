use Rattle.gt_leaf_tests.proofs.heap.each_place_is_read_and_written.Given as goal

abbrev pub ghosts-reads_and_writes : goal.ghosts-reads_and_writes
ghosts-reads_and_writes g a = record { name = a.blank.name; parts = a.blank.parts }
