use Rattle.gt_leaf_tests.proofs.heap.the_first_of_the_least_children_goes_up.Given as goal

abbrev pub ghosts-pops : goal.ghosts-pops
ghosts-pops g a = record { name = a.blank.name; parts = a.blank.parts }
