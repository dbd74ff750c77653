use Rattle.ct_queue.proofs.tests.leaves_and_is_reordered.Given as goal

abbrev pub ghosts-leave_from : goal.ghosts-leave_from
ghosts-leave_from g a = record { name = a.blank.name; parts = a.blank.parts }
