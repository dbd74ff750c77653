use Rattle.ct_matrix.proofs.waits.leave_uncounted.Given as goal

abbrev pub ghosts-leave_from : goal.ghosts-leave_from
ghosts-leave_from g a = record { name = a.blank.name; parts = a.blank.parts }
