-- The desk is of site 1, alone in its group, and of the history that was opened.
use Rattle.sct_run_tests.proofs.desks.shared.desk_shared.Given as goal

abbrev pub ghosts-expect_shared : goal.ghosts-expect_shared
ghosts-expect_shared g a = record { book = a.history; number = 1; group = 1 }
