-- The desk is of site 1, alone in its group, and of the history that was opened.
use Rattle.sct_run_tests.proofs.desks.close_succeeds.Given as goal

abbrev pub ghosts-expect_life : goal.ghosts-expect_life
ghosts-expect_life g a = record { book = a.history; number = 1; group = 1 }
