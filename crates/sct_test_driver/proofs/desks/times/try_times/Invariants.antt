-- The desk is of site 1, alone in its group, and of the history that was opened.
use Rattle.sct_test_driver.proofs.desks.times.try_times.Given as goal

abbrev pub ghosts-time_desk : goal.ghosts-time_desk
ghosts-time_desk g a = record { book = a.history; number = 1; group = 1 }
