-- The desk is of site 1 of the group, and of the history that was opened.
use Rattle.sct_test_driver.proofs.desks.calls.try_calls.Given as goal

abbrev pub ghosts-try_lines : goal.ghosts-try_lines
ghosts-try_lines g a = record { book = a.history; number = 1; group = a.group }
