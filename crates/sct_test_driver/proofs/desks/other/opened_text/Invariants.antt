-- The desk is of site 1 of the group, and of the history that was opened.
use Rattle.sct_test_driver.proofs.desks.other.opened_text.Given as goal

abbrev pub ghosts-opened : goal.ghosts-opened
ghosts-opened g a = record { book = a.history; number = 1; group = a.group }
