-- The other desk is of site 2 of two, and of the history that was opened for it.
use Rattle.sct_test_driver.proofs.desks.other.learn_other.Given as goal

abbrev pub ghosts-learn_from : goal.ghosts-learn_from
ghosts-learn_from g a = record { book = a.history; number = 2; group = 2 }
