-- The desk is of site 1, alone in its group, of the history that was opened and of the one message.
use Rattle.std.proofs.Common.{◌∷◌, []}
use Rattle.std.specs.Arc.{arc_value}
use Rattle.sct_set.specs.Contents.{contents_of}
use Rattle.sct_run_tests.proofs.receipts.close_one.Given as goal

abbrev pub ghosts-close-J-Site : goal.ghosts-close-J-Site
ghosts-close-J-Site g a = record { book = a.history; number = 1; group = 1 }

abbrev pub ghosts-close-J-Takes : goal.ghosts-close-J-Takes
ghosts-close-J-Takes g a = record { messages = contents_of (arc_value a.message.now ∷ []) }
