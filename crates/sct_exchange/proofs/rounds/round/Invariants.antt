-- The files so far were offered, and the others are still to come.
use Rattle.std.proofs.Common.{◌≡◌}
use Rattle.sct_exchange.specs.Rounds.{round}
use Rattle.sct_exchange.proofs.RoundLemmas.{after_those}
use Rattle.sct_exchange.proofs.rounds.round.Given as goal

abbrev pub invariant-loop-file : goal.invariant-loop-file
invariant-loop-file l = after_those l.left.items (round l.core l.file-iterator.rest.items) ≡ round l.initial.core l.fn.files.items
