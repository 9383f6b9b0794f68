-- The refused files so far are told.
use Rattle.std.proofs.Common.{◌≡◌, take}
use Rattle.sct_exchange.specs.Rounds.{refused_by}
use Rattle.sct_exchange.proofs.rounds.refusals.Given as goal

abbrev pub invariant-loop-file : goal.invariant-loop-file
invariant-loop-file l = l.refused.items ≡ refused_by l.core (take l.file-index l.files)
