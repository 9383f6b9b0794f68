-- The pairs so far are those of the counts so far.
use Rattle.std.proofs.Common.{◌≡◌, take}
use Rattle.sct_embed.specs.Counts.{pairs_from}
use Rattle.sct_embed.proofs.arguments.pairs_of.Given as goal

abbrev pub invariant-loop-at : goal.invariant-loop-at
invariant-loop-at l = l.pairs.items ≡ pairs_from 1 (take l.at l.counts)
