-- What is left has two neighbours of one recall exactly where the whole does.
use Rattle.std.proofs.Common.{◌≡◌, length}
use Rattle.sct_message.specs.Neighbours.{repeats_next}
use Rattle.sct_message.proofs.recall_list.repeats_next.Given as goal

abbrev pub invariant-loop-tx : goal.invariant-loop-tx
invariant-loop-tx l = repeats_next l.rest ≡ repeats_next l.txs

abbrev pub decreases-loop-tx : goal.decreases-loop-tx
decreases-loop-tx l = length l.rest
