-- What is left repeats a recall exactly where the whole does.
use Rattle.std.proofs.Common.{◌≡◌, length}
use Rattle.sct_message.specs.Rules.{repeats}
use Rattle.sct_message.proofs.recall_list.repeats.Given as goal

abbrev pub invariant-loop-tx : goal.invariant-loop-tx
invariant-loop-tx l = repeats l.rest ≡ repeats l.txs

abbrev pub decreases-loop-tx : goal.decreases-loop-tx
decreases-loop-tx l = length l.rest
