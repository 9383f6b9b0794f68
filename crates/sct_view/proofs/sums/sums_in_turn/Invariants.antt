-- The shares of the transfers so far.
use Rattle.std.proofs.Common.{take}
use Rattle.sct_view.specs.Kept.{totals_at}
use Rattle.sct_view.specs.Sums.{AreSharesOf}
use Rattle.sct_view.proofs.sums.sums_in_turn.Given as goal

abbrev pub invariant-loop-transfer : goal.invariant-loop-transfer
invariant-loop-transfer l = AreSharesOf l.archive (take l.transfer-index l.transfers) (totals_at l.totals)
