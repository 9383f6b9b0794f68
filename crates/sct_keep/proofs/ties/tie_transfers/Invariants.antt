-- The transfers so far.
use Rattle.std.proofs.Common.{take}
use Rattle.sct_message.specs.Keys.{transfers_of}
use Rattle.sct_view.specs.Kept.{same_key}
use Rattle.sct_keep.specs.Ties.{IsTiedBy}
use Rattle.sct_keep.proofs.ties.tie_transfers.Given as goal

abbrev pub invariant-loop-i : goal.invariant-loop-i
invariant-loop-i l = IsTiedBy same_key l.initial.first l.first l.initial.parents l.parents (take l.i (transfers_of l.message)) l.number
