-- The lines of the transfers so far.
use Rattle.std.proofs.Common.{◌≡◌, ◌++◌, take}
use Rattle.std.specs.Prelude.{string_bytes, flat_map}
use Rattle.sct_view.specs.StatusText.{lines_on}
use Rattle.sct_view.proofs.view.View.push_transfers.Given as goal

abbrev pub invariant-loop-transfer : goal.invariant-loop-transfer
invariant-loop-transfer l = string_bytes l.text ≡ string_bytes l.initial.text ++ flat_map (lines_on l.self) (take l.transfer-index l.transfers)
