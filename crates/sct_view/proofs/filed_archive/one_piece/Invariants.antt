-- The lines of the transfers so far.
use Rattle.std.proofs.Common.{◌≡◌, take}
use Rattle.std.specs.Prelude.{string_bytes, flat_map}
use Rattle.sct_view.specs.StatusText.{lines_on}
use Rattle.sct_view.proofs.filed_archive.one_piece.Given as goal

abbrev pub invariant-loop-transfer : goal.invariant-loop-transfer
invariant-loop-transfer l = string_bytes l.text ≡ flat_map (lines_on l.archive) (take l.transfer-index l.transfers)
