-- The lines of the transfers so far are appended.
use Rattle.std.proofs.Common.{◌≡◌, ◌++◌, string_bytes, take}
use Rattle.std.specs.List.{flat_map}
use Rattle.sct_embed.specs.Questions.{transfer_line}
use Rattle.sct_embed.proofs.changes.push_transfers.Given as goal

abbrev pub invariant-loop-transfer : goal.invariant-loop-transfer
invariant-loop-transfer l =
    string_bytes l.text ≡ string_bytes l.initial.text ++ flat_map transfer_line (take l.transfer-index l.transfers)
