-- The transfers so far are appended.
use Rattle.std.proofs.Common.{◌≡◌, ◌++◌, take}
use Rattle.sct_embed.proofs.changes.push_copies.Given as goal

abbrev pub invariant-loop-transfer : goal.invariant-loop-transfer
invariant-loop-transfer l = l.found.items ≡ l.initial.found.items ++ take l.transfer-index l.transfers
