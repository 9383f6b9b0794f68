-- The transfers so far.
use Rattle.std.proofs.Common.{◌≡◌, ◌++◌, take}
use Rattle.sct_message.specs.Keys.{transfers_of}
use Rattle.sct_view.proofs.by_transfer.push_keys.Given as goal

abbrev pub invariant-loop-i : goal.invariant-loop-i
invariant-loop-i l = l.found.items ≡ l.initial.found.items ++ take l.i (transfers_of l.message)
