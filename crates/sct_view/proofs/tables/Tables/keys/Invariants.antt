-- The transfers so far, and those of the entries that are left.
use Rattle.std.proofs.Common.{◌≡◌, ◌++◌}
use Rattle.sct_view.specs.Listed.{has_messages, keys_with}
use Rattle.sct_view.proofs.tables.Tables.keys.Given as goal

abbrev pub invariant-loop-transfer : goal.invariant-loop-transfer
invariant-loop-transfer l =
    l.keys.items ++ keys_with has_messages l.transfer-iterator
    ≡ keys_with has_messages l.self.cases.entries
