-- The transfers so far, with what is left of them.
use Rattle.std.proofs.Common.{◌≡◌, ◌++◌, filter}
use Rattle.sct_message.specs.Transfers.{instruction_of}
use Rattle.sct_reconcile.specs.Reports.{is_of_day}
use Rattle.sct_reconcile.proofs.keys.push_all_of_day.Given as goal

abbrev pub invariant-loop-key : goal.invariant-loop-key
invariant-loop-key l =
    l.keys.items ++ filter (λ key. is_of_day l.day (instruction_of l.view key)) l.key-iterator.rest.items
    ≡ l.initial.keys.items ++ filter (λ key. is_of_day l.day (instruction_of l.view key)) l.initial.key-iterator.rest.items
