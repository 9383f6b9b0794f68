-- The banks so far, and those of the entries that are left.
use Rattle.std.proofs.Common.{◌≡◌, ◌++◌}
use Rattle.sct_view.specs.Listed.{is_something, keys_with}
use Rattle.sct_view.proofs.sums.banks_in.Given as goal

abbrev pub invariant-loop-bank : goal.invariant-loop-bank
invariant-loop-bank l =
    l.banks.items ++ keys_with is_something l.bank-iterator
    ≡ keys_with is_something l.totals.entries
