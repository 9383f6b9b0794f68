-- Those of the transfers so far.
use Rattle.std.proofs.Common.{◌≡◌, filter, take}
use Rattle.sct_rights.specs.ByBanks.{is_reported}
use Rattle.sct_rights.proofs.report.keys_of_bank.Given as goal

abbrev pub invariant-loop-key : goal.invariant-loop-key
invariant-loop-key l = l.keys.items ≡ filter (is_reported l.view l.bank l.day) (take l.key-index l.under)
