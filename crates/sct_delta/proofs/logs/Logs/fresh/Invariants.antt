-- What was kept is what is new of the entries that were looked at.
use Rattle.std.proofs.Common.{◌≡◌, filter, take}
use Rattle.sct_delta.specs.Logs.{log_in}
use Rattle.sct_delta.specs.Refusals.{is_new}
use Rattle.sct_delta.proofs.logs.Logs.fresh.Given as goal

abbrev pub invariant-loop-entry : goal.invariant-loop-entry
invariant-loop-entry l = l.fresh.items ≡ filter (is_new (log_in l.self)) (take l.entry-index l.entry-items)
