-- As many ends as channels.
use Rattle.std.proofs.Common.{◌≡◌}
use Rattle.sct_workers.proofs.sites.open_channels.Given as goal

abbrev pub invariant-loop : goal.invariant-loop
invariant-loop l = l.inboxes.len ≡ l.counter
