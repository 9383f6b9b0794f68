-- As many sites as inboxes so far.
use Rattle.std.proofs.Common.{◌≡◌, length}
use Rattle.sct_workers.proofs.sites.channels_of_sites.Given as goal

abbrev pub invariant-loop-inbox : goal.invariant-loop-inbox
invariant-loop-inbox l = l.all.len ≡ length l.yielded
