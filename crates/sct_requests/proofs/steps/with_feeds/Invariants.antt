-- The bytes so far.
use Rattle.std.proofs.Common.{◌≡◌, take}
use Rattle.std.specs.Prelude.{map}
use Rattle.sct_requests.specs.Steps.{feed_for_tab}
use Rattle.sct_requests.proofs.steps.with_feeds.Given as goal

abbrev pub invariant-loop-byte : goal.invariant-loop-byte
invariant-loop-byte l = l.text.items ≡ map feed_for_tab (take l.byte-index l.line)
