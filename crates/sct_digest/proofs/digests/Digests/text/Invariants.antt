-- The lines of the origins so far are written.
use Rattle.std.proofs.Common.{◌≡◌, string_bytes}
use Rattle.sct_digest.specs.Digests.{lines_to}
use Rattle.sct_digest.specs.Keeping.{AreKept}
use Rattle.sct_digest.proofs.digests.Digests.text.Given as goal

abbrev pub invariant-loop-before : goal.invariant-loop-before
invariant-loop-before l = record {
  kept : AreKept l.self l.core.arrivals;
  text : string_bytes l.text ≡ lines_to l.before l.core.arrivals;
}
