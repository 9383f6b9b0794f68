-- The receipts so far are of this desk.
use Rattle.sct_desk.specs.Tilings.{AreOurs}
use Rattle.sct_run_tests.proofs.desks.scenes.take_some.Given as goal

abbrev pub invariant-loop-at : goal.invariant-loop-at
invariant-loop-at g l = AreOurs g.J.Site.book g.J.Site.number l.kept.items
