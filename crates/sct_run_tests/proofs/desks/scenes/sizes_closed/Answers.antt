-- A desk that is not closed gives back the receipts that it was handed.
use Rattle.std.proofs.Common.{subst, sym}
use Rattle.sct_desk.specs.Tilings.{AreOurs}
use Rattle.sct_run_tests.proofs.desks.scenes.sizes_closed.Goals as goal

pub returns-in-Err : goal.returns-in-Err
returns-in-Err g c = subst (AreOurs g.J.Site.book g.J.Site.number) (sym c.in-Err.ensures.receipts) c.requires
