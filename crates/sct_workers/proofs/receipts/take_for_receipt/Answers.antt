-- What a take publishes is its message, and it shows it.
use Rattle.std.specs.Arc.{arc_value}
use Rattle.sct_desk.specs.Passes.{before, site_with}
use Rattle.sct_workers.proofs.KeepLemmas.{taken_keeps, taken_shows}
use Rattle.sct_workers.proofs.receipts.take_for_receipt.Goals as goal

pub returns-clause-keeps : goal.returns-clause-keeps
returns-clause-keeps g c =
    taken_keeps g.J.Site.book g.J.Site.number g.J.Site.group c.in_ok-took.receipt c.in_ok-took.took (arc_value c.args.message) (before c.in_ok-took.receipt)
    c.in_ok-took.ensures.receipt.site c.in_ok-refuse_carried.ensures.first c.in_ok-refuse_carried.ensures.last c.in_ok-took.ensures.receipt.count c.in_ok-refuse_carried.ensures.none c.in_ok-took.ensures.took c.in_ok-took.ensures.shown

pub returns-clause-shown : goal.returns-clause-shown
returns-clause-shown g c =
    taken_shows (site_with g.J.Site.number g.J.Site.group (before c.in_ok-took.receipt)) (arc_value c.args.message) c.in_ok-took.receipt c.in_ok-took.ensures.shown
