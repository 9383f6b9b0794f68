-- A publication that fails leaves what is published.
use Rattle.std.proofs.Common.{subst}
use mathlib.Core.List.{IsPrefix}
use Rattle.sct_desk.specs.Locked.{Locked}
use Rattle.sct_desk.proofs.Arrived.{fails_if}
use Rattle.sct_desk.proofs.held.HeldArrivals.publish.Goals as goal

pub returns-clause-failed : goal.returns-clause-failed
returns-clause-failed g c =
    fails_if c.args.self.now c.publish_after.new.self c.publish_after.result
    (subst (λ (l : Locked). IsPrefix l.published l.core.arrivals) c.self.view_is c.self.invariant.published)
    c.publish_after.ensures.refused c.publish_after.ensures.unchanged
