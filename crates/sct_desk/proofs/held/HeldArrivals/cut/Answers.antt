-- A cut that cannot publish leaves what is published.
use Rattle.std.proofs.Common.{subst}
use mathlib.Core.List.{IsPrefix}
use Rattle.sct_desk.specs.Locked.{Locked}
use Rattle.sct_desk.proofs.Arrived.{fails_if}
use Rattle.sct_desk.proofs.held.HeldArrivals.cut.Goals as goal

pub returns-clause-failed : goal.returns-clause-failed
returns-clause-failed g c =
    fails_if c.args.self.now c.publish_with.new.self c.publish_with.result
    (subst (λ (l : Locked). IsPrefix l.published l.core.arrivals) c.self.view_is c.self.invariant.published)
    c.publish_with.ensures.refused c.publish_with.ensures.unchanged
