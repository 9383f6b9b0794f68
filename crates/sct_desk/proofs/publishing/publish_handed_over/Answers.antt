-- What was handed over may be published, as it goes on from what is shown.
use Rattle.std.proofs.Common.{subst, sym}
use Rattle.sct_desk.specs.declared.shown.Shown.{Shown}
use Rattle.sct_desk.specs.Rules.{GoesOn}
use Rattle.sct_desk.proofs.Showing.{publishes}
use Rattle.sct_desk.proofs.publishing.publish_handed_over.Goals as goal

pub publish_as-requires : goal.publish_as-requires
publish_as-requires g c next is =
    let on : GoesOn c.args.writer.desk.shown.value next = subst (λ (s : Shown). GoesOn c.args.writer.desk.shown.value s) (sym is) c.requires in
    publishes _ _ c.args.writer.desk.shown.value next on.0 on.1 on.2
