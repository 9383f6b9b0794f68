-- A desk that opens publishes the view of no message.
use Rattle.std.proofs.Common.{◌∙◌}
use Rattle.sct_desk.specs.Rules.{GoesOn}
use Rattle.sct_desk.proofs.Updates.{nothing_goes_on}
use Rattle.sct_desk.proofs.Showing.{publishes}
use Rattle.sct_desk.proofs.open.writer.Goals as goal

pub publish_as-writer-requires : goal.publish_as-writer-requires
publish_as-writer-requires g c next is =
    let on : GoesOn c.in-Ok.writer.desk.shown.value next = nothing_goes_on c.in-Ok.writer.desk.shown.value next _ _ (c.in-Ok.ensures.0 ∙ c.nothing-first.ensures) c.in-Ok.ensures.1 is in
    publishes _ _ c.in-Ok.writer.desk.shown.value next on.0 on.1 on.2
