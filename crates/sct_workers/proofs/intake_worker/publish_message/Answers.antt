-- A receipt that could not be sent may be kept.
use Rattle.sct_workers.proofs.MoreKept.{keeps_any}
use Rattle.sct_workers.proofs.intake_worker.publish_message.Goals as goal

pub push-requires : goal.push-requires
push-requires g c = keeps_any g.J.Site.book g.J.Site.number g.J.Site.group g.J.Takes.messages c.in-Some.back c.in-Some.ensures
