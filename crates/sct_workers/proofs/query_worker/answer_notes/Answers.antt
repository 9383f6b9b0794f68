-- The receipt of a note may be kept.
use Rattle.sct_workers.proofs.MoreKept.{keeps_any}
use Rattle.sct_workers.proofs.query_worker.answer_notes.Goals as goal

pub push-requires : goal.push-requires
push-requires g c = keeps_any g.J.Site.book g.J.Site.number g.J.Site.group g.J.Takes.messages c.in_ok-_answer.receipt c.in_ok-_answer.ensures.keeps
