-- What the desk answers may end the worker.
use Rattle.sct_desk.specs.Passes.{before, site_with}
use Rattle.sct_workers.proofs.Refusing.{handed_ends, handed_over}
use Rattle.sct_workers.proofs.MoreKept.{keeps_any}
use Rattle.sct_workers.proofs.exchange_worker.accept_entry.Goals as goal

pub push-requires : goal.push-requires
push-requires g c = keeps_any g.J.Site.book g.J.Site.number g.J.Site.group g.J.Takes.messages c.in_ok-answer.receipt c.in_ok-answer.ensures.keeps

pub returns-clause-handed : goal.returns-clause-handed
returns-clause-handed g c =
    handed_over g.J.Site.number g.J.Site.group c.args.entry.entry c.in_ok-delta.delta c.args.kept.now.receipts.items c.push.new.self.receipts.items
    c.in_ok-answer.receipt c.in_ok-answer.answer c.push.result c.accepted_if_kept.result c.accepted_if_kept.ensures.kept c.accepted_if_kept.ensures.lost
    c.push.ensures.items c.in_ok-answer.ensures.answer c.in_ok-delta.ensures.entries

pub returns-clause-ends : goal.returns-clause-ends
returns-clause-ends g c =
    handed_ends (λ point. ⊥) (site_with g.J.Site.number g.J.Site.group (before c.in_ok-answer.receipt)) c.in_ok-delta.delta c.in_ok-answer.answer
    c.push.result c.accepted_if_kept.result c.accepted_if_kept.ensures.kept c.accepted_if_kept.ensures.lost c.push.ensures.memory c.in_ok-answer.ensures.answer
