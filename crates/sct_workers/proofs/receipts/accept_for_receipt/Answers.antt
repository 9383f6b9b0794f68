-- What comes with a delta is of other sites of the group.
use Rattle.std.proofs.Common.{rules, []}
use Rattle.sct_set.specs.Contents.{contents_of}
use Rattle.sct_delta.specs.Entries.{IsDelta}
use Rattle.sct_desk.specs.Passes.{before}
use Rattle.sct_workers.proofs.KeepLemmas.{handed_keeps}
use Rattle.sct_workers.proofs.receipts.accept_for_receipt.Goals as goal

pub returns-clause-keeps : goal.returns-clause-keeps
returns-clause-keeps g c =
    let shape : IsDelta c.args.delta.now = search rules in
    handed_keeps g.J.Site.book g.J.Site.number g.J.Site.group (contents_of []) c.in_ok-answer.receipt c.in_ok-answer.answer (before c.in_ok-answer.receipt) c.args.delta.now
    shape c.in_ok-answer.ensures.receipt.site c.in_ok-refuse_carried.ensures.first c.in_ok-refuse_carried.ensures.last c.in_ok-answer.ensures.receipt.count c.in_ok-refuse_carried.ensures.none c.in_ok-answer.ensures.answer c.in_ok-answer.ensures.shown
