-- The case of a transfer gives the statuses of its recalls.
use Rattle.std.proofs.Common.{◌∙◌, ap, sym}
use Rattle.sct_message.specs.Sets.{messages_in}
use Rattle.sct_case.specs.Statuses.{recall_status_of, transfer_status_of}
use Rattle.sct_view.specs.Kept.{kept_in, no_messages}
use Rattle.sct_view.proofs.RebuildLemmas.{nothing_recalled, recall_told}
use Rattle.sct_view.proofs.view.View.recall.Goals as goal

pub returns-in-Some : goal.returns-in-Some
returns-in-Some c =
    recall_told c.args.self.now c.args.recall.now (kept_in c.in-Some.case.now) c.in-Some.ensures
    c.recall_status_by.result (λ asides stands.
    c.recall_status_by.ensures asides
    (stands ∙ ap (λ ms. transfer_status_of c.args.recall.now.transfer (messages_in ms) asides) (sym c.deref.ensures.value))
    ∙ ap (λ ms. recall_status_of c.args.recall.now.transfer (messages_in ms) asides c.args.recall.now.cxl) c.deref.ensures.value)

pub returns-in-None : goal.returns-in-None
returns-in-None c =
    recall_told c.args.self.now c.args.recall.now no_messages c.in-None.ensures
    _ (λ asides stands. nothing_recalled c.args.recall.now.transfer c.args.recall.now.cxl asides stands)
