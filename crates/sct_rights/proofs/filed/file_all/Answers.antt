-- A message more is filed by its transfers.
use Rattle.std.proofs.Common.{◌∙◌, ◌++◌, ap, append-nil, append_assoc, arith, subst, sym, take, List}
use Rattle.std.proofs.lemmas.List.{take_all}
use Rattle.sct_message.specs.Sets.{messages_in}
use Rattle.sct_message.specs.declared.draft.Draft.{Draft}
use Rattle.sct_set.proofs.ArchiveLemmas.{drafts_in-more}
use Rattle.sct_view.specs.Filed.{IsFiledBy}
use Rattle.sct_rights.proofs.filed.file_all.Goals as goal

pub loop-message-init : goal.loop-message-init
loop-message-init c = λ ms filed. subst (λ ds. IsFiledBy c.args.index.now ds) (sym (append-nil ms)) filed

pub loop-message-preserved : goal.loop-message-preserved
loop-message-preserved c = λ ms filed.
    let before = messages_in (take c.loop-message.message-index c.args.messages.now) in
    subst (λ ds. IsFiledBy c.file_each.new.index ds)
    (append_assoc ms before _
    ∙ ap (λ (ds : List Draft). ms ++ ds) (sym (drafts_in-more c.args.messages.now c.loop-message.message-index c.message-item.result c.loop-message-test.true c.message-item.is)))
    (c.in_ok-file_each.ensures (ms ++ before) (c.loop-message.invariant ms filed))

pub returns : goal.returns
returns c = λ ms filed.
    subst (λ done. IsFiledBy c.loop-message.index (ms ++ messages_in done)) (take_all c.loop-message.message-index c.args.messages.now (omega arith)) (c.loop-message.invariant ms filed)
