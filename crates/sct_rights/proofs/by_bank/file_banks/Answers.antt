-- The transfers of a message more are filed.
use Rattle.std.proofs.Common.{◌∙◌, ◌++◌, ◌∷◌, [], ap, append-nil, append_assoc, arith, subst, sym, take, List}
use Rattle.std.proofs.lemmas.List.{take_all}
use Rattle.sct_message.specs.Sets.{messages_in}
use Rattle.sct_message.specs.declared.draft.Draft.{Draft}
use Rattle.sct_set.proofs.ArchiveLemmas.{drafts_in-more}
use Rattle.sct_rights.specs.ByBanks.{IsFiledByBanks}
use Rattle.sct_rights.proofs.by_bank.file_banks.Goals as goal

pub loop-message-init : goal.loop-message-init
loop-message-init c = λ ms filed. subst (λ ds. IsFiledByBanks c.args.index.now ds) (sym (append-nil ms)) filed

pub loop-message-preserved : goal.loop-message-preserved
loop-message-preserved c = λ ms filed.
    let before = messages_in (take c.loop-message.message-index c.args.messages.now) in
    subst (λ ds. IsFiledByBanks c.file_transfers.new.index ds)
    (append_assoc ms before _
    ∙ ap (λ (ds : List Draft). ms ++ ds) (sym (drafts_in-more c.args.messages.now c.loop-message.message-index c.message-item.result c.loop-message-test.true c.message-item.is)))
    (subst (λ (d : Draft). IsFiledByBanks c.file_transfers.new.index ((ms ++ before) ++ d ∷ [])) c.deref.ensures (c.in_ok-file_transfers.ensures (ms ++ before) (c.loop-message.invariant ms filed)))

pub returns : goal.returns
returns c = λ ms filed.
    subst (λ done. IsFiledByBanks c.loop-message.index (ms ++ messages_in done)) (take_all c.loop-message.message-index c.args.messages.now (omega arith)) (c.loop-message.invariant ms filed)
