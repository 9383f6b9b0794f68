-- Of a recall message the name is asked of each transaction.
use Rattle.std.proofs.Common.{◌≡◌, ◌∙◌, ap, sym}
use Rattle.std.specs.List.{list_all}
use Rattle.sct_message.specs.declared.draft.RecallTx.{RecallTx}
use Rattle.sct_message.specs.declared.draft.Original.{Original}
use Rattle.sct_message.specs.declared.kinds.Kind.TheVariants.{Pacs008}
use Rattle.sct_message.specs.Kinds.{is_name_of}
use Rattle.sct_message.specs.Rules.{kind_it_is_about}
use Rattle.std.proofs.lemmas.List.Folds.{list_all-map}
use Rattle.sct_message.proofs.rules.names_its_original.Goals as goal

pub returns-in-CancellationRequest : goal.returns-in-CancellationRequest
returns-in-CancellationRequest c =
    let kind : c.kind_it_is_about-kind.result ≡ Pacs008 = c.kind_it_is_about-kind.ensures ∙ ap kind_it_is_about c.in-CancellationRequest.is in
    rw (c.in-CancellationRequest.is, ← c.deref-in-CancellationRequest.ensures, ← c.behind-m.view_is)
    (c.name_their_originals.ensures
    ∙ (λ n. list_all (λ (tx : RecallTx). is_name_of (kind n) tx.original.message_name) (c.deref-in-CancellationRequest-2.ensures.value n))
    ∙ sym (list_all-map (λ (o : Original). is_name_of Pacs008 o.message_name) (λ (tx : RecallTx). tx.original) c.behind-m.inside.txs.items))
