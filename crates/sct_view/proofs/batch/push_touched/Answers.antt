-- A fresh message touches its own transfers, and those of the one message that it contradicts.
use Rattle.std.proofs.Common.{◌≡◌, ◌∙◌, ◌++◌, ◌∷◌, [], List, ap, sym, append-nil, append_assoc}
use Rattle.std.specs.Arc.{arc_value}
use Rattle.std.specs.List.{flat_map}
use Rattle.sct_message.specs.Keys.{transfers_of}
use Rattle.sct_message.specs.declared.draft.Draft.{Draft}
use Rattle.sct_message.specs.declared.keys.TransferKey.{TransferKey}
use Rattle.sct_set.specs.Contradictions.{undisputed_of}
use Rattle.sct_view.specs.Changes.{newly_contradicted_by}
use Rattle.sct_view.proofs.batch.push_touched.Goals as goal

pub returns-clause-touched : goal.returns-clause-touched
returns-clause-touched c =
    let newly : arc_value c.in-Some.other.now ∷ [] ≡ newly_contradicted_by c.args.held.now c.args.message.now =
    c.in-Some.ensures ∙ ap (undisputed_of c.args.held.now) c.identity.ensures in
    c.in_ok-push_keys-2.ensures.keys
    ∙ ap (λ (ks : List TransferKey). ks ++ transfers_of c.deref.result.now) c.in_ok-push_keys.ensures.keys
    ∙ append_assoc c.args.found.now.items (transfers_of c.args.message.now) (transfers_of c.deref.result.now)
    ∙ ap (λ (ks : List TransferKey). c.args.found.now.items ++ (transfers_of c.args.message.now ++ ks))
    (sym (append-nil (transfers_of c.deref.result.now))
    ∙ ap (λ (d : Draft). flat_map transfers_of (d ∷ [])) c.deref.ensures
    ∙ ap (λ (ds : List Draft). flat_map transfers_of ds) newly)
