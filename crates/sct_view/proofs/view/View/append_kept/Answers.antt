-- The case of a transfer has its messages.
use Rattle.std.proofs.Common.{◌∙◌, ◌++◌, [], List, ap, append-nil, sym}
use Rattle.sct_message.specs.Sets.{messages_in}
use Rattle.sct_message.specs.declared.draft.Draft.{Draft}
use Rattle.sct_view.specs.Kept.{Kept}
use Rattle.sct_view.proofs.view.View.append_kept.Goals as goal

pub returns : goal.returns
returns c =
    let old = messages_in c.args.gathered.now.items in
    c.in_ok-append-2.ensures
    ∙ ap (λ (ms : List Draft). ms ++ messages_in c.deref-2.result.now) c.in_ok-append.ensures
    ∙ (λ n. old ++ messages_in (c.deref.ensures.value n) ++ messages_in (c.deref-2.ensures.value n))
    ∙ ap (λ (k : Kept). old ++ k.clean ++ k.contradicted) c.in-Some.ensures

pub returns-in_default : goal.returns-in_default
returns-in_default c =
    let old = messages_in c.args.gathered.now.items in
    sym (append-nil (old ++ []) ∙ append-nil old) ∙ ap (λ (k : Kept). old ++ k.clean ++ k.contradicted) c.in_default.ensures
