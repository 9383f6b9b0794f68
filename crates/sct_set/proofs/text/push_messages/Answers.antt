-- One message is in order.
use Rattle.std.proofs.Common.{All, ap, subst, sym, ◌∙◌, ◌++◌, [], append-nil}
use Rattle.std.proofs.lemmas.List.Elements.{All-push, All-nil}
use Rattle.std.specs.Arc.{arc_value}
use Rattle.std.specs.List.{flat_map}
use Rattle.sct_set.specs.Archive.{line_of, IsReadAgain}
use Rattle.sct_set.proofs.GroupLemmas.{in_order_alone}
use Rattle.sct_set.proofs.text.push_messages.Goals as goal

pub returns-in-len1-clause-text : goal.returns-in-len1-clause-text
returns-in-len1-clause-text c =
    let alone = in_order_alone c.args.messages.now c.message-item.result c.in-len1.len_at_least c.in-len1.len_below c.message-item.is in
    c.in_ok-push_message.ensures.text
    ∙ ap (λ m. c.args.text.now.items ++ line_of m) c.deref.ensures
    ∙ ap (λ xs. c.args.text.now.items ++ xs) (sym (append-nil (line_of (arc_value c.message-item.result))))
    ∙ ap (λ ms. c.args.text.now.items ++ flat_map line_of ms) (sym alone)

pub returns-in-len1-clause-again : goal.returns-in-len1-clause-again
returns-in-len1-clause-again c =
    let alone = in_order_alone c.args.messages.now c.message-item.result c.in-len1.len_at_least c.in-len1.len_below c.message-item.is in
    subst (λ ms. All IsReadAgain ms) (sym alone)
    (All-push IsReadAgain [] (arc_value c.message-item.result) (All-nil IsReadAgain) (subst IsReadAgain c.deref.ensures c.in_ok-push_message.ensures.again))
