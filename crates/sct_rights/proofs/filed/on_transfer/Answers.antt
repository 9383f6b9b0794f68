-- The list at a transfer has the messages that are filed under it.
use Rattle.std.proofs.Common.{ap, sym, ◌∙◌}
use Rattle.std.specs.List.{list_any}
use Rattle.std.specs.Option.{option_copied}
use Rattle.sct_message.specs.Order.{same_message}
use Rattle.sct_message.specs.Sets.{messages_in}
use Rattle.sct_set.specs.Buckets.{items_in}
use Rattle.sct_rights.proofs.filed.on_transfer.Goals as goal

pub returns-in-Some : goal.returns-in-Some
returns-in-Some c = λ ms filed m.
    ap (λ found. list_any (same_message m) (messages_in found))
    (c.items.ensures ∙ ap (λ o. items_in (option_copied o)) (sym c.in-Some.is) ∙ ap items_in c.get.ensures.value)
    ∙ filed c.args.transfer.now m

pub returns-in-None : goal.returns-in-None
returns-in-None c = λ ms filed m.
    ap (λ found. list_any (same_message m) (messages_in found))
    (ap (λ o. items_in (option_copied o)) (sym c.in-None.is) ∙ ap items_in c.get.ensures.value)
    ∙ filed c.args.transfer.now m
