-- Transfers of which each is a key of the table, sorted, are the ascending ones.
use Rattle.std.proofs.Common.{◌∙◌, List, ap, subst, sym}
use Rattle.std.proofs.lemmas.Map.Made.{IsDistinct-keys_filter}
use Rattle.std.specs.List.{IsDistinct}
use Rattle.sct_message.specs.Ascending.{ascending}
use Rattle.sct_message.specs.Order.{transfer_order}
use Rattle.sct_message.specs.Transfers.{keys_of}
use Rattle.sct_message.specs.declared.keys.TransferKey.{TransferKey}
use Rattle.sct_view.specs.Kept.{same_key}
use Rattle.sct_view.specs.Listed.{has_messages}
use Rattle.sct_view.proofs.ListedLemmas.{keys_listed, sorted_apart}
use Rattle.sct_view.proofs.view.View.keys.Goals as goal

pub returns : goal.returns
returns c =
    let cases = c.self.inside.tables.cases in
    sorted_apart c.in_ok-keys.keys.items c.sort.new.self.items
    (subst (λ (ts : List TransferKey). IsDistinct same_key ts) (sym c.in_ok-keys.ensures.keys)
    (IsDistinct-keys_filter same_key (λ e. has_messages e.1) cases.entries c.in_ok-keys.ensures.unique))
    c.in_ok-sort.ensures.permutation c.in_ok-sort.ensures.sorted
    ∙ ap (ascending transfer_order) c.in_ok-keys.ensures.keys
    ∙ keys_listed c.self.inside.archive cases c.in_ok-keys.ensures.unique c.self.invariant.0
    ∙ ap keys_of c.self.view_is
