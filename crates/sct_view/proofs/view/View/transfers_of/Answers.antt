-- The transfers of a bank, picked before they are sorted, are those picked from the sorted ones.
use Rattle.std.proofs.Common.{◌∙◌, ◌||◌, ap, filter}
use Rattle.std.proofs.lemmas.List.Filters.{dedup_is}
use Rattle.sct_message.specs.Ascending.{ascending}
use Rattle.sct_message.specs.Order.{transfer_order}
use Rattle.sct_message.specs.OrderLaws.{transfer_total, transfers_same, transfer_ties}
use Rattle.sct_message.specs.Transfers.{instruction_of, keys_of}
use Rattle.sct_message.specs.declared.keys.TransferKey.{TransferKey}
use Rattle.sct_message.proofs.AscendingLemmas.{ascending-filter, ascending-sort_dedup_plain}
use Rattle.sct_view.specs.Answers.{is_beneficiary, is_originator, transfers_of_bank}
use Rattle.sct_view.proofs.ListedLemmas.{keys_listed}
use Rattle.sct_view.proofs.view.View.transfers_of.Goals as goal

pub returns : goal.returns
unfolding transfers_of_bank
returns c =
    let of_bank = λ (t : TransferKey). is_originator c.args.bank.now t || is_beneficiary c.args.bank.now (instruction_of c.args.self.now t) in
    dedup_is _ _ _ c.dedup.ensures.filtered
    ∙ ascending-sort_dedup_plain transfer_total transfers_same _ transfer_ties _ _ c.in_ok-sort.ensures.permutation c.in_ok-sort.ensures.sorted
    ∙ ap (ascending transfer_order) (c.in_ok-transfers.ensures ∙ ap (filter of_bank) c.in_ok-keys.ensures.keys)
    ∙ ascending-filter transfer_total transfers_same of_bank _
    ∙ ap (filter of_bank)
    (keys_listed c.self.inside.archive c.self.inside.tables.cases c.in_ok-keys.ensures.unique c.self.invariant.0 ∙ ap keys_of c.self.view_is)
