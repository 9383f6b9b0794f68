-- Transfers that are sorted and told apart are the ascending ones.
use Rattle.std.proofs.Common.{◌∙◌, ap}
use Rattle.std.proofs.lemmas.List.Filters.{dedup_is}
use Rattle.sct_message.specs.Ascending.{ascending}
use Rattle.sct_message.specs.Order.{transfer_order}
use Rattle.sct_message.specs.OrderLaws.{transfer_total, transfers_same, transfer_ties}
use Rattle.sct_message.proofs.AscendingLemmas.{ascending-sort_dedup_plain}
use Rattle.sct_rights.proofs.BankLemmas.{keys_filed}
use Rattle.sct_rights.proofs.report.keys_reported.Goals as goal

pub returns : goal.returns
returns c =
    dedup_is _ _ _ c.dedup.ensures.filtered
    ∙ ascending-sort_dedup_plain transfer_total transfers_same _ transfer_ties _ _ c.in_ok-sort.ensures.permutation c.in_ok-sort.ensures.sorted
    ∙ ap (ascending transfer_order) c.in_ok-keys.ensures
    ∙ keys_filed c.args.view.now c.args.by_bank.now c.requires c.args.bank.now c.args.day.now c.args.rows.now
