-- The shares of both banks are the share of the transfer.
use Rattle.std.proofs.Common.{◌≡◌, ◌∙◌, ◌∷◌, [], ap, sym}
use Rattle.std.specs.Option.{option_copied, option_to_list}
use Rattle.sct_case.specs.Statuses.{as_standing}
use Rattle.sct_view.specs.Kept.{instruction_in, kept_in, totals_at}
use Rattle.sct_view.specs.Totals.{beneficiary_in, share_of_beneficiary, share_of_originator}
use Rattle.sct_view.proofs.ShareLemmas.{both_added}
use Rattle.sct_view.proofs.tables.shares.add_shares.Goals as goal

pub returns-in_ok-add-2-clause-totals : goal.returns-in_ok-add-2-clause-totals
returns-in_ok-add-2-clause-totals c =
    let stands = as_standing c.args.case.now.status in
    let instruction = instruction_in (kept_in c.args.case.now) in
    let is : c.in-Some.bank.now ∷ [] ≡ beneficiary_in instruction = sym (ap (λ o. option_to_list (option_copied o)) c.in-Some.is) ∙ c.beneficiary.ensures in
    both_added c.args.transfer.now stands instruction c.in-Some.bank.now is
    (totals_at c.args.totals.now) (totals_at c.add.new.totals) (totals_at c.add-in-Some.new.totals)
    c.share_of_originator-share.result c.share_of_beneficiary-share.result
    (c.share_of_originator-share.ensures.share ∙ ap (share_of_originator stands) c.cents-cents.ensures)
    (c.share_of_beneficiary-share.ensures ∙ ap (share_of_beneficiary stands) c.cents-cents.ensures)
    c.in_ok-add.ensures c.in_ok-add-2.ensures
