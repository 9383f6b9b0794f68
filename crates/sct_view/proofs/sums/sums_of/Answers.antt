-- The shares of all transfers of the index are the totals of the archive.
use Rattle.std.proofs.Common.{◌∙◌, List, subst}
use Rattle.sct_message.specs.declared.keys.TransferKey.{TransferKey}
use Rattle.sct_view.specs.Kept.{totals_at}
use Rattle.sct_view.specs.Sums.{AreSharesOf}
use Rattle.sct_view.proofs.ShareLemmas.{shares_filed}
use Rattle.sct_view.proofs.sums.sums_of.Goals as goal

pub returns : goal.returns
returns g c =
    shares_filed c.args.archive.now c.args.index.now c.keys.ensures.unique c.requires (totals_at c.in_ok-totals.totals)
    (subst (λ (ts : List TransferKey). AreSharesOf c.args.archive.now ts (totals_at c.in_ok-totals.totals)) (c.as_slice-transfers.ensures ∙ c.keys.ensures.rest) c.in_ok-totals.ensures)
