-- The sums of both parts are those of the whole list.
use Rattle.std.proofs.Common.{◌≡◌, ◌++◌, List, subst, rules}
use Rattle.sct_message.specs.declared.keys.TransferKey.{TransferKey}
use Rattle.sct_view.specs.Kept.{totals_at}
use Rattle.sct_view.specs.Sums.{AreSharesOf}
use Rattle.sct_view.proofs.ShareLemmas.{shares_joined}
use Rattle.sct_view.proofs.sums.+halves.Goals as goal

pub returns : goal.returns
returns g t c =
    let front = c.split_at.result.0.now in
    let back = c.split_at.result.1.now in
    let whole : front ++ back ≡ c.args.transfers.now = search rules in
    let first : AreSharesOf c.args.archive.now front (totals_at c.in_ok-totals.totals) = search rules in
    let second : AreSharesOf c.args.archive.now back (totals_at c.in_ok-more.more) = search rules in
    subst (λ (ts : List TransferKey). AreSharesOf c.args.archive.now ts (totals_at c.add_all.new.totals)) whole
    (shares_joined c.args.archive.now front back (totals_at c.in_ok-totals.totals) (totals_at c.in_ok-more.more) first second (totals_at c.add_all.new.totals) c.in_ok-add_all.ensures)
