-- The share of a transfer more fits, and is added.
use Rattle.std.proofs.Common.{◌<◌, ◌^◌, ap, length, arith, rules}
use Rattle.sct_view.specs.Changes.{Change}
use Rattle.sct_view.specs.Kept.{kept_in, totals_at}
use Rattle.sct_view.proofs.ShareLemmas.{share_added, share_fits}
use Rattle.sct_view.proofs.sums.sums_in_turn.Goals as goal

pub add_shares-requires : goal.add_shares-requires
add_shares-requires c = record {
  fits = λ small p.
      let few : length c.args.transfers.now < 2 ^ 64 = search (rules, arith) in
      share_fits c.args.archive.now c.args.transfers.now c.loop-transfer.transfer-index c.transfer-item.result (kept_in c.in_ok-planned.planned.case) (totals_at c.loop-transfer.totals)
      c.loop-transfer-test.true c.transfer-item.is (ap (λ (x : Change). x.1) c.in_ok-planned.ensures) c.loop-transfer.invariant few small p;
}

pub loop-transfer-preserved : goal.loop-transfer-preserved
loop-transfer-preserved c =
    share_added c.args.archive.now c.args.transfers.now c.loop-transfer.transfer-index c.transfer-item.result (kept_in c.in_ok-planned.planned.case) (totals_at c.loop-transfer.totals)
    c.loop-transfer-test.true c.transfer-item.is (ap (λ (x : Change). x.1) c.in_ok-planned.ensures) c.loop-transfer.invariant c.in_ok-add_shares.ensures.small
    (totals_at c.add_shares.new.totals) c.in_ok-add_shares.ensures.totals
