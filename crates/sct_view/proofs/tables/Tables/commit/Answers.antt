-- The old shares are within the totals, the new totals fit, and they are those of the new cases.
use Rattle.std.proofs.Common.{◌∙◌, ◌<◌, ◌^◌, ap, cond, refl, rules, sym, subst}
use Rattle.sct_view.specs.Kept.{case_at, kept_in, kept_or_none, same_key, share_in, totals_at, IsUpTo, Kept}
use Rattle.sct_view.specs.Totals.{plus}
use Rattle.sct_view.proofs.CommitLemmas.{put_fits, small_with, sums_with, tables_alike, taken_within}
use Rattle.sct_view.proofs.TotalsLemmas.{Cases}
use Rattle.sct_view.proofs.tables.Tables.commit.Goals as goal

pub take_shares-requires : goal.take_shares-requires
take_shares-requires c =
    let self = c.args.self.now in
    let t = c.args.planned.transfer in
    record {
      fits = λ p. subst (λ (k : Kept). IsUpTo (share_in p t k) (totals_at self.totals p)) (ap kept_or_none (sym c.in-Some.ensures.value))
          (taken_within self.cases (totals_at self.totals) self.summed t p);
    }

pub put_shares-requires-clause-fits : goal.put_shares-requires-clause-fits
put_shares-requires-clause-fits c =
    let self = c.args.self.now in
    let t = c.args.planned.transfer in
    put_fits self.cases (totals_at self.totals) self.summed t (kept_in c.args.planned.case) (totals_at c.take_shares.new.totals)
    (λ p. ap (λ (k : Kept). plus (totals_at c.take_shares.new.totals p) (share_in p t k)) (ap kept_or_none (sym c.in-Some.ensures.value)) ∙ c.take_shares.ensures.totals p)
    self.small (subst (λ n. n < 2 ^ 63) c.len-places.ensures.len c.len-places.ensures.small)

pub invariant_of-self : goal.invariant_of-self
invariant_of-self c =
    let self = c.args.self.now in
    let t = c.args.planned.transfer in
    let anew = kept_in c.args.planned.case in
    let with_case : Cases = λ k. cond (same_key t k) anew (case_at self.cases k) in
    tables_alike with_case (case_at (c.get_mut.follows.lender c.args.planned.case)) (totals_at c.put_shares.new.totals) (totals_at c.put_shares.new.totals)
    (sums_with (case_at self.cases) (totals_at self.totals) self.summed t anew (totals_at c.take_shares.new.totals) (totals_at c.put_shares.new.totals)
    (λ p. ap (λ (k : Kept). plus (totals_at c.take_shares.new.totals p) (share_in p t k)) (ap kept_or_none (sym c.in-Some.ensures.value)) ∙ c.take_shares.ensures.totals p)
    c.put_shares.ensures.totals)
    (small_with (case_at self.cases) (totals_at self.totals) self.summed t anew self.small c.put_shares.ensures.small)
    (λ k. search (rules)) (λ p. refl)
