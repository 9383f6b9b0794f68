-- Places that are only open show nothing.
use Rattle.std.proofs.Common.{◌∙◌, refl}
use Rattle.sct_view.specs.Kept.{case_at, totals_at}
use Rattle.sct_view.proofs.CommitLemmas.{tables_alike}
use Rattle.sct_view.proofs.tables.Tables.open.Goals as goal

pub invariant_of-self : goal.invariant_of-self
invariant_of-self c =
    let self = c.args.self.now in
    tables_alike (case_at self.cases) (case_at c.open_case.new.cases) (totals_at self.totals) (totals_at self.totals) self.summed self.small
    c.open_case.ensures.same (λ p. refl)

pub invariant_of-self-in-Break-branch-2 : goal.invariant_of-self-in-Break-branch-2
invariant_of-self-in-Break-branch-2 c =
    let self = c.args.self.now in
    tables_alike (case_at self.cases) (case_at c.open_case.new.cases) (totals_at self.totals) (totals_at c.open_total.new.totals) self.summed self.small
    c.open_case.ensures.same c.open_total.ensures.same

pub invariant_of-self-2 : goal.invariant_of-self-2
invariant_of-self-2 c =
    let self = c.args.self.now in
    tables_alike (case_at self.cases) (case_at c.open_case.new.cases) (totals_at self.totals) (totals_at c.open_beneficiary.new.totals) self.summed self.small
    c.open_case.ensures.same (λ p. c.open_beneficiary.ensures.same p ∙ c.open_total.ensures.same p)
