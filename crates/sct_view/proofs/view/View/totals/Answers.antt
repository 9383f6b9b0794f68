-- The tables have the totals of each bank.
use Rattle.std.proofs.Common.{◌∙◌, ap}
use Rattle.sct_message.specs.Sets.{MessageSet}
use Rattle.sct_view.specs.Kept.{case_at, totals_at}
use Rattle.sct_view.specs.Totals.{totals_of}
use Rattle.sct_view.proofs.CommitLemmas.{sums_told}
use Rattle.sct_view.proofs.view.View.totals.Goals as goal

pub returns : goal.returns
returns c =
    let tables = c.self.inside.tables in
    c.totals.ensures
    ∙ sums_told c.self.inside.archive (case_at tables.cases) (totals_at tables.totals) tables.summed c.self.invariant.0 c.args.bank.now
    ∙ ap (λ (v : MessageSet). totals_of v c.args.bank.now) c.self.view_is
