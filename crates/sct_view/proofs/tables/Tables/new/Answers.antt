-- Tables without entries show nothing.
use Rattle.sct_view.specs.Kept.{case_at, totals_at}
use Rattle.sct_view.proofs.CommitLemmas.{empty_tables}
use Rattle.sct_view.proofs.TableLemmas.{no_case_in, no_totals_in}
use Rattle.sct_view.proofs.tables.Tables.new.Goals as goal

pub invariant_of-result : goal.invariant_of-result
invariant_of-result c =
    empty_tables (case_at c.new.result) (totals_at c.new-2.result) (no_case_in c.new.result c.new.ensures.empty) (no_totals_in c.new-2.result c.new-2.ensures.empty)
