-- Tables without entries show nothing.
use Rattle.sct_view.specs.Kept.{case_at, totals_at}
use Rattle.sct_view.proofs.CommitLemmas.{empty_tables}
use Rattle.sct_view.proofs.TableLemmas.{no_case_in, no_totals_in}
use Rattle.sct_view.proofs.tables.Tables.with_room.Goals as goal

pub invariant_of-result : goal.invariant_of-result
invariant_of-result c =
    let cases = c.in_ok-with_capacity.field-0 in
    empty_tables (case_at cases) (totals_at c.new.result) (no_case_in cases c.in_ok-with_capacity.ensures.empty) (no_totals_in c.new.result c.new.ensures.empty)
