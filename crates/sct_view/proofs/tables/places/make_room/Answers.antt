-- Places that are closed again leave the tables as they were.
use Rattle.std.proofs.Common.{◌∙◌, ap, take}
use Rattle.sct_view.specs.Kept.{case_at, totals_at}
use Rattle.sct_view.proofs.CommitLemmas.{tables_alike}
use Rattle.sct_view.proofs.TableLemmas.{same_cases_in, same_totals_in}
use Rattle.sct_view.proofs.tables.places.make_room.Goals as goal

pub invariant_of-tables : goal.invariant_of-tables
invariant_of-tables c =
    let tables = c.args.tables.now in
    let roomy = c.open_all.new.self in
    tables_alike (case_at tables.cases) (case_at c.truncate.new.self) (totals_at tables.totals) (totals_at c.truncate-in-Err.new.self) tables.summed tables.small
    (same_cases_in tables.cases c.truncate.new.self
    (c.truncate.ensures.entries ∙ ap (λ n. take n roomy.cases.entries) c.len-transfers.ensures.len ∙ c.open_all.ensures.cases_front))
    (same_totals_in tables.totals c.truncate-in-Err.new.self
    (c.truncate-in-Err.ensures.entries ∙ ap (λ n. take n roomy.totals.entries) c.len-banks.ensures.len ∙ c.open_all.ensures.totals_front))

pub invariant_of-tables-then-is_err : goal.invariant_of-tables-then-is_err
invariant_of-tables-then-is_err c =
    let tables = c.args.tables.now in
    let roomy = c.open_all.new.self in
    tables_alike (case_at tables.cases) (case_at c.truncate-then-is_err.new.self) (totals_at tables.totals) (totals_at c.truncate-then-is_err-2.new.self) tables.summed tables.small
    (same_cases_in tables.cases c.truncate-then-is_err.new.self
    (c.truncate-then-is_err.ensures.entries ∙ ap (λ n. take n roomy.cases.entries) c.len-transfers.ensures.len ∙ c.open_all.ensures.cases_front))
    (same_totals_in tables.totals c.truncate-then-is_err-2.new.self
    (c.truncate-then-is_err-2.ensures.entries ∙ ap (λ n. take n roomy.totals.entries) c.len-banks.ensures.len ∙ c.open_all.ensures.totals_front))
