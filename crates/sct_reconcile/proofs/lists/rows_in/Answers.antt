-- The rows are those under the header, which is the first record.
use Rattle.std.proofs.Common.{◌∙◌, sym, ap, subst, Result, List}
use Rattle.std.specs.Option.{option_copied}
use Rattle.csv.specs.Records.{fields_of}
use Rattle.sct_reconcile.specs.Turns.{GivesRows}
use Rattle.sct_reconcile.specs.declared.fault.ReconcileFault.{ReconcileFault}
use Rattle.sct_reconcile.specs.declared.rows.ListedRow.{ListedRow}
use Rattle.sct_reconcile.proofs.RowLemmas.{list_empty, list_headed, list_headless}
use Rattle.sct_reconcile.proofs.lists.rows_in.Goals as goal

pub returns-in_default : goal.returns-in_default
returns-in_default c = list_empty fields_of c.args.records.now (sym c.first.ensures.value ∙ ap option_copied c.in_default.is)

pub returns-then-not-is_header : goal.returns-then-not-is_header
returns-then-not-is_header c =
    list_headless fields_of c.args.records.now c.in-Some.first.now (sym c.first.ensures.value ∙ ap option_copied c.in-Some.is) (sym c.is_header.ensures ∙ c.if-not-is_header.true)

pub returns : goal.returns
returns c =
    subst (λ (asked : Result (List ListedRow) ReconcileFault). GivesRows c.rows_after_first.result asked)
    (sym (list_headed fields_of c.args.records.now c.in-Some.first.now (sym c.first.ensures.value ∙ ap option_copied c.in-Some.is) (sym c.is_header.ensures ∙ c.if-not-is_header.false)))
    c.rows_after_first.ensures
