-- The row of a transfer that is theirs, and of another one.
use Rattle.std.proofs.Common.{◌∙◌, sym}
use Rattle.sct_rights.proofs.ReportLemmas.{foreign_row, theirs_row}
use Rattle.sct_rights.proofs.report.row_for.Goals as goal

pub returns-then-not-is_theirs : goal.returns-then-not-is_theirs
returns-then-not-is_theirs c =
    foreign_row c.args.banks.now c.args.view.now c.args.rows.now c.args.key.now (sym c.is_theirs.ensures ∙ c.if-not-is_theirs.true)
    c.args.nothing.now c.requires.nothing c.listed_on-listed.result.now c.listed_on-listed.ensures c.row_on.result c.row_on.ensures

pub returns : goal.returns
returns c =
    theirs_row c.args.banks.now c.args.view.now c.args.rows.now c.args.key.now (sym c.is_theirs.ensures ∙ c.if-not-is_theirs.false)
    c.listed_on-listed.result.now c.listed_on-listed.ensures c.row_on-2.result c.row_on-2.ensures
