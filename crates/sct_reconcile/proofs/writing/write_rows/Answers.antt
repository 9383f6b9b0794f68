-- A row more is written behind the others.
use Rattle.std.proofs.Common.{◌++◌, ap, subst, map, take, arith}
use Rattle.std.proofs.lemmas.List.{take_all}
use Rattle.sct_reconcile.specs.Reports.{csv_text, fields_of_row}
use Rattle.sct_reconcile.specs.Writers.{HasWritten}
use Rattle.sct_reconcile.proofs.WrittenLemmas.{written_more}
use Rattle.sct_reconcile.proofs.writing.write_rows.Goals as goal

pub loop-row-preserved : goal.loop-row-preserved
loop-row-preserved c = λ text was.
    subst (HasWritten c.write_row.new.writer)
    (written_more text c.args.rows.now c.loop-row.row-index c.row-item.result c.loop-row-test.true c.row-item.is)
    (c.in_ok-write_row.ensures (text ++ csv_text (map fields_of_row (take c.loop-row.row-index c.args.rows.now))) (c.loop-row.invariant text was))

pub returns : goal.returns
returns c = λ text was.
    subst (HasWritten c.loop-row.writer)
    (ap (λ rows. text ++ csv_text (map fields_of_row rows)) (take_all c.loop-row.row-index c.args.rows.now (omega arith)))
    (c.loop-row.invariant text was)
