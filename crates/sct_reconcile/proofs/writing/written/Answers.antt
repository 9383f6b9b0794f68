-- The header, and then the rows.
use Rattle.std.proofs.Common.{[]}
use Rattle.csv.specs.Writing.{default_writer, row_text}
use Rattle.sct_reconcile.specs.Reports.{report_header, report_text_of}
use Rattle.sct_reconcile.proofs.writing.written.Goals as goal

pub returns : goal.returns
unfolding report_text_of
returns c =
    c.in_ok-text.ensures _ (c.in_ok-write_rows.ensures (row_text default_writer report_header) (c.in_ok-write_header.ensures [] c.start-writer.ensures))
