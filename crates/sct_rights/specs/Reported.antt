-- The report for banks. Read by an auditor.
use Rattle.std.specs.Prelude.{ℕ, List, map}
use Rattle.sct_message.specs.Sets.{MessageSet}
use Rattle.sct_message.specs.declared.keys.TransferKey.{TransferKey}
use Rattle.sct_reconcile.specs.Reports.{keys_reported, row_on}
use Rattle.sct_reconcile.specs.declared.rows.ListedRow.{ListedRow}
use Rattle.sct_reconcile.specs.declared.rows.ReportRow.{ReportRow}
use Rattle.sct_rights.specs.Shown.{seen_on, visible}

-- the row of a transfer: as in what is visible if the transfer is theirs, and as on no message if not
abbrev pub row_for : List (List ℕ) → MessageSet → List ListedRow → TransferKey → ReportRow
row_for banks held list key = row_on (seen_on banks held key) list key

-- the report of a bank of theirs
unfoldable pub report_for : List (List ℕ) → MessageSet → List ℕ → List ℕ → List ListedRow → List ReportRow
report_for banks held bank day list = map (row_for banks held list) (keys_reported (visible banks held) bank day list)
