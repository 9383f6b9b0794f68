-- What csv writes, csv reads.
use Rattle.std.specs.Prelude.{map}
use Rattle.std.proofs.Common.{◌≡◌, ◌∙◌, ap, refl, ℕ, List, [], ◌∷◌, None}
use Rattle.csv.specs.Machine.{next_record}
use Rattle.csv.specs.Reading.{Reached, default_config, records, strip_bom}
use Rattle.csv.specs.Writing.{read_back, escaped, fields_text, is_blank}
use Rattle.csv.specs.declared.parser.State.TheVariants as st
use Rattle.csv.proofs.RoundTrip.{read-write}
use Rattle.sct_reconcile.specs.Lists.{records_of}
use Rattle.sct_reconcile.specs.Reports.{csv_text, report_header}
use Rattle.sct_reconcile.proofs.RecordLemmas.{records_are}

-- each row is a record, the last one ends the text
reached_all : (rows : List (List (List ℕ)))
    → Reached default_config st.StartRecord (csv_text rows) (map read_back rows) st.StartRecord []
unfolding Reached
reached_all [] = (refl, refl)
reached_all (row ∷ rows) =
    ((read_back row, st.StartRecord, csv_text rows), read-write row (csv_text rows), refl, reached_all rows)

at_end : next_record default_config st.StartRecord [] [] [] ≡ None
unfolding next_record
at_end = refl

-- what is written is read, but for a record of no field
pub read_all : (rows : List (List (List ℕ))) → records default_config (csv_text rows) ≡ map read_back rows
read_all rows = records_are (csv_text rows) (map read_back rows) (st.StartRecord, [], reached_all rows, at_end)

-- a text that begins with the header has no byte order mark
no_mark : (rows : List (List (List ℕ))) → strip_bom (csv_text (report_header ∷ rows)) ≡ csv_text (report_header ∷ rows)
unfolding strip_bom escaped fields_text is_blank
no_mark rows = refl

pub under_header : (rows : List (List (List ℕ))) → map read_back rows ≡ rows
    → records_of (csv_text (report_header ∷ rows)) ≡ report_header ∷ rows
under_header rows full =
    ap (records default_config) (no_mark rows) ∙ read_all (report_header ∷ rows) ∙ ap (λ (t : List (List (List ℕ))). report_header ∷ t) full
