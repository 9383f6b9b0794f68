-- A row more is written behind the others.
use Rattle.std.specs.Prelude.{map, length, get_or, take, ◌+◌, ◌<◌, ℕ}
use Rattle.std.proofs.Common.{◌≡◌, ◌∙◌, ap, sym, append_assoc, List, [], ◌∷◌, ◌++◌}
use Rattle.std.proofs.lemmas.List.{map-append, append-nil}
use Rattle.csv.specs.Writing.{default_writer, row_text}
use Rattle.sct_reconcile.specs.Reports.{csv_text, fields_of_row}
use Rattle.sct_reconcile.specs.declared.rows.ReportRow.{ReportRow}
use Rattle.sct_reconcile.proofs.FiledLemmas.{take_more}

csv_more : (records : List (List (List ℕ))) (fields : List (List ℕ)) → csv_text records ++ row_text default_writer fields ≡ csv_text (records ++ fields ∷ [])
csv_more [] fields = sym (append-nil (row_text default_writer fields))
csv_more (r ∷ rs) fields =
    append_assoc (row_text default_writer r) (csv_text rs) (row_text default_writer fields)
    ∙ ap (λ (t : List ℕ). row_text default_writer r ++ t) (csv_more rs fields)

pub written_more : (text : List ℕ) (rows : List ReportRow) (i : ℕ) (row : ReportRow) → i < length rows → row ≡ get_or rows i row
    → (text ++ csv_text (map fields_of_row (take i rows))) ++ row_text default_writer (fields_of_row row)
    ≡ text ++ csv_text (map fields_of_row (take (i + 1) rows))
written_more text rows i row inside here =
    append_assoc text (csv_text (map fields_of_row (take i rows))) (row_text default_writer (fields_of_row row))
    ∙ ap (λ (t : List ℕ). text ++ t)
    (csv_more (map fields_of_row (take i rows)) (fields_of_row row)
    ∙ ap csv_text (sym (map-append fields_of_row (take i rows) (row ∷ [])) ∙ ap (map fields_of_row) (take_more rows i row inside here)))
