-- A participant's list, by the bytes of its text. Read by an auditor.
-- A list is CSV (RFC 4180): records of fields separated by commas, with double quotes around a field that needs them.
-- The crate `csv`, with its defaults, defines the records of a text.
use Rattle.std.specs.Prelude.{◌≡◌, ◌+◌, ◌&&◌, ℕ, Bool, false, List, [], ◌∷◌, codes, Option, Some, None, Result, Ok, Err, ⊤, option_and_then, if◌then◌else◌}
use Rattle.std.specs.Str.{is_utf8}
use Rattle.csv.specs.Reading.{default_config, records, strip_bom}
use Rattle.sct_element.specs.Bank.{written_bic}
use Rattle.sct_element.specs.Identification.{written_identification}
use Rattle.sct_element.specs.Money.{cents_of}
use Rattle.sct_element.specs.Text.{is_text, where_read}
use Rattle.sct_reconcile.specs.Words.{list_status_of}
use Rattle.sct_reconcile.specs.declared.fault.ReconcileFault.{ReconcileFault}
use Rattle.sct_reconcile.specs.declared.fault.ReconcileFault.TheVariants.{BadList, Memory}
use Rattle.sct_reconcile.specs.declared.rows.ListedRow.{ListedRow}
use Rattle.sct_reconcile.specs.declared.words.ListStatus.{ListStatus}

abbrev pub fault_number : ReconcileFault → ℕ
fault_number (BadList row) = 48
fault_number Memory = 49

-- ---- the records of a text

-- A record is the list of its fields, a field the list of its bytes. A byte order mark before the text is dropped.
abbrev pub records_of : List ℕ → List (List (List ℕ))
records_of bytes = records default_config (strip_bom bytes)

-- ---- one record

-- a field as text; none if it is not UTF-8
abbrev pub field_text : List ℕ → Option (List ℕ)
field_text field = where_read (is_utf8 field) field

-- the value of a field; none if it is not UTF-8, or not a text of its type
abbrev pub read_by : {X : Type 0} → (List ℕ → Option X) → List ℕ → Option X
read_by reads field = option_and_then reads (field_text field)

-- the row of four values; none if one of them is missing
abbrev pub said_by : Option (List ℕ) → Option (List ℕ) → Option ℕ → Option ListStatus → Option ListedRow
said_by (Some bank) (Some tx) (Some cents) (Some status) = Some (record {
  key = record { debtor_agent = bank; tx = tx };
  listed = record { amount = cents; status = status };
})
said_by bank tx cents status = None

-- the row of a bank, an identification, an amount and a status, if each is valid
abbrev pub row_in : List ℕ → List ℕ → List ℕ → List ℕ → Option ListedRow
row_in bank tx amount status =
    said_by (read_by written_bic bank) (read_by written_identification tx) (read_by cents_of amount) (read_by list_status_of status)

-- the row that a record is; a row has exactly these four fields
unfoldable pub row_of : List (List ℕ) → Option ListedRow
row_of (bank ∷ tx ∷ amount ∷ status ∷ []) = row_in bank tx amount status
row_of other = None

-- the names of the columns
abbrev pub are_names : List ℕ → List ℕ → List ℕ → List ℕ → Bool
are_names bank tx amount status =
    is_text bank (codes "DbtrAgt") && is_text tx (codes "TxId") && is_text amount (codes "Amt") && is_text status (codes "Sts")

-- the record is the header of a list: its fields are exactly these names
unfoldable pub is_header : List (List ℕ) → Bool
is_header (bank ∷ tx ∷ amount ∷ status ∷ []) = are_names bank tx amount status
is_header other = false

-- ---- the list

-- a row before others; if there is no row, the record of that number is bad
abbrev pub row_before : Option ListedRow → ℕ → Result (List ListedRow) ReconcileFault → Result (List ListedRow) ReconcileFault
row_before None number others = Err (BadList number)
row_before (Some row) number (Ok rows) = Ok (row ∷ rows)
row_before (Some row) number (Err fault) = Err fault

-- the rows of these records, or the first record that is not a row; the first record has that number
unfoldable pub rows_below : ℕ → List (List (List ℕ)) → Result (List ListedRow) ReconcileFault
rows_below number [] = Ok []
rows_below number (fields ∷ more) = row_before (row_of fields) number (rows_below (number + 1) more)

-- the rows below a header that is the first record; without a header, the first record is bad
unfoldable pub listed_rows_in : List (List (List ℕ)) → Result (List ListedRow) ReconcileFault
listed_rows_in [] = Err (BadList 1)
listed_rows_in (fields ∷ more) = if is_header fields then rows_below 2 more else Err (BadList 1)

-- the list that a text is, or the number of its first bad record, counted from 1 with the header
abbrev pub list_of : List ℕ → Result (List ListedRow) ReconcileFault
list_of bytes = listed_rows_in (records_of bytes)

-- a call returns the given answer, or is out of memory
abbrev pub GivesOrNoMemory : {X : Type 0} → Result X ReconcileFault → Result X ReconcileFault → Type 0
GivesOrNoMemory (Ok x) asked = asked ≡ Ok x
GivesOrNoMemory (Err (BadList number)) asked = asked ≡ Err (BadList number)
GivesOrNoMemory (Err Memory) asked = ⊤
