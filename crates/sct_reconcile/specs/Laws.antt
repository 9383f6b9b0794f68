-- Laws of lists and reports. Each law is the contract of a function. Read by an auditor.
use Rattle.std.specs.Prelude.{◌≡◌, ◌≢◌, ◌↔◌, ◌⊎◌, ◌+◌, ◌++◌, ◌∷◌, [], ⊤, ℕ, List, length, map, Contains, Option, Some, None, Ok, Err, true, false}
use Rattle.std.specs.List.Sorted.{IsStrictlySortedBy}
use Rattle.sct_message.specs.Order.{transfer_order}
use Rattle.sct_message.specs.Sets.{MessageSet}
use Rattle.sct_message.specs.Transfers.{instruction_of}
use Rattle.sct_message.specs.declared.keys.TransferKey.{TransferKey}
use Rattle.sct_set.specs.Contents.{HaveSameMessages}
use Rattle.sct_view.specs.Answers.{transfers_of_bank}
use Rattle.sct_reconcile.specs.Lists.{is_header, listed_rows_in, records_of, row_of}
use Rattle.sct_reconcile.specs.Reports.{fields_of_row, is_of_day, keys_reported, report_header, report_of, report_text_of, row_on, verdict_of}
use Rattle.sct_case.specs.Words.{word_text}
use Rattle.sct_reconcile.specs.Words.{list_status_text}
use Rattle.sct_reconcile.specs.declared.fault.ReconcileFault.TheVariants.{BadList}
use Rattle.sct_reconcile.specs.declared.rows.ListRow.{ListRow}
use Rattle.sct_reconcile.specs.declared.rows.ListedRow.{ListedRow}
use Rattle.sct_reconcile.specs.declared.rows.ReportRow.{ReportRow}
use Rattle.sct_case.specs.declared.words.StatusWord.{StatusWord}
use Rattle.sct_case.specs.declared.words.StatusWord.TheVariants as word
use Rattle.sct_reconcile.specs.declared.words.Verdict.TheVariants as verdict

-- ---- lists, by the records of their text

-- The records are a header, and below it one for each of these rows.
pub record IsListOf (records : List (List (List ℕ))) (rows : List ListedRow) : Type 0 where
  pub header : List (List ℕ)
  pub below : List (List (List ℕ))
  pub records_are : records ≡ header ∷ below
  pub header_is : is_header header ≡ true
  pub rows_are : map row_of below ≡ map Some rows

-- The records are a header, below it one for each of the rows, and then one that is not a row. That one has
-- this number, counted from 1 with the header.
pub record IsBadBelow (records : List (List (List ℕ))) (number : ℕ) : Type 0 where
  pub header : List (List ℕ)
  pub before : List (List (List ℕ))
  pub bad : List (List ℕ)
  pub behind : List (List (List ℕ))
  pub rows : List ListedRow
  pub records_are : records ≡ header ∷ (before ++ bad ∷ behind)
  pub header_is : is_header header ≡ true
  pub rows_are : map row_of before ≡ map Some rows
  pub bad_is : row_of bad ≡ None
  pub counted : number ≡ length before + 2

-- there is no record, or the first is not a header
abbrev pub IsHeadless : List (List (List ℕ)) → Type 0
IsHeadless [] = ⊤
IsHeadless (first ∷ behind) = is_header first ≡ false

-- A list is read exactly if the records are one, and a bad record is reported exactly if it is the first one.
pub record ListsAreExact : Type 0 where
  pub read : (records : List (List (List ℕ))) (rows : List ListedRow) → (listed_rows_in records ≡ Ok rows) ↔ IsListOf records rows
  pub refused : (records : List (List (List ℕ))) (number : ℕ) → (listed_rows_in records ≡ Err (BadList number))
      ↔ (((number ≡ 1) × IsHeadless records) ⊎ IsBadBelow records number)

-- ---- reports

-- the transfers of a list, and those of a report
abbrev pub keys_listed : List ListedRow → List TransferKey
keys_listed list = map (λ row. row.key) list

abbrev pub keys_told : List ReportRow → List TransferKey
keys_told rows = map (λ row. row.key) rows

-- every transfer of the list has its row
abbrev pub ListedTransfersAreTold : Type 0
ListedTransfersAreTold = (held : MessageSet) (bank day : List ℕ) (list : List ListedRow) (key : TransferKey)
    → Contains (keys_listed list) key → Contains (keys_told (report_of held bank day list)) key

-- the rows ascend by transfer, one for each
abbrev pub RowsAscend : Type 0
RowsAscend = (held : MessageSet) (bank day : List ℕ) (list : List ListedRow)
    → IsStrictlySortedBy transfer_order (keys_told (report_of held bank day list))

-- A transfer has a row exactly if it is listed, or is a transfer of the bank whose instruction has no other day.
abbrev pub OthersAreOfTheBank : Type 0
OthersAreOfTheBank = (held : MessageSet) (bank day : List ℕ) (list : List ListedRow) (key : TransferKey)
    → Contains (keys_told (report_of held bank day list)) key
    ↔ (Contains (keys_listed list) key ⊎ (Contains (transfers_of_bank held bank) key × (is_of_day day (instruction_of held key) ≡ true)))

-- One row is on the transfer, its messages do not contradict each other, one of them instructs it,
-- and the amounts and the words are equal.
pub record IsMatch (listed : List ListRow) (told : StatusWord) (amount : Option ℕ) : Type 0 where
  pub row : ListRow
  pub once : listed ≡ row ∷ []
  pub agreed : told ≢ word.Contradicted
  pub known : told ≢ word.Unknown
  pub instructed : told ≢ word.Missing
  pub same_amount : amount ≡ Some row.amount
  pub same_word : word_text told ≡ list_status_text row.status

-- a transfer is matched exactly if that holds
abbrev pub MatchedExactly : Type 0
MatchedExactly = (listed : List ListRow) (told : StatusWord) (amount : Option ℕ)
    → (verdict_of listed told amount ≡ verdict.Matched) ↔ IsMatch listed told amount

-- A list does not change the row of a transfer that it does not name: the transfer has a row exactly if it has one
-- without the list, and the rows are equal.
pub record ListsChangeNoOthers : Type 0 where
  pub told : (held : MessageSet) (bank day : List ℕ) (list : List ListedRow) (key : TransferKey) → ¬ (Contains (keys_listed list) key)
      → Contains (keys_reported held bank day list) key ↔ Contains (keys_reported held bank day []) key
  pub same : (held : MessageSet) (list : List ListedRow) (key : TransferKey) → ¬ (Contains (keys_listed list) key)
      → row_on held list key ≡ row_on held [] key

-- sets that hold the same messages have the same report
abbrev pub EqualSetsHaveEqualReports : Type 0
EqualSetsHaveEqualReports = (a b : MessageSet) (bank day : List ℕ) (list : List ListedRow) → HaveSameMessages a b
    → report_text_of (report_of a bank day list) ≡ report_text_of (report_of b bank day list)

-- the text of a report is read as the header and the fields of each row
abbrev pub ReportsReadBack : Type 0
ReportsReadBack = (rows : List ReportRow) → records_of (report_text_of rows) ≡ report_header ∷ map fields_of_row rows
