-- The report that reconciles a list with a set of messages. Read by an auditor.
-- It is a function of the set of messages, the bank, the settlement day and the rows of the list.
use Rattle.std.specs.Prelude.{◌&&◌, ◌++◌, ◌∷◌, [], ℕ, Bool, true, false, not, nat_eq, nat_lt, List, length, map, filter, codes, Option, Some, None, if◌then◌else◌}
use Rattle.std.specs.List.{flat_map}
use Rattle.csv.specs.Writing.{default_writer, row_text}
use Rattle.sct_element.specs.Money.{amount_text}
use Rattle.sct_element.specs.Text.{is_text}
use Rattle.sct_message.specs.Ascending.{ascending}
use Rattle.sct_message.specs.Order.{transfer_order, same_transfer}
use Rattle.sct_message.specs.Sets.{MessageSet}
use Rattle.sct_message.specs.Transfers.{instruction_of, sole}
use Rattle.sct_message.specs.declared.draft.Draft.{Draft}
use Rattle.sct_message.specs.declared.draft.Draft.TheVariants.{CreditTransfer}
use Rattle.sct_message.specs.declared.keys.TransferKey.{TransferKey}
use Rattle.sct_view.specs.Answers.{status_of, transfers_of_bank}
use Rattle.sct_case.specs.Words.{word_of, word_text}
use Rattle.sct_reconcile.specs.Words.{agrees, list_status_text, verdict_text}
use Rattle.sct_reconcile.specs.declared.rows.ListRow.{ListRow}
use Rattle.sct_reconcile.specs.declared.rows.ListedRow.{ListedRow}
use Rattle.sct_reconcile.specs.declared.rows.ReportRow.{ReportRow}
use Rattle.sct_case.specs.declared.words.StatusWord.{StatusWord}
use Rattle.sct_case.specs.declared.words.StatusWord.TheVariants as word
use Rattle.sct_reconcile.specs.declared.words.Verdict.{Verdict}
use Rattle.sct_reconcile.specs.declared.words.Verdict.TheVariants as verdict

-- ---- the facts on a transfer

-- what the rows of a list on a transfer say, in the order of the list
abbrev pub listed_on : List ListedRow → TransferKey → List ListRow
listed_on list key = map (λ row. row.listed) (filter (λ row. same_transfer row.key key) list)

-- the amount of an instruction, in cents
abbrev pub amount_in : Option Draft → Option ℕ
amount_in (Some (CreditTransfer d)) = Some d.settlement_amount
amount_in other = None

-- the status of a transfer in the set, as a word
abbrev pub word_on : MessageSet → TransferKey → StatusWord
word_on held key = word_of (status_of held key)

-- ---- the sentences on a transfer

-- the list names the transfer more than once
abbrev pub is_listed_twice : List ListRow → Bool
is_listed_twice listed = nat_lt 1 (length listed)

-- the list names the transfer
abbrev pub is_named_by_list : List ListRow → Bool
is_named_by_list listed = nat_lt 0 (length listed)

-- its messages contradict each other
abbrev pub is_contradicted_word : StatusWord → Bool
is_contradicted_word word.Contradicted = true
is_contradicted_word other = false

-- no message instructs the transfer
abbrev pub is_uninstructed : StatusWord → Bool
is_uninstructed word.Unknown = true
is_uninstructed word.Missing = true
is_uninstructed other = false

-- the list names the amount of the instruction
abbrev pub has_amount : Option ListRow → Option ℕ → Bool
has_amount (Some listed) (Some cents) = nat_eq listed.amount cents
has_amount listed other = false

-- the list names the status
abbrev pub has_status : Option ListRow → StatusWord → Bool
has_status (Some listed) told = agrees listed.status told
has_status None told = false

-- ---- the result: the first of eight cases

unfoldable pub verdict_of : List ListRow → StatusWord → Option ℕ → Verdict
verdict_of listed told amount =
    if is_listed_twice listed then verdict.ListedTwice
    else if is_contradicted_word told then verdict.Contradicted
    else if is_uninstructed told && is_named_by_list listed then verdict.OnlyInList
    else if is_uninstructed told then verdict.Missing
    else if not (is_named_by_list listed) then verdict.OnlyInArchive
    else if not (has_amount (sole listed) amount) then verdict.AmountDiffers
    else if not (has_status (sole listed) told) then verdict.StatusDiffers
    else verdict.Matched

-- ---- the rows

-- the row of a transfer, from what the list, the messages and the instruction say of it; it has what the list says if
-- exactly one row of the list is on the transfer
abbrev pub row_from : TransferKey → List ListRow → StatusWord → Option ℕ → ReportRow
row_from key listed told amount = record {
  key = key;
  verdict = verdict_of listed told amount;
  listed = sole listed;
  amount = amount;
  status = told;
}

-- the row of a transfer, from what the rows of a list say of it
abbrev pub row_beside : MessageSet → List ListRow → TransferKey → ReportRow
row_beside held listed key = row_from key listed (word_on held key) (amount_in (instruction_of held key))

-- the row of a transfer
abbrev pub row_on : MessageSet → List ListedRow → TransferKey → ReportRow
row_on held list key = row_beside held (listed_on list key) key

-- no instruction names another settlement day
abbrev pub is_of_day : List ℕ → Option Draft → Bool
is_of_day day (Some (CreditTransfer d)) = is_text d.settlement_date day
is_of_day day other = true

-- the transfers of the bank, except those whose instruction has another settlement day
abbrev pub transfers_on_day : MessageSet → List ℕ → List ℕ → List TransferKey
transfers_on_day held bank day = filter (λ key. is_of_day day (instruction_of held key)) (transfers_of_bank held bank)

-- the transfers of a report, ascending: those of the list, and those of the bank on the day
abbrev pub keys_reported : MessageSet → List ℕ → List ℕ → List ListedRow → List TransferKey
keys_reported held bank day list = ascending transfer_order (map (λ row. row.key) list ++ transfers_on_day held bank day)

-- the report: the row of each of these transfers
unfoldable pub report_of : MessageSet → List ℕ → List ℕ → List ListedRow → List ReportRow
report_of held bank day list = map (row_on held list) (keys_reported held bank day list)

-- ---- the text of a report

abbrev pub report_header : List (List ℕ)
report_header =
    codes "DbtrAgt"
    ∷ codes "TxId"
    ∷ codes "Result"
    ∷ codes "ListAmt"
    ∷ codes "ListSts"
    ∷ codes "Amt"
    ∷ codes "Sts"
    ∷ []

-- an absent amount is written as an empty field
abbrev pub amount_field : Option ℕ → List ℕ
amount_field (Some cents) = amount_text cents
amount_field None = []

abbrev pub listed_amount_field : Option ListRow → List ℕ
listed_amount_field (Some listed) = amount_text listed.amount
listed_amount_field None = []

abbrev pub listed_status_field : Option ListRow → List ℕ
listed_status_field (Some listed) = list_status_text listed.status
listed_status_field None = []

abbrev pub fields_of_row : ReportRow → List (List ℕ)
fields_of_row row =
    row.key.debtor_agent
    ∷ row.key.tx
    ∷ verdict_text row.verdict
    ∷ listed_amount_field row.listed
    ∷ listed_status_field row.listed
    ∷ amount_field row.amount
    ∷ word_text row.status
    ∷ []

-- records as `csv` writes them with its defaults, each ended by a line feed
abbrev pub csv_text : List (List (List ℕ)) → List ℕ
csv_text rows = flat_map (row_text default_writer) rows

-- the text of a report: the header, and a record for each row
unfoldable pub report_text_of : List ReportRow → List ℕ
report_text_of rows = csv_text (report_header ∷ map fields_of_row rows)
