-- Questions to an embedded site, whose answer is a text of what it holds. Read by an auditor.
use Rattle.std.specs.Prelude.{◌≡◌, ◌++◌, ◌∷◌, [], ℕ, List, Option, Some, None, Result, Ok, Err, ⊤, flat_map, take, codes}
use Rattle.sct_element.specs.Bank.{written_bic}
use Rattle.sct_element.specs.Date.{written_day}
use Rattle.sct_element.specs.Identification.{written_identification}
use Rattle.sct_message.specs.Sets.{MessageSet}
use Rattle.sct_message.specs.declared.keys.Identity.{Identity}
use Rattle.sct_message.specs.declared.keys.TransferKey.{TransferKey}
use Rattle.sct_set.specs.Archive.{archive_text_of}
use Rattle.sct_set.specs.Contradictions.{contradicted_identities}
use Rattle.sct_view.specs.Answers.{those_on}
use Rattle.sct_view.specs.StatusText.{identity_words, lines_on}
use Rattle.sct_view.specs.Totals.{totals_of}
use Rattle.sct_view.specs.TotalsText.{totals_line}
use Rattle.sct_view.specs.Touched.{touched_in}
use Rattle.sct_delta.specs.Entries.{Placed, messages_of}
use Rattle.sct_keep.specs.Keep.{closed_of, kept_of}
use Rattle.sct_reconcile.specs.Lists.{list_of, read_by}
use Rattle.sct_reconcile.specs.Reports.{report_of, report_text_of}
use Rattle.sct_reconcile.specs.declared.fault.ReconcileFault.{ReconcileFault}
use Rattle.sct_reconcile.specs.declared.rows.ListedRow.{ListedRow}
use Rattle.sct_embed.specs.Faults.{embed_fault_of_list}
use Rattle.sct_embed.specs.declared.faults.EmbedFault.{EmbedFault}
use Rattle.sct_embed.specs.declared.faults.EmbedFault.TheVariants as fault

-- ---- contradictions

-- the line of an identity: sender, kind and message identification, separated by bars, and a line feed
unfoldable pub identity_line : Identity → List ℕ
identity_line identity = identity_words identity ++ 10 ∷ []

-- the line of each contradicted identity, ascending
unfoldable pub contradictions_text_of : MessageSet → List ℕ
contradictions_text_of held = flat_map identity_line (contradicted_identities held)

-- ---- questions on one transfer or one bank

-- a bank, an identification and a day, by the bytes of their text; none if it is not valid
abbrev pub bank_in : List ℕ → Option (List ℕ)
bank_in text = read_by written_bic text

abbrev pub identification_in : List ℕ → Option (List ℕ)
identification_in text = read_by written_identification text

abbrev pub day_in : List ℕ → Option (List ℕ)
day_in text = read_by written_day text

-- the transfer of a bank and an identification; if one is not valid, the first such argument, from 1
abbrev pub transfer_from : Option (List ℕ) → Option (List ℕ) → Result TransferKey EmbedFault
transfer_from None tx = Err (fault.BadArgument 1)
transfer_from (Some bank) None = Err (fault.BadArgument 2)
transfer_from (Some bank) (Some tx) = Ok (record { debtor_agent = bank; tx = tx })

-- an answer about a transfer, if the transfer is valid
abbrev pub answer_on : (TransferKey → List ℕ) → Result TransferKey EmbedFault → Result (List ℕ) EmbedFault
answer_on text (Ok transfer) = Ok (text transfer)
answer_on text (Err reason) = Err reason

-- the lines of a transfer in the status text
abbrev pub transfer_answer : List ℕ → List ℕ → MessageSet → Result (List ℕ) EmbedFault
transfer_answer bank tx held = answer_on (lines_on held) (transfer_from (bank_in bank) (identification_in tx))

-- the lines of the archive text that have the messages on a transfer
abbrev pub messages_answer : List ℕ → List ℕ → MessageSet → Result (List ℕ) EmbedFault
messages_answer bank tx held =
    answer_on (λ transfer. archive_text_of (those_on held transfer)) (transfer_from (bank_in bank) (identification_in tx))

-- the line of a bank in the totals text
abbrev pub line_of_bank : MessageSet → Option (List ℕ) → Result (List ℕ) EmbedFault
line_of_bank held None = Err (fault.BadArgument 1)
line_of_bank held (Some bank) = Ok (totals_line bank (totals_of held bank))

abbrev pub bank_answer : List ℕ → MessageSet → Result (List ℕ) EmbedFault
bank_answer bank held = line_of_bank held (bank_in bank)

-- ---- the report

-- the report on a list, if it is valid
abbrev pub report_on : MessageSet → List ℕ → List ℕ → Result (List ListedRow) ReconcileFault → Result (List ℕ) EmbedFault
report_on held bank day (Ok rows) = Ok (report_text_of (report_of held bank day rows))
report_on held bank day (Err reason) = Err (embed_fault_of_list reason)

-- the report of a bank for a day, if these are valid; if one is not, the first such argument, from 1
abbrev pub report_by_arguments : MessageSet → Option (List ℕ) → Option (List ℕ) → Result (List ListedRow) ReconcileFault → Result (List ℕ) EmbedFault
report_by_arguments held None day rows = Err (fault.BadArgument 1)
report_by_arguments held (Some bank) None rows = Err (fault.BadArgument 2)
report_by_arguments held (Some bank) (Some day) rows = report_on held bank day rows

abbrev pub report_answer : List ℕ → List ℕ → List ℕ → MessageSet → Result (List ℕ) EmbedFault
report_answer bank day list held = report_by_arguments held (bank_in bank) (day_in day) (list_of list)

-- ---- what is kept and what is closed on a day

-- the archive text of a part of what is held, if the day is valid
abbrev pub part_on : (List ℕ → MessageSet) → Option (List ℕ) → Result (List ℕ) EmbedFault
part_on part None = Err (fault.BadArgument 1)
part_on part (Some day) = Ok (archive_text_of (part day))

abbrev pub kept_answer : List ℕ → MessageSet → Result (List ℕ) EmbedFault
kept_answer day held = part_on (λ day. kept_of day held) (day_in day)

abbrev pub closed_answer : List ℕ → MessageSet → Result (List ℕ) EmbedFault
closed_answer day held = part_on (λ day. closed_of held (kept_of day held)) (day_in day)

-- ---- what changed

-- the line of a transfer: its bank and its identification, separated by a bar, and a line feed
abbrev pub transfer_line : TransferKey → List ℕ
transfer_line transfer = transfer.debtor_agent ++ codes "|" ++ transfer.tx ++ 10 ∷ []

-- the line of each transfer that later messages touch, ascending: every other transfer has the answers that it had
unfoldable pub changes_text_of : MessageSet → MessageSet → List ℕ
changes_text_of earlier later = flat_map transfer_line (touched_in earlier later)

-- what changed since changes were asked for last; nothing at the first time, which begins the watch
abbrev pub changes_since : Option ℕ → List Placed → List ℕ
changes_since None arrivals = []
changes_since (Some asked) arrivals = changes_text_of (messages_of (take asked arrivals)) (messages_of arrivals)

-- ---- what a call returns

-- The answer is the text that was asked for. Or the call is refused for the reason. Or it is out of memory.
abbrev pub Answers : {X : Type 0} → Result (List ℕ) EmbedFault → Result X EmbedFault → List ℕ → Type 0
Answers asked (Ok done) answer = asked ≡ Ok answer
Answers asked (Err fault.Memory) answer = ⊤
Answers asked (Err reason) answer = asked ≡ Err reason
