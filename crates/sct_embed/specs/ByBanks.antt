-- Questions of banks to an embedded site, and the answers to them. Read by an auditor.
use Rattle.std.specs.Prelude.{ℕ, List, Option, Some, None, Result, Ok, Err, if◌then◌else◌}
use Rattle.sct_message.specs.Sets.{MessageSet}
use Rattle.sct_message.specs.declared.keys.TransferKey.{TransferKey}
use Rattle.sct_reconcile.specs.Lists.{list_of}
use Rattle.sct_reconcile.specs.Reports.{report_text_of}
use Rattle.sct_reconcile.specs.declared.fault.ReconcileFault.{ReconcileFault}
use Rattle.sct_reconcile.specs.declared.rows.ListedRow.{ListedRow}
use Rattle.sct_rights.specs.Listing.{banks_in}
use Rattle.sct_rights.specs.Reported.{report_for}
use Rattle.sct_rights.specs.Rights.{is_one_of}
use Rattle.sct_rights.specs.Shown.{bank_line_for, lines_for, messages_for}
use Rattle.sct_embed.specs.Faults.{embed_fault_of_list}
use Rattle.sct_embed.specs.Questions.{answer_on, bank_in, day_in, identification_in}
use Rattle.sct_embed.specs.declared.faults.EmbedFault.{EmbedFault}
use Rattle.sct_embed.specs.declared.faults.EmbedFault.TheVariants as fault

-- an answer for banks, if a text lists them: it is the first argument of each question
abbrev pub answer_for_list : Option (List (List ℕ)) → (List (List ℕ) → Result (List ℕ) EmbedFault) → Result (List ℕ) EmbedFault
answer_for_list None answer = Err (fault.BadArgument 1)
answer_for_list (Some banks) answer = answer banks

-- ---- a transfer

-- the transfer of a bank and an identification, the second and the third argument
abbrev pub transfer_named : Option (List ℕ) → Option (List ℕ) → Result TransferKey EmbedFault
transfer_named None tx = Err (fault.BadArgument 2)
transfer_named (Some bank) None = Err (fault.BadArgument 3)
transfer_named (Some bank) (Some tx) = Ok (record { debtor_agent = bank; tx = tx })

-- the lines of a transfer
abbrev pub transfer_answer_for : List ℕ → List ℕ → List ℕ → MessageSet → Result (List ℕ) EmbedFault
transfer_answer_for banks bank tx held =
    answer_for_list (banks_in banks) (λ banks. answer_on (lines_for banks held) (transfer_named (bank_in bank) (identification_in tx)))

-- the messages on a transfer, as they are shown
abbrev pub messages_answer_for : List ℕ → List ℕ → List ℕ → MessageSet → Result (List ℕ) EmbedFault
messages_answer_for banks bank tx held =
    answer_for_list (banks_in banks) (λ banks. answer_on (messages_for banks held) (transfer_named (bank_in bank) (identification_in tx)))

-- ---- a bank

-- the line of a bank, which is one of the banks
abbrev pub line_of_theirs : List (List ℕ) → MessageSet → Option (List ℕ) → Result (List ℕ) EmbedFault
line_of_theirs banks held None = Err (fault.BadArgument 2)
line_of_theirs banks held (Some bank) = if is_one_of banks bank then Ok (bank_line_for banks held bank) else Err fault.NotYours

abbrev pub bank_answer_for : List ℕ → List ℕ → MessageSet → Result (List ℕ) EmbedFault
bank_answer_for banks bank held = answer_for_list (banks_in banks) (λ banks. line_of_theirs banks held (bank_in bank))

-- ---- the report

-- the report on a list, if it is valid
abbrev pub report_on_theirs : List (List ℕ) → MessageSet → List ℕ → List ℕ → Result (List ListedRow) ReconcileFault → Result (List ℕ) EmbedFault
report_on_theirs banks held bank day (Ok rows) = Ok (report_text_of (report_for banks held bank day rows))
report_on_theirs banks held bank day (Err reason) = Err (embed_fault_of_list reason)

-- the report of a bank, which is one of the banks, for a day: the second and the third argument
abbrev pub report_of_theirs : List (List ℕ) → MessageSet → Option (List ℕ) → Option (List ℕ) → Result (List ListedRow) ReconcileFault → Result (List ℕ) EmbedFault
report_of_theirs banks held None day rows = Err (fault.BadArgument 2)
report_of_theirs banks held (Some bank) None rows = Err (fault.BadArgument 3)
report_of_theirs banks held (Some bank) (Some day) rows =
    if is_one_of banks bank then report_on_theirs banks held bank day rows else Err fault.NotYours

abbrev pub report_answer_for : List ℕ → List ℕ → List ℕ → List ℕ → MessageSet → Result (List ℕ) EmbedFault
report_answer_for banks bank day list held =
    answer_for_list (banks_in banks) (λ banks. report_of_theirs banks held (bank_in bank) (day_in day) (list_of list))
