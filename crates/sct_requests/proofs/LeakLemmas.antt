-- Sets that are alike for banks have the same replies to their questions. Proof plumbing.
use Rattle.std.proofs.Common.{◌≡◌, refl, ap, ℕ, Bool, true, false, cond, List}
use Rattle.std.specs.Prelude.{codes, Option, None, Some, Result, Ok, Err, if◌then◌else◌}
use Rattle.sct_element.specs.Text.{is_text}
use Rattle.sct_message.specs.Sets.{MessageSet}
use Rattle.sct_message.specs.declared.keys.TransferKey.{TransferKey}
use Rattle.sct_reconcile.specs.Lists.{list_of}
use Rattle.sct_reconcile.specs.Reports.{report_text_of}
use Rattle.sct_reconcile.specs.declared.fault.ReconcileFault.{ReconcileFault}
use Rattle.sct_reconcile.specs.declared.rows.ListedRow.{ListedRow}
use Rattle.sct_reconcile.specs.declared.rows.ReportRow.{ReportRow}
use Rattle.sct_rights.specs.Laws.{AreAlikeFor}
use Rattle.sct_rights.specs.Listing.{banks_in}
use Rattle.sct_rights.specs.Rights.{is_one_of}
use Rattle.sct_rights.specs.Shown.{bank_line_for, lines_for, messages_for}
use Rattle.sct_rights.proofs.LeakLemmas.{nothing_leaks}
use Rattle.sct_embed.specs.ByBanks.{answer_for_list, bank_answer_for, line_of_theirs, messages_answer_for, report_answer_for, report_of_theirs, report_on_theirs, transfer_answer_for, transfer_named}
use Rattle.sct_embed.specs.Questions.{answer_on, bank_in, day_in, identification_in}
use Rattle.sct_embed.specs.declared.faults.EmbedFault.{EmbedFault}
use Rattle.sct_embed.specs.declared.faults.EmbedFault.TheVariants as embedded
use Rattle.sct_requests.specs.Laws.{AreAlikeForList, NothingLeaksToBanks}
use Rattle.sct_requests.specs.Questions.{about, answer_about_for, answer_named_for, answered, report_asked_for, report_for_day}
use Rattle.sct_requests.specs.Steps.{with_feeds}
use Rattle.sct_requests.specs.Words.{one_word, two_parts}
use Rattle.sct_requests.specs.declared.questions.QuestionFault.{QuestionFault}
use Rattle.sct_requests.specs.declared.questions.QuestionFault.TheVariants as fault

-- ---- the four answers, for banks

module _ (banks : List (List ℕ)) (one other : MessageSet) (alike : AreAlikeFor banks one other) where
  lines_read : (transfer : Result TransferKey EmbedFault) → answer_on (lines_for banks one) transfer ≡ answer_on (lines_for banks other) transfer
  lines_read (Ok transfer) = ap (λ (text : List ℕ). Ok text) (nothing_leaks.lines banks one other alike transfer)
  lines_read (Err reason) = refl

  messages_read : (transfer : Result TransferKey EmbedFault) → answer_on (messages_for banks one) transfer ≡ answer_on (messages_for banks other) transfer
  messages_read (Ok transfer) = ap (λ (text : List ℕ). Ok text) (nothing_leaks.messages banks one other alike transfer)
  messages_read (Err reason) = refl

  line_by : (bank : List ℕ) (b : Bool) → is_one_of banks bank ≡ b
      → cond b (Ok (bank_line_for banks one bank)) (Err embedded.NotYours) ≡ cond b (Ok (bank_line_for banks other bank)) (Err embedded.NotYours)
  line_by bank true yours = ap (λ (text : List ℕ). Ok text) (nothing_leaks.bank banks one other alike bank yours)
  line_by bank false not_yours = refl

  line_read : (bank : Option (List ℕ)) → line_of_theirs banks one bank ≡ line_of_theirs banks other bank
  line_read None = refl
  line_read (Some bank) = line_by bank (is_one_of banks bank) refl

  rows_read : (bank day : List ℕ) → is_one_of banks bank ≡ true → (rows : Result (List ListedRow) ReconcileFault)
      → report_on_theirs banks one bank day rows ≡ report_on_theirs banks other bank day rows
  rows_read bank day yours (Ok rows) = ap (λ (found : List ReportRow). Ok (report_text_of found)) (nothing_leaks.report banks one other alike bank day rows yours)
  rows_read bank day yours (Err reason) = refl

  report_by : (bank day : List ℕ) (rows : Result (List ListedRow) ReconcileFault) (b : Bool) → is_one_of banks bank ≡ b
      → cond b (report_on_theirs banks one bank day rows) (Err embedded.NotYours) ≡ cond b (report_on_theirs banks other bank day rows) (Err embedded.NotYours)
  report_by bank day rows true yours = rows_read bank day yours rows
  report_by bank day rows false not_yours = refl

  report_read : (bank day : Option (List ℕ)) (rows : Result (List ListedRow) ReconcileFault) → report_of_theirs banks one bank day rows ≡ report_of_theirs banks other bank day rows
  report_read None day rows = refl
  report_read (Some bank) None rows = refl
  report_read (Some bank) (Some day) rows = report_by bank day rows (is_one_of banks bank) refl

-- ---- for the banks of a list

module _ (text : List ℕ) (one other : MessageSet) (alike : AreAlikeForList text one other) where
  answered_for : (answer : MessageSet → List (List ℕ) → Result (List ℕ) EmbedFault)
      → ((banks : List (List ℕ)) → AreAlikeFor banks one other → answer one banks ≡ answer other banks)
      → (o : Option (List (List ℕ))) → banks_in text ≡ o → answer_for_list o (answer one) ≡ answer_for_list o (answer other)
  answered_for answer same None none = refl
  answered_for answer same (Some banks) listed = same banks (alike banks listed)

  transfer_alike : (bank tx : List ℕ) → transfer_answer_for text bank tx one ≡ transfer_answer_for text bank tx other
  transfer_alike bank tx =
      answered_for (λ held banks. answer_on (lines_for banks held) (transfer_named (bank_in bank) (identification_in tx)))
      (λ banks same. lines_read banks one other same (transfer_named (bank_in bank) (identification_in tx))) (banks_in text) refl

  messages_alike : (bank tx : List ℕ) → messages_answer_for text bank tx one ≡ messages_answer_for text bank tx other
  messages_alike bank tx =
      answered_for (λ held banks. answer_on (messages_for banks held) (transfer_named (bank_in bank) (identification_in tx)))
      (λ banks same. messages_read banks one other same (transfer_named (bank_in bank) (identification_in tx))) (banks_in text) refl

  bank_alike : (bank : List ℕ) → bank_answer_for text bank one ≡ bank_answer_for text bank other
  bank_alike bank =
      answered_for (λ held banks. line_of_theirs banks held (bank_in bank))
      (λ banks same. line_read banks one other same (bank_in bank)) (banks_in text) refl

  report_alike : (bank day list : List ℕ) → report_answer_for text bank day list one ≡ report_answer_for text bank day list other
  report_alike bank day list =
      answered_for (λ held banks. report_of_theirs banks held (bank_in bank) (day_in day) (list_of list))
      (λ banks same. report_read banks one other same (bank_in bank) (day_in day) (list_of list)) (banks_in text) refl

  about_alike : {X : Type 0} (words : Option X) (answer also : X → Result (List ℕ) EmbedFault) → ((x : X) → answer x ≡ also x) → about words answer ≡ about words also
  about_alike None answer also same = refl
  about_alike (Some x) answer also same = ap answered (same x)

  day_alike : (bank : List ℕ) (words : Option (List ℕ × List ℕ)) → report_for_day one text bank words ≡ report_for_day other text bank words
  day_alike bank words =
      about_alike words (λ parts. report_answer_for text bank parts.0 (with_feeds parts.1) one) (λ parts. report_answer_for text bank parts.0 (with_feeds parts.1) other)
      (λ parts. report_alike bank parts.0 (with_feeds parts.1))

  reports_alike : (words : Option (List ℕ × List ℕ)) → report_asked_for one text words ≡ report_asked_for other text words
  reports_alike None = refl
  reports_alike (Some parts) = day_alike parts.0 (two_parts parts.1)

  -- the questions, by the answers to each
  abbrev named_by : List ℕ → Result (List ℕ) QuestionFault → Result (List ℕ) QuestionFault → Result (List ℕ) QuestionFault → Result (List ℕ) QuestionFault → Result (List ℕ) QuestionFault
  named_by name transfer messages bank report =
      if is_text name (codes "transfer") then transfer
      else if is_text name (codes "messages") then messages
      else if is_text name (codes "bank") then bank
      else if is_text name (codes "report") then report
      else Err fault.NoQuestion

  words_alike : (name rest : List ℕ) → answer_about_for one text name rest ≡ answer_about_for other text name rest
  words_alike name rest =
      let transfer = about_alike (two_parts rest) (λ parts. transfer_answer_for text parts.0 parts.1 one) (λ parts. transfer_answer_for text parts.0 parts.1 other) (λ parts. transfer_alike parts.0 parts.1) in
      let messages = about_alike (two_parts rest) (λ parts. messages_answer_for text parts.0 parts.1 one) (λ parts. messages_answer_for text parts.0 parts.1 other) (λ parts. messages_alike parts.0 parts.1) in
      let bank = about_alike (one_word rest) (λ word. bank_answer_for text word one) (λ word. bank_answer_for text word other) bank_alike in
      λ i. named_by name (transfer i) (messages i) (bank i) (reports_alike (two_parts rest) i)

  questions_alike : (question : Option (List ℕ × List ℕ)) → answer_named_for one text question ≡ answer_named_for other text question
  questions_alike None = refl
  questions_alike (Some parts) = words_alike parts.0 parts.1

pub nothing_leaks_to_banks : NothingLeaksToBanks
nothing_leaks_to_banks text one other alike question = questions_alike text one other alike question
