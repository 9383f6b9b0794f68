-- Laws of what is done in the name of banks. Each law is the contract of a function. Read by an auditor.
use Rattle.std.specs.FinSet as set
use Rattle.std.specs.Prelude.{◌≡◌, ◌↔◌, ◌++◌, ◌∷◌, ℕ, List, map, true, false, None, Contains}
use Rattle.sct_message.specs.Keys.{transfer_key, transfers_of}
use Rattle.sct_message.specs.Rules.{first_broken_rule}
use Rattle.sct_message.specs.Sets.{MessageSet}
use Rattle.sct_message.specs.Transfers.{is_on, messages_on}
use Rattle.sct_message.specs.declared.draft.Draft.{Draft}
use Rattle.sct_message.specs.declared.draft.Draft.TheVariants as draft
use Rattle.sct_message.specs.declared.keys.TransferKey.{TransferKey}
use Rattle.sct_case.specs.declared.words.StatusWord.TheVariants as word
use Rattle.sct_view.specs.Kept.{contradicted_on}
use Rattle.sct_view.specs.StatusText.{lines_on}
use Rattle.sct_view.specs.Totals.{totals_of}
use Rattle.sct_view.specs.Touched.{IsToldAlike}
use Rattle.sct_reconcile.specs.Reports.{keys_reported, listed_on, row_from, row_on}
use Rattle.sct_reconcile.specs.declared.rows.ListedRow.{ListedRow}
use Rattle.sct_rights.specs.Reported.{report_for, row_for}
use Rattle.sct_rights.specs.Rights.{is_credit_to, is_one_of, is_theirs, sender_of, verdict}
use Rattle.sct_rights.specs.Sent.{Sending, held_after_all, is_granted}
use Rattle.sct_rights.specs.Shown.{bank_line_for, lines_for, messages_for, shown_to, visible}
use Rattle.sct_rights.specs.declared.permission.Permission.TheVariants as permission

-- ---- in their own name

-- one of the banks is the originator bank of each transfer of the message
abbrev pub IsOfOriginators : List (List ℕ) → Draft → Type 0
IsOfOriginators banks m = (transfer : TransferKey) → Contains (transfers_of m) transfer → is_one_of banks transfer.debtor_agent ≡ true

-- the set has an instruction on the transfer to one of the banks
pub record IsOfBeneficiary (banks : List (List ℕ)) (held : MessageSet) (transfer : TransferKey) : Type 0 where
  pub instruction : Draft
  pub there : set.contains held instruction ≡ true
  pub on : is_on transfer instruction ≡ true
  pub to_them : is_credit_to banks instruction ≡ true

-- the message is of their role, by its kind
abbrev pub IsOfTheirRole : List (List ℕ) → MessageSet → Draft → Type 0
IsOfTheirRole banks held (draft.CreditTransfer d) = IsOfOriginators banks (draft.CreditTransfer d)
IsOfTheirRole banks held (draft.CancellationRequest d) = IsOfOriginators banks (draft.CancellationRequest d)
IsOfTheirRole banks held (draft.StatusRequest d) = IsOfOriginators banks (draft.StatusRequest d)
IsOfTheirRole banks held (draft.StatusReport d) = IsOfBeneficiary banks held (transfer_key d.debtor_agent d.original.transaction_id)
IsOfTheirRole banks held (draft.PaymentReturn d) = IsOfBeneficiary banks held (transfer_key d.debtor_agent d.original.transaction_id)
IsOfTheirRole banks held (draft.Resolution d) = IsOfBeneficiary banks held (transfer_key d.debtor_agent d.original.transaction_id)

-- one of the banks sent the message, and it is of their role
pub record IsInTheirName (banks : List (List ℕ)) (held : MessageSet) (m : Draft) : Type 0 where
  pub sent : is_one_of banks (sender_of m) ≡ true
  pub role : IsOfTheirRole banks held m

-- the message is that of one of the sendings, which was allowed by what the site held then
pub record WasAllowed (held : MessageSet) (sendings : List Sending) (m : Draft) : Type 0 where
  pub before : List Sending
  pub sending : Sending
  pub later : List Sending
  pub all : sendings ≡ before ++ sending ∷ later
  pub brought : sending.message ≡ m
  pub allowed : verdict sending.banks (held_after_all held before) sending.message ≡ permission.Allowed

-- In their own name: what is allowed is in their name, and nothing else is. Each message that sendings bring was allowed.
pub record BanksSendInTheirName : Type 0 where
  pub exact : (banks : List (List ℕ)) (held : MessageSet) (m : Draft) → (verdict banks held m ≡ permission.Allowed) ↔ IsInTheirName banks held m
  pub each : (held : MessageSet) (sendings : List Sending) (m : Draft) → set.contains held m ≡ false
      → set.contains (held_after_all held sendings) m ≡ true → WasAllowed held sendings m

-- Nothing else happens: without a sending that is not allowed the site holds the same, then and after all that follows. So all its
-- answers are the same too: they are functions of what it holds.
abbrev pub NothingElseHappens : Type 0
NothingElseHappens = (held : MessageSet) (before : List Sending) (sending : Sending) (later : List Sending)
    → is_granted (held_after_all held before) sending ≡ false
    → held_after_all held (before ++ sending ∷ later) ≡ held_after_all held (before ++ later)

-- ---- the truth is told

-- The truth is told: a transfer that is theirs has the answers and the lines that it has for the hub itself. So has a bank of
-- theirs in the totals.
pub record TheTruthIsTold : Type 0 where
  pub theirs : (banks : List (List ℕ)) (held : MessageSet) (transfer : TransferKey) → is_theirs banks held transfer ≡ true
      → IsToldAlike held (visible banks held) transfer
  pub lines : (banks : List (List ℕ)) (held : MessageSet) (transfer : TransferKey) → is_theirs banks held transfer ≡ true
      → lines_for banks held transfer ≡ lines_on held transfer
  pub totals : (banks : List (List ℕ)) (held : MessageSet) (bank : List ℕ) → is_one_of banks bank ≡ true
      → totals_of (visible banks held) bank ≡ totals_of held bank

-- The report for banks has the transfers of the hub's own report of a bank of theirs. The row of a transfer that is theirs is
-- the hub's own row, and every other row is what a row on no message is.
pub record ReportsTellTheTruth : Type 0 where
  pub transfers : (banks : List (List ℕ)) (held : MessageSet) (bank day : List ℕ) (list : List ListedRow) → is_one_of banks bank ≡ true
      → keys_reported (visible banks held) bank day list ≡ keys_reported held bank day list
  pub theirs : (banks : List (List ℕ)) (held : MessageSet) (list : List ListedRow) (key : TransferKey) → is_theirs banks held key ≡ true
      → row_for banks held list key ≡ row_on held list key
  pub others : (banks : List (List ℕ)) (held : MessageSet) (list : List ListedRow) (key : TransferKey) → is_theirs banks held key ≡ false
      → row_for banks held list key ≡ row_from key (listed_on list key) word.Unknown None

-- A message on a transfer that is theirs follows the rules of its kind as it is shown, too.
abbrev pub ShownMessagesFollowTheRules : Type 0
ShownMessagesFollowTheRules = (banks : List (List ℕ)) (held : MessageSet) (transfer : TransferKey) (m : Draft)
    → is_theirs banks held transfer ≡ true → is_on transfer m ≡ true → first_broken_rule m ≡ None
    → first_broken_rule (shown_to banks held m) ≡ None

-- ---- nothing leaks

-- Two sets are alike for banks: the same transfers are theirs, and the messages on each of these are shown alike, the clean ones
-- and the contradicted ones. What else the sets hold may differ.
pub record AreAlikeFor (banks : List (List ℕ)) (a b : MessageSet) : Type 0 where
  pub theirs : (transfer : TransferKey) → is_theirs banks a transfer ≡ is_theirs banks b transfer
  pub clean : (transfer : TransferKey) → is_theirs banks a transfer ≡ true
      → map (shown_to banks a) (messages_on a transfer) ≡ map (shown_to banks b) (messages_on b transfer)
  pub contradicted : (transfer : TransferKey) → is_theirs banks a transfer ≡ true
      → map (shown_to banks a) (contradicted_on a transfer) ≡ map (shown_to banks b) (contradicted_on b transfer)

-- Nothing leaks: banks are told the same of sets that are alike for them.
pub record NothingLeaks : Type 0 where
  pub lines : (banks : List (List ℕ)) (a b : MessageSet) → AreAlikeFor banks a b → (transfer : TransferKey)
      → lines_for banks a transfer ≡ lines_for banks b transfer
  pub messages : (banks : List (List ℕ)) (a b : MessageSet) → AreAlikeFor banks a b → (transfer : TransferKey)
      → messages_for banks a transfer ≡ messages_for banks b transfer
  pub bank : (banks : List (List ℕ)) (a b : MessageSet) → AreAlikeFor banks a b → (bank : List ℕ) → is_one_of banks bank ≡ true
      → bank_line_for banks a bank ≡ bank_line_for banks b bank
  pub report : (banks : List (List ℕ)) (a b : MessageSet) → AreAlikeFor banks a b → (bank day : List ℕ) (list : List ListedRow)
      → is_one_of banks bank ≡ true → report_for banks a bank day list ≡ report_for banks b bank day list
