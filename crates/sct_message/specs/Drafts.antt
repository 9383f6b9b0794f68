-- Read by an auditor: what the elements of a message say of it, whatever its kind.
use Rattle.std.specs.Prelude.{ℕ, List, [], ◌∷◌, map, Option, Some, None}
use Rattle.sct_message.specs.declared.kinds.Kind.{Kind}
use Rattle.sct_message.specs.declared.kinds.Kind.TheVariants.{Camt029, Camt056, Pacs002, Pacs004, Pacs008, Pacs028}
use Rattle.sct_message.specs.declared.draft.Head.{Head}
use Rattle.sct_message.specs.declared.draft.Original.{Original}
use Rattle.sct_message.specs.declared.draft.Draft.{Draft}
use Rattle.sct_message.specs.declared.draft.CreditTransfer.{CreditTransfer}
use Rattle.sct_message.specs.declared.draft.StatusReport.{StatusReport}
use Rattle.sct_message.specs.declared.draft.PaymentReturn.{PaymentReturn}
use Rattle.sct_message.specs.declared.draft.Resolution.{Resolution}
use Rattle.sct_message.specs.declared.draft.Draft.TheVariants as draft
use Rattle.sct_message.specs.Recalls.{Recalls}

-- the kind of a message
abbrev pub kind_of : Draft → Kind
kind_of (draft.CreditTransfer d) = Pacs008
kind_of (draft.StatusReport d) = Pacs002
kind_of (draft.StatusRequest d) = Pacs028
kind_of (draft.CancellationRequest d) = Camt056
kind_of (draft.PaymentReturn d) = Pacs004
kind_of (draft.Resolution d) = Camt029

-- the head, which every message begins with
abbrev pub head_of : Draft → Head
head_of (draft.CreditTransfer d) = d.head
head_of (draft.StatusReport d) = d.head
head_of (draft.StatusRequest d) = d.head
head_of (draft.CancellationRequest d) = d.head
head_of (draft.PaymentReturn d) = d.head
head_of (draft.Resolution d) = d.head

-- what a later message says of its original message, once for each transaction of a recall message
abbrev pub originals_of : Draft → List Original
originals_of (draft.CreditTransfer d) = []
originals_of (draft.StatusReport d) = d.original ∷ []
originals_of (draft.StatusRequest d) = d.original ∷ []
originals_of (draft.CancellationRequest d) = map (λ tx. tx.original) d.txs
originals_of (draft.PaymentReturn d) = d.original ∷ []
originals_of (draft.Resolution d) = d.original ∷ []

-- the currency of the amounts, once for each transaction of a recall message; empty for the kinds without an amount
abbrev pub currencies_of : Draft → List (List ℕ)
currencies_of (draft.CreditTransfer d) = d.currency ∷ []
currencies_of (draft.StatusReport d) = []
currencies_of (draft.StatusRequest d) = []
currencies_of (draft.CancellationRequest d) = map (λ tx. tx.currency) d.txs
currencies_of (draft.PaymentReturn d) = d.currency ∷ []
currencies_of (draft.Resolution d) = []

-- ---- the elements of one kind; none for a message of another kind

abbrev pub credit_transfer_of : Draft → Option CreditTransfer
credit_transfer_of (draft.CreditTransfer d) = Some d
credit_transfer_of other = None

abbrev pub status_report_of : Draft → Option StatusReport
status_report_of (draft.StatusReport d) = Some d
status_report_of other = None

abbrev pub recalls_in : Draft → Option Recalls
recalls_in (draft.CancellationRequest d) = Some d
recalls_in other = None

abbrev pub payment_return_of : Draft → Option PaymentReturn
payment_return_of (draft.PaymentReturn d) = Some d
payment_return_of other = None

abbrev pub resolution_of : Draft → Option Resolution
resolution_of (draft.Resolution d) = Some d
resolution_of other = None
