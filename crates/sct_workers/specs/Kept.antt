-- What the receipts that a worker keeps say of the entries that came to its site. Read by
-- an auditor. Workers use these words.
use Rattle.std.specs.FinSet as set
use Rattle.std.specs.Prelude.{◌≡◌, ◌≢◌, ◌+◌, ◌≤◌, ℕ, Bool, true, List, Some, length}
use Rattle.std.specs.List.{All, list_any, slice_get}
use Rattle.logbook.specs.Pages.{Book}
use Rattle.sct_message.specs.Keys.{transfers_of}
use Rattle.sct_message.specs.declared.draft.Draft.{Draft}
use Rattle.sct_message.specs.declared.keys.TransferKey.{TransferKey}
use Rattle.sct_message.specs.Sets.{MessageSet}
use Rattle.sct_delta.specs.Entries.{Placed, messages_of}
use Rattle.sct_delta.specs.Refusals.{has_site}
use Rattle.sct_desk.specs.Passes.{IsOf, Told}

-- ---- the entries that may come to a site

-- an own entry has one of these messages
abbrev pub OwnOf : ℕ → MessageSet → Placed → Type 0
OwnOf own held entry = entry.origin ≡ own → set.contains held entry.message ≡ true

-- an entry of another origin has a site of the group as its origin
abbrev pub OtherOf : ℕ → ℕ → Placed → Type 0
OtherOf own size entry = entry.origin ≢ own → has_site size entry.origin ≡ true

-- An entry that may come to the site `own` of a group of this size, if the site takes these messages.
pub record MayCome (own size : ℕ) (held : MessageSet) (entry : Placed) : Type 0 where
  pub own_of : OwnOf own held entry
  pub other_of : OtherOf own size entry

-- the transfer is the first one of a message that the site takes
pub record IsFirstOfOne (held : MessageSet) (transfer : TransferKey) : Type 0 where
  pub message : Draft
  pub taken : set.contains held message ≡ true
  pub first : slice_get (transfers_of message) 0 ≡ Some transfer

-- ---- receipts

-- the property holds of each entry that the receipt's call published
abbrev pub Adds : (Placed → Type 0) → Told → Type 0
Adds P receipt =
    (at : ℕ) (entry : Placed) → receipt.from ≤ at + 1 → slice_get receipt.shown at ≡ Some entry → P entry

-- A receipt that may be kept: it is of this desk, and each entry that its call published may come to
-- the site if the site takes these messages.
pub record Keeps (book : Book) (own size : ℕ) (held : MessageSet) (receipt : Told) : Type 0 where
  pub of_desk : IsOf book own receipt
  pub first : 1 ≤ receipt.from
  pub last : receipt.from + receipt.count ≡ length receipt.shown + 1
  pub adds : Adds (MayCome own size held) receipt

-- all of the receipts may be kept
abbrev pub AllKeep : Book → ℕ → ℕ → MessageSet → List Told → Type 0
AllKeep book own size held receipts = All (Keeps book own size held) receipts

-- ---- the messages that receipts show

-- some entry that the receipt shows has the message
abbrev pub shows : Draft → Told → Bool
shows message receipt = set.contains (messages_of receipt.shown) message

-- one of the receipts shows the message
abbrev pub is_shown : List Told → Draft → Bool
is_shown receipts message = list_any (shows message) receipts

-- each of these messages is shown
abbrev pub AllShown : MessageSet → List Told → Type 0
AllShown held receipts = (message : Draft) → set.contains held message ≡ true → is_shown receipts message ≡ true
