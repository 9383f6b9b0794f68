-- The arrivals of a site that are filed by transfer, and by bank. Serves proofs.
use Rattle.std.specs.Prelude.{◌≤◌, ℕ, List, length, map, take}
use Rattle.sct_message.specs.declared.draft.Draft.{Draft}
use Rattle.sct_view.specs.Filed.{IsFiledBy}
use Rattle.sct_delta.specs.Entries.{Placed}
use Rattle.sct_rights.specs.ByBanks.{IsFiledByBanks}
use Rattle.sct_embed.specs.declared.shelf.Shelf.{Shelf}

-- the messages of the first entries, in their order
abbrev pub first_messages : ℕ → List Placed → List Draft
first_messages count arrivals = map (λ entry. entry.message) (take count arrivals)

-- first arrivals are filed by transfer, and first arrivals are filed by bank
pub record IsShelf (shelf : Shelf) (arrivals : List Placed) : Type 0 where
  pub messages_within : shelf.messages_filed ≤ length arrivals
  pub messages : IsFiledBy shelf.by_transfer (first_messages shelf.messages_filed arrivals)
  pub transfers_within : shelf.transfers_filed ≤ length arrivals
  pub transfers : IsFiledByBanks shelf.by_bank (first_messages shelf.transfers_filed arrivals)
