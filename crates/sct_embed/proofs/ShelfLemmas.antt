-- What is filed stays when entries come after it, and what is filed of all arrivals is filed of what the site holds.
use Rattle.std.proofs.Common.{◌≡◌, ◌∙◌, ap, sym, subst, ℕ, ◌≤◌, List, ◌++◌, length, map, arith}
use Rattle.std.specs.Prelude.{take, drop}
use Rattle.std.proofs.lemmas.List.{length-append, map-append, take-append-drop, take-append-le, take_all}
use Rattle.sct_message.specs.declared.draft.Draft.{Draft}
use Rattle.sct_message.specs.Sets.{MessageSet}
use Rattle.sct_set.specs.Contents.{contents_of}
use Rattle.sct_delta.specs.Entries.{Placed, messages_of}
use Rattle.sct_view.specs.Filed.{IsFiled, IsFiledBy}
use Rattle.sct_rights.specs.ByBanks.{IsFiledByBanks, IsFiledForBanks}
use Rattle.sct_embed.specs.Shelves.{IsShelf, first_messages}
use Rattle.sct_embed.specs.declared.shelf.Shelf.{Shelf}

first_alike : (k : ℕ) (es ds : List Placed) → k ≤ length es → first_messages k es ≡ first_messages k (es ++ ds)
first_alike k es ds within = ap (λ (l : List Placed). map (λ entry. entry.message) l) (sym (take-append-le k es ds within))

within_more : (k : ℕ) (es ds : List Placed) → k ≤ length es → k ≤ length (es ++ ds)
within_more k es ds within = subst (λ (n : ℕ). k ≤ n) (sym (length-append es ds)) (omega (arith, within))

pub shelf_before : (s : Shelf) (es ds : List Placed) → IsShelf s es → IsShelf s (es ++ ds)
shelf_before s es ds was = record {
  messages_within = within_more s.messages_filed es ds was.messages_within;
  messages = subst (λ (ms : List Draft). IsFiledBy s.by_transfer ms) (first_alike s.messages_filed es ds was.messages_within) was.messages;
  transfers_within = within_more s.transfers_filed es ds was.transfers_within;
  transfers = subst (λ (ms : List Draft). IsFiledByBanks s.by_bank ms) (first_alike s.transfers_filed es ds was.transfers_within) was.transfers;
}

-- the messages of all entries
pub all_messages : (es : List Placed) → first_messages (length es) es ≡ map (λ entry. entry.message) es
all_messages es = ap (λ (l : List Placed). map (λ entry. entry.message) l) (take_all (length es) es (omega (arith)))

pub messages_joined : (k : ℕ) (es : List Placed) (ms : List Draft) → ms ≡ map (λ entry. entry.message) (drop k es)
    → first_messages k es ++ ms ≡ first_messages (length es) es
messages_joined k es ms are =
    ap (λ (l : List Draft). first_messages k es ++ l) are
    ∙ sym (map-append (λ (entry : Placed). entry.message) (take k es) (drop k es))
    ∙ ap (λ (l : List Placed). map (λ entry. entry.message) l) (take-append-drop k es)
    ∙ sym (all_messages es)

-- ---- all arrivals are filed

held_by_all : (k : ℕ) (es : List Placed) (held : MessageSet) → k ≡ length es → held ≡ messages_of es → contents_of (first_messages k es) ≡ held
held_by_all k es held all holds =
    ap (λ (n : ℕ). messages_of (take n es)) all ∙ ap messages_of (take_all (length es) es (omega (arith))) ∙ sym holds

pub filed_by_transfer : (s : Shelf) (es : List Placed) (held : MessageSet) → IsShelf s es → s.messages_filed ≡ length es → held ≡ messages_of es
    → IsFiled held s.by_transfer
filed_by_transfer s es held is all holds = (first_messages s.messages_filed es, held_by_all s.messages_filed es held all holds, is.messages)

pub filed_by_bank : (s : Shelf) (es : List Placed) (held : MessageSet) → IsShelf s es → s.transfers_filed ≡ length es → held ≡ messages_of es
    → IsFiledForBanks held s.by_bank
filed_by_bank s es held is all holds = (first_messages s.transfers_filed es, held_by_all s.transfers_filed es held all holds, is.transfers)
