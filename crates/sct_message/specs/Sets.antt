-- Sets of messages, for auditors: which of them contradict each other, and which are clean.
use Rattle.std.specs.FinSet as set
use Rattle.std.specs.Prelude.{◌≡◌, ◌≢◌, ◌&&◌, not, Bool, true, List, map, filter}
use Rattle.std.specs.List.{list_any}
use Rattle.std.specs.Global.{Global}
use Rattle.std.specs.Arc.{arc_value}
use Rattle.std.specs.declared.sync.Arc.{Arc}
use Rattle.sct_message.specs.Ascending.{ascending}
use Rattle.sct_message.specs.Keys.{identity_of}
use Rattle.sct_message.specs.Order.{message_order, same_identity, same_message}
use Rattle.sct_message.specs.declared.draft.Draft.{Draft}
use Rattle.sct_message.specs.declared.keys.Identity.{Identity}

-- a finite set of messages
abbrev pub MessageSet : Type 0
MessageSet = set.FinSet message_order

-- the messages of a list of shared messages
abbrev pub messages_in : List (Arc Draft Global) → List Draft
messages_in shared = map arc_value shared

-- the messages of the set, each once, in the order of messages
abbrev pub in_order : MessageSet → List Draft
in_order held = ascending message_order (set.items held)

-- Two different messages of the set have the identity.
pub record IsContradicted (held : MessageSet) (identity : Identity) : Type 0 where
  pub one : Draft
  pub other : Draft
  pub one_held : set.contains held one ≡ true
  pub other_held : set.contains held other ≡ true
  pub different : one ≢ other
  pub one_has_it : identity_of one ≡ identity
  pub other_has_it : identity_of other ≡ identity

-- another message of the set has the identity of this one
abbrev pub is_contradicted : MessageSet → Draft → Bool
is_contradicted held m =
    list_any (λ other. same_identity (identity_of other) (identity_of m) && not (same_message other m))
    (set.items held)

-- the clean messages of the set, whose identity is not contradicted, and then the contradicted ones
abbrev pub clean_messages : MessageSet → List Draft
clean_messages held = filter (λ m. not (is_contradicted held m)) (in_order held)

abbrev pub contradicted_messages : MessageSet → List Draft
contradicted_messages held = filter (λ m. is_contradicted held m) (in_order held)
