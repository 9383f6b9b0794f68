-- What a site holds after messages were sent in the name of banks. Read by an auditor.
use Rattle.std.specs.FinSet as set
use Rattle.std.specs.Prelude.{ℕ, Bool, true, false, List, [], ◌∷◌, if◌then◌else◌}
use Rattle.sct_message.specs.Sets.{MessageSet}
use Rattle.sct_message.specs.declared.draft.Draft.{Draft}
use Rattle.sct_rights.specs.Rights.{verdict}
use Rattle.sct_rights.specs.declared.permission.Permission.{Permission}
use Rattle.sct_rights.specs.declared.permission.Permission.TheVariants as permission

-- a message that was sent in the name of banks
pub record Sending : Type 0 where
  pub banks : List (List ℕ)
  pub message : Draft

abbrev pub is_allowed : Permission → Bool
is_allowed permission.Allowed = true
is_allowed other = false

-- the message may be sent in the name of the banks, to a site that holds the set
abbrev pub is_granted : MessageSet → Sending → Bool
is_granted held sending = is_allowed (verdict sending.banks held sending.message)

-- what the site holds then: the message too, if it may be sent, and else what it held before
unfoldable pub held_after : MessageSet → Sending → MessageSet
held_after held sending = if is_granted held sending then set.insert held sending.message else held

-- what the site holds after several, each judged by what it holds then
abbrev pub held_after_all : MessageSet → List Sending → MessageSet
held_after_all held [] = held
held_after_all held (sending ∷ later) = held_after_all (held_after held sending) later
