-- A message among those that have arrived, and the identities in an index. Proof plumbing: no public clause uses it.
use Rattle.std.specs.FinSet as set
use Rattle.std.specs.Prelude.{ℕ, Bool, List, [], ◌∷◌, ◌++◌, map, take, if◌then◌else◌}
use Rattle.std.specs.Global.{Global}
use Rattle.std.specs.List.{flat_map, list_any}
use Rattle.std.specs.declared.sync.Arc.{Arc}
use Rattle.sct_message.specs.declared.draft.Draft.{Draft}
use Rattle.sct_message.specs.declared.keys.Identity.{Identity}
use Rattle.sct_message.specs.Keys.{identity_of}
use Rattle.sct_message.specs.Order.{same_message}
use Rattle.sct_set.specs.Contents.{contents_of}
use Rattle.sct_set.specs.Drafts.{drafts_in}

-- the message is the first of the list
abbrev pub is_first_in : Draft → List Draft → Bool
is_first_in draft drafts = list_any (λ held. same_message held draft) (take 1 drafts)

-- the list with the message after the others, unless it has the message
abbrev pub with_new : List Draft → Draft → List Draft
with_new drafts draft = if set.contains (contents_of drafts) draft then drafts else drafts ++ draft ∷ []

-- the identity of each message in the lists of an index, in its order
abbrev pub identities_filed : List (ℕ × List (Arc Draft Global)) → List Identity
identities_filed entries = flat_map (λ e. map identity_of (drafts_in e.1)) entries
