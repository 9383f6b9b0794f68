-- The messages of a list, grouped by identity. Proof plumbing.
use Rattle.std.specs.Prelude.{ℕ, ◌≡◌, All, List}
use Rattle.std.specs.List.{flat_map}
use Rattle.sct_message.specs.declared.draft.Draft.{Draft}
use Rattle.sct_message.specs.declared.keys.Identity.{Identity}
use Rattle.sct_message.specs.Ascending.{ascending}
use Rattle.sct_set.specs.Archive.{line_of, line_order, IsReadAgain}
use Rattle.sct_set.specs.Drafts.{drafts_of}

-- the messages of an identity, among those of a list, in the order of the archive text
abbrev pub group_of : List Draft → Identity → List Draft
group_of drafts identity = ascending line_order (drafts_of identity drafts)

-- the messages of these identities, in the order of the identities
abbrev pub groups_of : List Draft → List Identity → List Draft
groups_of drafts identities = flat_map (group_of drafts) identities

-- the text is the lines of these messages, and the written text of each is read as the message
pub record AreWritten (drafts : List Draft) (identities : List Identity) (written : List ℕ) : Type 0 where
  pub text : written ≡ flat_map line_of (groups_of drafts identities)
  pub again : All IsReadAgain (groups_of drafts identities)
