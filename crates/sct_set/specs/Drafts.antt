-- Lists of shared messages, read as lists of messages, and the indexes of such lists. Read by an auditor.
use Rattle.std.specs.Prelude.{ℕ, nat_eq, Bool, ◌≡◌, ◌∷◌, ◌++◌, [], List, map, filter, if◌then◌else◌}
use Rattle.std.specs.Global.{Global}
use Rattle.std.specs.Arc.{arc_value}
use Rattle.std.specs.List.{list_any}
use Rattle.std.specs.declared.sync.Arc.{Arc}
use Rattle.indexmap.specs.IndexMap.{IndexMap}
use Rattle.sct_message.specs.declared.draft.Draft.{Draft}
use Rattle.sct_message.specs.declared.keys.Identity.{Identity}
use Rattle.sct_message.specs.Keys.{identity_of}
use Rattle.sct_message.specs.Order.{same_identity}
use Rattle.sct_set.specs.Buckets.{bucket, HasNoEmptyList}
use Rattle.sct_set.specs.Digest.{digest_of}

-- the messages of a list of shared messages
abbrev pub drafts_in : List (Arc Draft Global) → List Draft
drafts_in messages = map arc_value messages

-- the messages of an identity
abbrev pub drafts_of : Identity → List Draft → List Draft
drafts_of identity drafts = filter (λ draft. same_identity (identity_of draft) identity) drafts

-- the messages of a digest
abbrev pub drafts_alike : ℕ → List Draft → List Draft
drafts_alike digest drafts = filter (λ draft. nat_eq (digest_of draft) digest) drafts

-- whether one of the messages has the identity
abbrev pub finds : Identity → List Draft → Bool
finds identity drafts = list_any (λ draft. same_identity (identity_of draft) identity) drafts

-- the messages of a list that have another of their identity before them, in the list or in `before`
abbrev pub against_after : List Draft → List Draft → List Draft
against_after before [] = []
against_after before (draft ∷ drafts) =
    if finds (identity_of draft) before
    then draft ∷ against_after (before ++ draft ∷ []) drafts
    else against_after (before ++ draft ∷ []) drafts

-- the messages of a list that are not the first of their identity
abbrev pub against_in : List Draft → List Draft
against_in drafts = against_after [] drafts

-- an index of messages: the map has each key of a message, with the messages of that key
-- in their order, and no other key
pub record IsIndexBy {K S : Type 0} (key_of : Draft → K) (same : K → K → Bool)
    (index : IndexMap K (List (Arc Draft Global)) S) (drafts : List Draft) : Type 0 where
  pub messages : (key : K)
      → drafts_in (bucket same index key) ≡ filter (λ draft. same (key_of draft) key) drafts
  pub no_empty : HasNoEmptyList same index

-- the index of identities, and the index of the digests of the messages that are not the first of their identity
pub record AreIndexes {S Z : Type 0} (by_identity : IndexMap Identity (List (Arc Draft Global)) S)
    (by_digest : IndexMap ℕ (List (Arc Draft Global)) Z) (drafts : List Draft) : Type 0 where
  pub identities : IsIndexBy identity_of same_identity by_identity drafts
  pub digests : IsIndexBy digest_of nat_eq by_digest (against_in drafts)
