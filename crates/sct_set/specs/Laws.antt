-- Laws of archives, whatever messages they hold. Read by an auditor.
use Rattle.std.specs.FinSet as set
use Rattle.std.specs.Prelude.{◌≡◌, ◌↔◌, true, false, ◌||◌, List, Contains}
use Rattle.std.specs.List.{flat_map}
use Rattle.std.specs.List.Sorted.{IsStrictlySortedBy}
use Rattle.sct_message.specs.declared.draft.Draft.{Draft}
use Rattle.sct_message.specs.declared.keys.Identity.{Identity}
use Rattle.sct_message.specs.Keys.{identity_of}
use Rattle.sct_message.specs.Order.{identity_order}
use Rattle.sct_set.specs.declared.added.Added.TheVariants as added
use Rattle.sct_set.specs.Archive.{added_of, archive_text_of, in_text_order, line_of, line_order}
use Rattle.sct_set.specs.Contents.{Contents, contents_of, HaveSameMessages}
use Rattle.sct_set.specs.Contradictions.{IsContradicted, contradicted_identities}

-- ---- a merge is the union of the contents

-- The first three laws are facts of finite sets, which hold whatever the code does. They say something of archives only
-- beside the clause of `Archive::merge`, that the contents after it are the union of the contents of both sides.

abbrev pub IsAssociative : Type 0
IsAssociative = (a b c : Contents) → set.union (set.union a b) c ≡ set.union a (set.union b c)

abbrev pub IsCommutative : Type 0
IsCommutative = (a b : Contents) → set.union a b ≡ set.union b a

abbrev pub IsIdempotent : Type 0
IsIdempotent = (a : Contents) → set.union a a ≡ a

-- a message is held after a merge exactly if one side held it
abbrev pub HoldsBothSides : Type 0
HoldsBothSides = (a b : Contents) (draft : Draft)
    → set.contains (set.union a b) draft ≡ (set.contains a draft || set.contains b draft)

-- ---- equal sets

-- the archive texts are the same bytes, and the contradictions are equal
pub record AnswerAlike (a b : Contents) : Type 0 where
  pub texts : archive_text_of a ≡ archive_text_of b
  pub contradictions : contradicted_identities a ≡ contradicted_identities b

-- archives that hold the same messages answer alike
abbrev pub EqualSetsAnswerAlike : Type 0
EqualSetsAnswerAlike = (a b : Contents) → HaveSameMessages a b → AnswerAlike a b

-- ---- contradictions

-- an identity is reported as contradicted exactly if two different messages have it
abbrev pub TellsContradictions : Type 0
TellsContradictions = (contents : Contents) (identity : Identity)
    → Contains (contradicted_identities contents) identity ↔ IsContradicted contents identity

-- contradicted identities are reported in ascending order, each once
abbrev pub TellsInOrder : Type 0
TellsInOrder = (contents : Contents) → IsStrictlySortedBy identity_order (contradicted_identities contents)

-- a message that is not held is answered with Against exactly if its identity is contradicted after it is added
abbrev pub AnswersAgainst : Type 0
AnswersAgainst = (contents : Contents) (draft : Draft) → set.contains contents draft ≡ false
    → (added_of contents draft ≡ added.Against)
    ↔ IsContradicted (set.insert contents draft) (identity_of draft)

-- ---- the archive text

-- the list has the messages of the set, each once, sorted by identity and then by written text
pub record IsLineOrderOf (contents : Contents) (drafts : List Draft) : Type 0 where
  pub members : (draft : Draft) → Contains drafts draft ↔ (set.contains contents draft ≡ true)
  pub rises : IsStrictlySortedBy line_order drafts
  pub contents_again : contents_of drafts ≡ contents

-- the archive text is a line for each message of the set, in that order
pub record HasLinesOf (contents : Contents) (drafts : List Draft) : Type 0 where
  pub order : IsLineOrderOf contents drafts
  pub lines : archive_text_of contents ≡ flat_map line_of drafts

abbrev pub WritesEachOnce : Type 0
WritesEachOnce = (contents : Contents) → HasLinesOf contents (in_text_order contents)
