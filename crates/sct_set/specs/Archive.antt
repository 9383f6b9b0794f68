-- The answers of an archive, as functions of the set of its messages. Read by an auditor.
use Rattle.std.specs.FinSet as set
use Rattle.std.specs.Prelude.{◌≡◌, ℕ, Bool, true, List, [], ◌∷◌, ◌++◌, if◌then◌else◌, Ok}
use Rattle.std.specs.List.{list_any, flat_map}
use Rattle.std.specs.Ordering.{nat_cmp, ordering_then}
use Rattle.std.specs.Cmp.Lexicographic.{slice_cmp}
use Rattle.std.specs.declared.cmp.Ordering.{Ordering}
use Rattle.sct_message.specs.declared.draft.Draft.{Draft}
use Rattle.sct_message.specs.declared.keys.Identity.{Identity}
use Rattle.sct_message.specs.Keys.{identity_of}
use Rattle.sct_message.specs.Order.{identity_order, message_order, same_identity}
use Rattle.sct_message.specs.Ascending.{ascending}
use Rattle.sct_json.specs.Reading.{message_in}
use Rattle.sct_json.specs.Writing.{written_text}
use Rattle.sct_set.specs.declared.added.Added.{Added}
use Rattle.sct_set.specs.declared.added.Added.TheVariants as added
use Rattle.sct_set.specs.Contents.{Contents}
pub use Rattle.sct_set.specs.Contradictions.{IsContradicted, is_disputed, contradicted_identities}

-- ---- the answer to a message that is added

-- some message of the set has the identity
abbrev pub has_identity : Contents → Identity → Bool
has_identity contents identity =
    list_any (λ held. same_identity (identity_of held) identity) (set.items contents)

-- the answer to a message that the set does not hold, by whether another of its identity is held
abbrev pub added_where : Bool → Added
added_where has_another = if has_another then added.Against else added.Fresh

-- the answer to a message: a repeat if it is held; against if it is not held and another
-- message of its identity is; fresh otherwise
unfoldable pub added_of : Contents → Draft → Added
added_of contents draft =
    if set.contains contents draft then added.Repeat
    else added_where (has_identity contents (identity_of draft))

-- ---- the archive text

-- by written text, and then by elements, so that this is a total order whatever the written texts are. If no two
-- messages have one written text, the elements are never compared.
abbrev pub written_order : Draft → Draft → Ordering
written_order a b = ordering_then (slice_cmp nat_cmp (written_text a) (written_text b)) (message_order a b)

-- messages are ordered by identity and then by written text
unfoldable pub line_order : Draft → Draft → Ordering
line_order a b = ordering_then (identity_order (identity_of a) (identity_of b)) (written_order a b)

-- the messages of the set, each once, by identity and then by written text
unfoldable pub in_text_order : Contents → List Draft
in_text_order contents = ascending line_order (set.items contents)

-- a message's line: its written text and a line feed
abbrev pub line_of : Draft → List ℕ
line_of draft = written_text draft ++ 10 ∷ []

-- the archive text of the set: the line of each message, in that order
unfoldable pub archive_text_of : Contents → List ℕ
archive_text_of contents = flat_map line_of (in_text_order contents)

-- the written text of a message is read as that message
abbrev pub IsReadAgain : Draft → Type 0
IsReadAgain draft = message_in (written_text draft) ≡ Ok draft

-- the written text of each message of the set is read as that message
abbrev pub AreReadAgain : Contents → Type 0
AreReadAgain contents = (draft : Draft) → set.contains contents draft ≡ true → IsReadAgain draft
