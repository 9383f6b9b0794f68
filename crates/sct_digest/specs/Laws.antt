-- What equal and different digests say of messages. Read by an auditor. Each law is the contract of a function.
use Rattle.std.specs.Prelude.{◌≡◌, ◌<◌, ◌≤◌, ◌^◌, ◌++◌, true, ℕ, List, [], ◌∷◌, Contains, length, map, take}
use Rattle.sha2.specs.Sha256.{sha256}
use Rattle.sct_message.specs.declared.draft.Draft.{Draft}
use Rattle.sct_json.specs.Writing.{written_text}
use Rattle.sct_set.specs.Archive.{line_of}
use Rattle.sct_delta.specs.Entries.{Placed, held_from, log_of}
use Rattle.sct_delta.specs.Sites.{is_site}
use Rattle.sct_digest.specs.Digests.{digest_of, digests_text, next_digest, no_digest}

-- ---- the one premise about SHA-256

-- the texts that are hashed for the digest of messages, from the digest before them
abbrev pub hashed_after : List ℕ → List Draft → List (List ℕ)
hashed_after before [] = []
hashed_after before (message ∷ rest) = (before ++ line_of message) ∷ hashed_after (next_digest before message) rest

abbrev pub hashed_of : List Draft → List (List ℕ)
hashed_of messages = hashed_after no_digest messages

-- What SHA-256 is trusted for: no two different texts among these have one digest.
abbrev pub HaveOwnDigests : List (List ℕ) → Type 0
HaveOwnDigests texts =
    (some other : List ℕ) → Contains texts some → Contains texts other → sha256 some ≡ sha256 other → some ≡ other

-- ---- the laws

-- each message as it is written
abbrev pub entry_texts : List Draft → List (List ℕ)
entry_texts messages = map written_text messages

-- Messages that are written alike have one digest. So digests that differ mean messages that differ.
abbrev pub DigestsAreOfTexts : Type 0
DigestsAreOfTexts = (some other : List Draft) → entry_texts some ≡ entry_texts other → digest_of some ≡ digest_of other

-- As many messages with one digest are written alike.
abbrev pub EqualDigestsAreOfEqualTexts : Type 0
EqualDigestsAreOfEqualTexts =
    (some other : List Draft) → length some ≡ length other → HaveOwnDigests (hashed_of some ++ hashed_of other)
    → digest_of some ≡ digest_of other → entry_texts some ≡ entry_texts other

-- If the messages up to a place are not written alike, the digests of each count from that place on differ. So the first place
-- that differs is found by halving.
abbrev pub DigestsDifferFromThereOn : Type 0
DigestsDifferFromThereOn =
    (some other : List Draft) (place count : ℕ) → place ≤ count → count ≤ length some → count ≤ length other
    → HaveOwnDigests (hashed_of some ++ hashed_of other) → (entry_texts (take place some) ≡ entry_texts (take place other) → ⊥)
    → digest_of (take count some) ≡ digest_of (take count other) → ⊥

-- two sites have as many entries of an origin, with one digest
pub record HasEqualDigest (origin : ℕ) (some other : List Placed) : Type 0 where
  pub count : held_from origin some ≡ held_from origin other
  pub digest : digest_of (log_of origin some) ≡ digest_of (log_of origin other)

-- If the lines of all digests are equal bytes, each origin has an equal digest. A site has fewer than 2^64 entries.
abbrev pub EqualTextsAreOfEqualDigests : Type 0
EqualTextsAreOfEqualDigests =
    (some other : List Placed) → length some < 2 ^ 64 → length other < 2 ^ 64 → digests_text some ≡ digests_text other
    → (origin : ℕ) → is_site origin ≡ true → HasEqualDigest origin some other
