-- The digests of an origin's entries, as a site holds them. Read by an auditor.
use Rattle.std.specs.Prelude.{ℕ, zero, suc, ◌++◌, List, [], ◌∷◌, decimal, fold, if◌then◌else◌, nat_lt, replicate, take}
use Rattle.hex.specs.Hex.{encode_lower}
use Rattle.sha2.specs.Sha256.{sha256}
use Rattle.sct_message.specs.declared.draft.Draft.{Draft}
use Rattle.sct_set.specs.Archive.{line_of}
use Rattle.sct_delta.specs.Entries.{Placed, held_from, log_of}
use Rattle.sct_delta.specs.Sites.{most_sites}

-- ---- the chain

-- the digest of no messages: 32 bytes of 0
abbrev pub no_digest : List ℕ
no_digest = replicate 32 0

-- the digest of messages and one more: SHA-256 of the digest before it and of its line in the archive text
abbrev pub next_digest : List ℕ → Draft → List ℕ
next_digest before message = sha256 (before ++ line_of message)

-- the digest of messages, from the digest before them
abbrev pub digest_after : List ℕ → List Draft → List ℕ
digest_after before messages = fold next_digest before messages

-- the digest of messages
abbrev pub digest_of : List Draft → List ℕ
digest_of messages = digest_after no_digest messages

-- the digest of the first entries of an origin
abbrev pub digest_at : ℕ → ℕ → List Placed → List ℕ
digest_at origin count arrivals = digest_of (take count (log_of origin arrivals))

-- ---- the texts

-- its 64 small hexadecimal digits
abbrev pub digest_text : ℕ → ℕ → List Placed → List ℕ
digest_text origin count arrivals = encode_lower (digest_at origin count arrivals)

-- the line of an origin: its number, how many entries it has, and the digest of all of them, with colons (58) between
abbrev pub digest_line : ℕ → List Placed → List ℕ
digest_line origin arrivals =
    let count = held_from origin arrivals in
    decimal origin ++ 58 ∷ (decimal count ++ 58 ∷ (digest_text origin count arrivals ++ 10 ∷ []))

-- the line of an origin, if there are entries of it
abbrev pub line_if_held : ℕ → List Placed → List ℕ
line_if_held origin arrivals = if nat_lt 0 (held_from origin arrivals) then digest_line origin arrivals else []

-- the lines of the origins from 1 to a last one
abbrev pub lines_to : ℕ → List Placed → List ℕ
lines_to zero arrivals = []
lines_to (suc before) arrivals = lines_to before arrivals ++ line_if_held (suc before) arrivals

-- the lines of all origins
unfoldable pub digests_text : List Placed → List ℕ
digests_text arrivals = lines_to most_sites arrivals
