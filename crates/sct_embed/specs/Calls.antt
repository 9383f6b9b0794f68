-- The effects of calls of an embedded site, and why they are refused. Read by an auditor.
use Rattle.std.specs.Prelude.{◌≡◌, ◌&&◌, ℕ, Bool, List, Option, Some, None, Result, Ok, Err, if◌then◌else◌, length, nat_le, nat_lt, ⊤}
use Rattle.sct_message.specs.declared.draft.Draft.{Draft}
use Rattle.sct_json.specs.Reading.{message_in}
use Rattle.sct_delta.specs.DeltaText.{delta_in}
use Rattle.sct_delta.specs.Entries.{Placed, held_from}
use Rattle.sct_delta.specs.Sites.{most_sites}
use Rattle.sct_delta.specs.declared.fault.DeltaFault.TheVariants as delta
use Rattle.sct_delta.specs.VectorText.{Pair, counts_of, origin_named, vector_in}
use Rattle.sct_site.specs.Cores.{Core, took_by, core_taken, core_joined, fresh_entries, refusal_by}
use Rattle.sct_site.specs.declared.answers.Took.{Took}
use Rattle.sct_site.specs.declared.answers.Accepted.{Accepted}
use Rattle.sct_digest.specs.Digests.{digest_text}
use Rattle.sct_exchange.specs.Entries.{entries_text}
use Rattle.sct_exchange.specs.Rounds.{refusal_of}
use Rattle.sct_exchange.specs.Sites.{cut_text}
use Rattle.sct_embed.specs.Counts.{count_of_origin}
use Rattle.sct_embed.specs.declared.faults.EmbedFault.{EmbedFault}
use Rattle.sct_embed.specs.declared.faults.EmbedFault.TheVariants as fault

-- ---- a message

-- the bytes are a form of a message, which the site took
pub record IsTaken (before : Core) (json : List ℕ) (took : Took) (after : Core) : Type 0 where
  pub message : Draft
  pub read : message_in json ≡ Ok message
  pub answer : took ≡ took_by before message
  pub left : after ≡ core_taken before message

-- The bytes are refused for their first fault. Or the call is out of memory.
abbrev pub RefusesMessage : List ℕ → EmbedFault → Type 0
RefusesMessage json (fault.Message reason) = message_in json ≡ Err reason
RefusesMessage json fault.Memory = ⊤
RefusesMessage json other = ⊥

-- ---- a delta

-- the text is a form of a delta, which the site accepted
pub record IsDeltaAccepted (before : Core) (text : List ℕ) (accepted : Accepted) (after : Core) : Type 0 where
  pub delta : List Placed
  pub read : delta_in text ≡ Ok delta
  pub fits : refusal_by before delta ≡ None
  pub fresh : accepted.fresh ≡ length (fresh_entries before.arrivals delta)
  pub left : after ≡ core_joined before delta

-- The text is refused for the first reason: 45 and its first wrong line, or why the site does not accept the delta. Or
-- the call is out of memory.
abbrev pub RefusesDelta : Core → List ℕ → EmbedFault → Type 0
RefusesDelta core text (fault.Delta reason) = refusal_of core (delta_in text) ≡ Some reason
RefusesDelta core text fault.Memory = ⊤
RefusesDelta core text other = ⊥

-- ---- a version vector

-- the text is a version vector, for which the site's entries are cut
pub record IsCutFor (core : Core) (vector : List ℕ) (answer : List ℕ) : Type 0 where
  pub pairs : List Pair
  pub read : vector_in vector ≡ Some pairs
  pub cut : answer ≡ cut_text (counts_of pairs) core.arrivals

-- The text is not a version vector. Or the call is out of memory.
abbrev pub RefusesVector : List ℕ → EmbedFault → Type 0
RefusesVector vector fault.BadVector = vector_in vector ≡ None
RefusesVector vector fault.Memory = ⊤
RefusesVector vector other = ⊥

-- the delta for a version vector, if it is one
abbrev pub cut_for : Option (List Pair) → List Placed → Result (List ℕ) EmbedFault
cut_for None arrivals = Err fault.BadVector
cut_for (Some pairs) arrivals = Ok (cut_text (counts_of pairs) arrivals)

abbrev pub cut_answer : List ℕ → List Placed → Result (List ℕ) EmbedFault
cut_answer vector arrivals = cut_for (vector_in vector) arrivals

-- the delta above counts, if there are at most as many as a group has sites
abbrev pub cut_above_answer : List ℕ → List Placed → Result (List ℕ) EmbedFault
cut_above_answer counts arrivals =
    if nat_lt most_sites (length counts) then Err (fault.Delta delta.BadSite) else Ok (cut_text (count_of_origin counts) arrivals)

-- ---- the entries of one origin

-- A question may give a text at least one byte, and at most so many that the text, with tabs in place of its line feeds, is a
-- request of `serve`.
abbrev pub is_text_size : ℕ → Bool
is_text_size most = nat_le 1 most && nat_le most 67108863

abbrev pub text_size_named : ℕ → Option ℕ
text_size_named most = if is_text_size most then Some most else None

-- the entries of an origin above a count, in a text of a size, if these are valid; if one is not, the first such argument, from 1
abbrev pub entries_by_arguments : Option ℕ → Option ℕ → Option ℕ → List Placed → Result (List ℕ) EmbedFault
entries_by_arguments None above most arrivals = Err (fault.BadArgument 1)
entries_by_arguments (Some origin) None most arrivals = Err (fault.BadArgument 2)
entries_by_arguments (Some origin) (Some above) None arrivals = Err (fault.BadArgument 3)
entries_by_arguments (Some origin) (Some above) (Some most) arrivals = Ok (entries_text origin above most arrivals)

abbrev pub entries_answer : ℕ → ℕ → ℕ → List Placed → Result (List ℕ) EmbedFault
entries_answer origin above most arrivals = entries_by_arguments (origin_named origin) (Some above) (text_size_named most) arrivals

-- ---- a digest

-- the digest of the first entries of an origin, if the site holds so many
abbrev pub digest_if_held : ℕ → ℕ → List Placed → Result (List ℕ) EmbedFault
digest_if_held origin count arrivals =
    if nat_le count (held_from origin arrivals) then Ok (digest_text origin count arrivals) else Err (fault.BadArgument 2)

-- and if these are an origin and a count; if one is not, the first such argument, from 1
abbrev pub digest_by_arguments : Option ℕ → Option ℕ → List Placed → Result (List ℕ) EmbedFault
digest_by_arguments None count arrivals = Err (fault.BadArgument 1)
digest_by_arguments (Some origin) None arrivals = Err (fault.BadArgument 2)
digest_by_arguments (Some origin) (Some count) arrivals = digest_if_held origin count arrivals

abbrev pub digest_answer : ℕ → ℕ → List Placed → Result (List ℕ) EmbedFault
digest_answer origin count arrivals = digest_by_arguments (origin_named origin) (Some count) arrivals
