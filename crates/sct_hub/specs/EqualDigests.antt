-- Sites with equal digests answer alike, whatever they were given, by whom and in which order. Read by an auditor. The law is the
-- contract of a function.
use Rattle.std.specs.Prelude.{◌≡◌, ◌++◌, ℕ, true, List}
use Rattle.sct_delta.specs.Entries.{Placed, log_of}
use Rattle.sct_site.specs.Cores.{is_open}
use Rattle.sct_digest.specs.Digests.{digests_text}
use Rattle.sct_digest.specs.Laws.{HaveOwnDigests, hashed_of}
use Rattle.sct_exchange.specs.Journals.{opened}
use Rattle.sct_journal.specs.Kept.{AreLines}
use Rattle.sct_requests.specs.Steps.{AreKept, core_kept}
use Rattle.sct_hub.specs.Hubs.{AreFew}
use Rattle.sct_hub.specs.Laws.{SitesAnswerAlike}

-- What SHA-256 is trusted for: of each origin, no two different texts that are hashed for these two sites have one digest.
abbrev pub HaveOwnDigestsAt : List Placed → List Placed → Type 0
HaveOwnDigestsAt mine theirs =
    (origin : ℕ) → HaveOwnDigests (hashed_of (log_of origin mine) ++ hashed_of (log_of origin theirs))

-- Two journals record lines, of which each brought its site something. Nothing is known of who wrote the lines: each may be a
-- message or a delta with any entries. If both sites answer `? digests` with the same bytes, they answer alike: they hold the
-- same messages under the same numbers.
abbrev pub EqualDigestsAnswerAlike : Type 0
EqualDigestsAnswerAlike =
    (one sites other others : ℕ) (lines more : List (List ℕ)) → is_open one sites ≡ true → is_open other others ≡ true
    → AreLines lines → AreLines more → AreKept (opened one sites) lines → AreKept (opened other others) more
    → let mine = core_kept one sites lines in let theirs = core_kept other others more in
    AreFew mine.arrivals → AreFew theirs.arrivals → HaveOwnDigestsAt mine.arrivals theirs.arrivals
    → digests_text mine.arrivals ≡ digests_text theirs.arrivals → SitesAnswerAlike mine theirs
