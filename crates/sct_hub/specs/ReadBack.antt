-- What a site writes is read back: each message that it holds was read from a line. Read by an auditor. Each law is the
-- contract of a function.
use Rattle.std.specs.Prelude.{◌≡◌, ℕ, true, List, Ok}
use Rattle.sct_message.specs.declared.draft.Draft.{Draft}
use Rattle.sct_json.specs.Reading.{message_in}
use Rattle.sct_delta.specs.Entries.{IsDelta, Placed, holds}
use Rattle.sct_site.specs.Cores.{is_open}
use Rattle.sct_exchange.specs.Journals.{opened}
use Rattle.sct_journal.specs.Kept.{AreLines}
use Rattle.sct_requests.specs.Steps.{AreKept, core_kept}
use Rattle.sct_exchange.specs.Entries.{entries_asked}
use Rattle.sct_hub.specs.Hubs.{AreFew, IsCutReadBack, DeltaIsReadBack}

-- some bytes are read as the message
abbrev pub WasRead : Draft → Type 0
WasRead message = (bytes : List ℕ) × (message_in bytes ≡ Ok message)

-- Each message that a site holds was read.
abbrev pub HeldMessagesWereRead : Type 0
HeldMessagesWereRead =
    (site sites : ℕ) (lines : List (List ℕ)) → AreKept (opened site sites) lines → (entry : Placed)
    → holds (core_kept site sites lines).arrivals entry ≡ true → WasRead entry.message

-- So each delta of fewer than 2^64 entries that a site holds is read back, if a site holds fewer than 2^64 entries.
abbrev pub HeldDeltasAreReadBack : Type 0
HeldDeltasAreReadBack =
    (site sites : ℕ) (lines : List (List ℕ)) → is_open site sites ≡ true
    → AreLines lines → AreKept (opened site sites) lines → AreFew (core_kept site sites lines).arrivals
    → (delta : List Placed) → IsDelta delta → AreFew delta
    → ((entry : Placed) → holds delta entry ≡ true → holds (core_kept site sites lines).arrivals entry ≡ true)
    → DeltaIsReadBack delta

-- A site writes what is read back: the cut above each vector, and entries of each origin in a text of each size.
pub record WritesReadBack (arrivals : List Placed) : Type 0 where
  pub cuts : (have : ℕ → ℕ) → IsCutReadBack have arrivals
  pub entries : (origin above most : ℕ) → DeltaIsReadBack (entries_asked origin above most arrivals)

-- So does each site that holds fewer than 2^64 entries.
abbrev pub TextsAreReadBack : Type 0
TextsAreReadBack =
    (site sites : ℕ) (lines : List (List ℕ)) → is_open site sites ≡ true
    → AreLines lines → AreKept (opened site sites) lines → AreFew (core_kept site sites lines).arrivals
    → WritesReadBack (core_kept site sites lines).arrivals
