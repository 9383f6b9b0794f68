-- An honest hub: runs of sites on several machines, which pass on entries of one another. Read by an auditor.
use Rattle.std.specs.Prelude.{◌≡◌, ℕ, true, List, [], ◌∷◌, nat_eq, Ok, if◌then◌else◌}
use Rattle.sct_lines.specs.LineLaws.{IsOfWholeLines}
use Rattle.sct_delta.specs.DeltaText.{delta_in}
use Rattle.sct_delta.specs.Entries.{Placed, holds}
use Rattle.sct_site.specs.Cores.{Core, entries_above, is_open}
use Rattle.sct_exchange.specs.Journals.{Begins}
use Rattle.sct_exchange.specs.Sites.{arrivals_after, cut_text, site_after}
use Rattle.sct_exchange.specs.Ways.{IsAmong}

-- A run: the number of a site, its journal, the texts that it is given, and the vector that it cuts above.
pub record Run : Type 0 where
  pub site : ℕ
  pub journal : List ℕ
  pub given : List (List ℕ)
  pub have : ℕ → ℕ

-- the site of a run as it ends
abbrev pub core_of : ℕ → Run → Core
core_of sites run = (site_after run.site sites run.journal run.given).core

-- the entries that it holds then
abbrev pub arrivals_of : ℕ → Run → List Placed
arrivals_of sites run = arrivals_after run.site sites run.journal run.given

-- the text that `cut` writes in the run
abbrev pub text_of : ℕ → Run → List ℕ
text_of sites run = cut_text run.have (arrivals_of sites run)

-- the journal of a site in its newest run; runs are listed from the newest to the oldest
abbrev pub journal_at : List Run → ℕ → List ℕ
journal_at [] site = []
journal_at (run ∷ runs) site = if nat_eq run.site site then run.journal else journal_at runs site

-- An entry that the site of one of some runs holds as the run ends.
pub record IsHeldByRuns (sites : ℕ) (runs : List Run) (entry : Placed) : Type 0 where
  pub run : Run
  pub among : IsAmong runs run
  pub held : holds (arrivals_of sites run) entry ≡ true

-- A text of some runs: it is a delta text, and the site of one of the runs holds each of its entries. So is each text that
-- `cut` wrote in a run, a piece of one, and a piece of a piece.
pub record IsTextOfRuns (sites : ℕ) (runs : List Run) (text : List ℕ) : Type 0 where
  pub delta : List Placed
  pub read : delta_in text ≡ Ok delta
  pub held : (entry : Placed) → holds delta entry ≡ true → IsHeldByRuns sites runs entry

-- One run after earlier ones, in a group of `sites` sites. Its journal is of whole lines, and begins with the journal
-- of its site's run before. Each text that it is given is one of the earlier runs. Its own text was written whole, so it is
-- read back.
pub record IsHonestRun (sites : ℕ) (earlier : List Run) (run : Run) : Type 0 where
  pub opened : is_open run.site sites ≡ true
  pub whole : IsOfWholeLines run.journal
  pub longer : Begins (journal_at earlier run.site) run.journal
  pub given : (text : List ℕ) → IsAmong run.given text → IsTextOfRuns sites earlier text
  pub written : delta_in (text_of sites run) ≡ Ok (entries_above run.have (arrivals_of sites run))

-- An honest hub: its runs, from the newest to the oldest.
abbrev pub IsHonest : ℕ → List Run → Type 0
IsHonest sites [] = Unit {0}
IsHonest sites (run ∷ runs) = IsHonestRun sites runs run × IsHonest sites runs
