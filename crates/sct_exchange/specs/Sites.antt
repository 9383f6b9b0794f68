-- What a run of one site comes to, from the bytes of its journal and of its delta files. Read by an auditor. The commands
-- print these texts.
use Rattle.std.specs.Prelude.{ℕ, List}
use Rattle.sct_set.specs.Archive.{archive_text_of}
use Rattle.sct_delta.specs.DeltaText.{written_delta}
use Rattle.sct_delta.specs.Entries.{Placed, held_from, messages_of}
use Rattle.sct_delta.specs.VectorText.{vector_text}
use Rattle.sct_site.specs.Cores.{entries_above}
use Rattle.sct_exchange.specs.Journals.{core_of_journal}
use Rattle.sct_exchange.specs.Rounds.{Offers, exchanged, files_in, refused_by}
use Rattle.sct_exchange.specs.declared.refused.RefusedFile.{RefusedFile}

-- a site that took the messages of its journal, and then was offered texts in rounds
abbrev pub site_after : ℕ → ℕ → List ℕ → List (List ℕ) → Offers
site_after number group journal texts = exchanged (core_of_journal number group journal) (files_in texts)

-- the entries that it holds, in the order in which they came
abbrev pub arrivals_after : ℕ → ℕ → List ℕ → List (List ℕ) → List Placed
arrivals_after number group journal texts = (site_after number group journal texts).core.arrivals

-- the files that it refuses as it ends
abbrev pub refused_after : ℕ → ℕ → List ℕ → List (List ℕ) → List RefusedFile
refused_after number group journal texts =
    let after = site_after number group journal texts in refused_by after.core after.left

-- ---- the texts of the commands, by the entries that the site holds

-- `site`: the archive text of the messages
abbrev pub site_text : List Placed → List ℕ
site_text arrivals = archive_text_of (messages_of arrivals)

-- `vector`: the text of the version vector
abbrev pub held_text : List Placed → List ℕ
held_text arrivals = vector_text (λ origin. held_from origin arrivals)

-- `cut`: the delta text of the entries above a version vector
abbrev pub cut_text : (ℕ → ℕ) → List Placed → List ℕ
cut_text have arrivals = written_delta (entries_above have arrivals)
