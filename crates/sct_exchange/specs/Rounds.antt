-- Files that are offered to a site in rounds. Read by an auditor. The laws of `Ways` say what the rounds come to.
use Rattle.std.specs.Prelude.{ℕ, zero, suc, Bool, List, [], ◌∷◌, length, map, Option, Some, option_map, Result, Ok, Err, if◌then◌else◌}
use Rattle.std.specs.List.{enumerate_from, filter_map, list_any}
use Rattle.std.specs.Option.{is_none}
use Rattle.sct_delta.specs.DeltaText.{delta_in}
use Rattle.sct_delta.specs.Entries.{Placed}
use Rattle.sct_delta.specs.declared.fault.DeltaFault.{DeltaFault}
use Rattle.sct_delta.specs.declared.fault.DeltaFault.TheVariants as fault
use Rattle.sct_site.specs.Cores.{Core, core_joined, refusal_by}
use Rattle.sct_exchange.specs.declared.refused.RefusedFile.{RefusedFile}

-- ---- files

-- what a file is read as: a delta, or its first wrong line
abbrev pub File : Type 0
File = Result (List Placed) ℕ

-- what texts are read as
abbrev pub files_in : List (List ℕ) → List File
files_in texts = map delta_in texts

-- a file and its number on the command line
abbrev pub Numbered : Type 0
Numbered = ℕ × File

-- The files with their numbers. The journal is file 1.
abbrev pub numbered_files : List File → List Numbered
numbered_files files = enumerate_from 2 files

-- why a site refuses a file: 45 and the first wrong line, or the first reason why it does not accept the delta
abbrev pub refusal_of : Core → File → Option DeltaFault
refusal_of core (Ok delta) = refusal_by core delta
refusal_of core (Err line) = Some (fault.BadDelta line)

-- the site does not refuse the file
abbrev pub is_accepted : Core → File → Bool
is_accepted core file = is_none (refusal_of core file)

-- a site after it accepted a file
abbrev pub core_with : Core → File → Core
core_with core (Ok delta) = core_joined core delta
core_with core (Err line) = core

-- the files that a site refuses, each with the reason
abbrev pub refused_by : Core → List Numbered → List RefusedFile
refused_by core files =
    filter_map (λ file. option_map (λ reason. record { number = file.0; fault = reason }) (refusal_of core file.1)) files

-- ---- rounds

-- a site, and the files that it has not accepted
pub record Offers : Type 0 where
  pub core : Core
  pub left : List Numbered

-- a file that was not accepted is left, before the others that are
abbrev pub leaving : Numbered → Offers → Offers
leaving file others = record { core = others.core; left = file ∷ others.left }

-- One round: each file is offered in its turn to the site as it is then.
abbrev pub round : Core → List Numbered → Offers
round core [] = record { core = core; left = [] }
round core (file ∷ files) =
    if is_accepted core file.1 then round (core_with core file.1) files else leaving file (round core files)

-- the site accepts one of the files that are left
abbrev pub accepts_some : Offers → Bool
accepts_some offers = list_any (λ file. is_accepted offers.core file.1) offers.left

-- Rounds over what is left, until one accepts none, but at most so many.
abbrev pub rounds : ℕ → Offers → Offers
rounds zero offers = offers
rounds (suc more) offers = if accepts_some offers then rounds more (round offers.core offers.left) else offers

-- The files are offered in rounds. Each round but the last accepts a file, so there are no more rounds than files.
unfoldable pub exchanged : Core → List File → Offers
exchanged core files = rounds (length files) (record { core = core; left = numbered_files files })
