-- The commands on one site: the site is made of the files that are named, and what is wanted of it is written. Read by an auditor.
use Rattle.std.specs.Prelude.{ℕ, ◌≡◌, ◌≤◌, ◌+◌, ◌++◌, ◌∷◌, List, [], codes, length, map, Bool, Option}
use Rattle.sct_delta.specs.DeltaText.{delta_in}
use Rattle.sct_delta.specs.Entries.{Placed}
use Rattle.sct_digest.specs.Digests.{digests_text}
use Rattle.sct_exchange.specs.RefusedFiles.{refused_text}
use Rattle.sct_exchange.specs.Journals.{core_taking, opened}
use Rattle.sct_exchange.specs.Rounds.{exchanged, files_in, refused_by, File, Offers}
use Rattle.sct_exchange.specs.Sites.{cut_text, held_text, site_after, site_text}
use Rattle.sct_exchange.specs.declared.refused.RefusedFile.{RefusedFile}
use Rattle.sct_lines.specs.Lines.{refusals_told, told_after}
use Rattle.sct_message.specs.Sets.{messages_in}
use Rattle.sct_site.specs.Cores.{is_open}
use Rattle.sct_streams.specs.Files.{AreGiven, IsGiven}
use Rattle.sct_commands.specs.Stream.{AreWithin}
use Rattle.sct_commands.specs.Places.{delta, digests, messages, vector, wanted_of, Wanted}
use Rattle.sct_commands.specs.declared.exchanging.Gathered.{Gathered}
use Rattle.sct_commands.specs.declared.fault.ProgramFault.{ProgramFault}
use Rattle.sct_commands.specs.declared.fault.ProgramFault.TheVariants as fault
use Rattle.sct_commands.specs.declared.places.SiteCommand.{SiteCommand}

-- ---- the texts, by the entries that the site holds

-- the text of the version vector and a line feed
abbrev pub vector_line : List Placed → List ℕ
vector_line arrivals = held_text arrivals ++ 10 ∷ []

-- what is wanted: the archive text of the messages, the version vector on a line, the line of each origin with its digest, or the
-- delta text above a vector
abbrev pub wanted_text : Wanted → List Placed → List ℕ
wanted_text messages arrivals = site_text arrivals
wanted_text vector arrivals = vector_line arrivals
wanted_text digests arrivals = digests_text arrivals
wanted_text (delta have) arrivals = cut_text have arrivals

-- ---- a site that is gathered

-- the site after its journal and deltas, with the files that are left
abbrev pub exchanged_by : Gathered → Offers
exchanged_by gathered =
    exchanged (core_taking (opened gathered.site gathered.sites) (messages_in gathered.messages.items)) gathered.deltas.items

-- the files that it refuses
abbrev pub refused_by_exchange : Gathered → List RefusedFile
refused_by_exchange gathered = let after = exchanged_by gathered in refused_by after.core after.left

-- the text on standard error: the refused lines of the journal, and then the refused files
abbrev pub told_by_exchange : Gathered → List ℕ
told_by_exchange gathered = gathered.refusals.text ++ refused_text (refused_by_exchange gathered)

-- the text on standard output
abbrev pub text_by_exchange : Gathered → List ℕ
text_by_exchange gathered = wanted_text (wanted_of gathered.wanting) (exchanged_by gathered).core.arrivals

-- how many lines and files are refused
abbrev pub count_by_exchange : Gathered → ℕ
count_by_exchange gathered = gathered.refusals.count + length (refused_by_exchange gathered)

-- the group can have this number of sites, and the site is one of them
abbrev pub is_possible : Gathered → Bool
is_possible gathered = is_open gathered.site gathered.sites

-- ---- the files

-- The file is what a text is read as. The text is that of the path, if that is known, and has at most 1,073,741,824 bytes.
pub record IsReadAs (gives : List ℕ → Option (List ℕ)) (path : List ℕ) (file : File) : Type 0 where
  pub text : List ℕ
  pub given : IsGiven gives path text
  pub within : length text ≤ 1073741824
  pub read : file ≡ delta_in text

-- The files are what texts are read as. The texts are those of the paths, in their order, and none has more than
-- 1,073,741,824 bytes.
pub record AreReadAs (gives : List ℕ → Option (List ℕ)) (paths : List (List ℕ)) (files : List File) : Type 0 where
  pub texts : List (List ℕ)
  pub given : AreGiven gives paths texts
  pub within : AreWithin texts
  pub read : files ≡ files_in texts

-- The files of a command on one site were read, each from its own path, and none has more than 1,073,741,824 bytes. The site is
-- then the one that takes its journal and is offered the texts of the delta files in rounds. The refused lines are those of the
-- journal, which is file 1.
pub record IsGathered (gives : List ℕ → Option (List ℕ)) (command : SiteCommand) (gathered : Gathered) : Type 0 where
  pub journal : List ℕ
  pub texts : List (List ℕ)
  pub journal_given : IsGiven gives command.journal.now journal
  pub texts_given : AreGiven gives (map (λ path. path.now) command.deltas.items) texts
  pub journal_within : length journal ≤ 1073741824
  pub texts_within : AreWithin texts
  pub wanted : gathered.wanting ≡ command.wanting
  pub possible : is_possible gathered ≡ is_open command.site command.sites
  pub site : exchanged_by gathered ≡ site_after command.site command.sites journal texts
  pub told : gathered.refusals.text ≡ told_after (codes "file 1 ") (refusals_told journal)
  pub refused : gathered.refusals.count ≡ length (refusals_told journal)

-- the faults that may end the writing: a failed write, no such site, and out of memory
abbrev pub EndsExchange : ProgramFault → Type 0
EndsExchange fault.Write = Unit {0}
EndsExchange fault.Usage = Unit {0}
EndsExchange fault.Memory = Unit {0}
EndsExchange _ = ⊥
