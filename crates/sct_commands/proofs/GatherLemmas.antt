-- Delta files that are read, one path more at a time, and what ends this. Proof plumbing.
use Rattle.std.proofs.Common.{ℕ, length, ◌+◌, ◌<◌, ◌≤◌, List, [], ◌∷◌, ◌++◌, Option, take, map, get_or, ap, sym, ◌∙◌, subst, refl}
use Rattle.std.proofs.lemmas.List.{map-append}
use Rattle.sct_delta.specs.DeltaText.{delta_in}
use Rattle.sct_exchange.specs.Rounds.{files_in, File}
use Rattle.sct_streams.specs.Files.{AreGiven, IsGiven}
use Rattle.sct_commands.specs.Exchanging.{AreReadAs, IsReadAs}
use Rattle.sct_commands.specs.Stream.{EndsFile, EndsFiles}
use Rattle.sct_commands.specs.declared.fault.ProgramFault.{ProgramFault}
use Rattle.sct_commands.proofs.FileLemmas.{next_path, one_more, within_more}

-- the file of one path more
pub read_more : {X : Type 0} (gives : List ℕ → Option (List ℕ)) (name : X → List ℕ) (paths : List X) (n : ℕ) (d : X) (files : List File) (file : File)
    → n < length paths → AreReadAs gives (map name (take n paths)) files → IsReadAs gives (name (get_or paths n d)) file
    → AreReadAs gives (map name (take (n + 1) paths)) (files ++ file ∷ [])
read_more gives name paths n d files file below so_far one = record {
  texts = so_far.texts ++ one.text ∷ [];
  given = subst (λ ps. AreGiven gives ps (so_far.texts ++ one.text ∷ [])) (next_path name paths n d below)
      (one_more gives (map name (take n paths)) so_far.texts (name (get_or paths n d)) one.text so_far.given one.given);
  read = ap (λ fs. fs ++ file ∷ []) so_far.read ∙ ap (λ f. files_in so_far.texts ++ f ∷ []) one.read
      ∙ sym (map-append delta_in so_far.texts (one.text ∷ []));
  within = within_more so_far.texts one.text so_far.within one.within;
}

-- the first file of all ends the reading
pub ends_at_once : (gives : List ℕ → Option (List ℕ)) (path : List ℕ) (paths : List (List ℕ)) (e : ProgramFault) → EndsFile (gives path) e
    → EndsFiles gives (path ∷ paths) e
ends_at_once gives path paths e ends =
    record { before = []; path = path; after = paths; inputs = []; paths_are = refl; read = tt; within = tt; ends = ends }

-- a later file ends the reading, after one more that was read
pub ends_later : (gives : List ℕ → Option (List ℕ)) (path input : List ℕ) (paths : List (List ℕ)) (e : ProgramFault)
    → IsGiven gives path input → length input ≤ 1073741824 → EndsFiles gives paths e → EndsFiles gives (path ∷ paths) e
ends_later gives path input paths e given short later = record {
  before = path ∷ later.before;
  path = later.path;
  after = later.after;
  inputs = input ∷ later.inputs;
  paths_are = ap (λ ps. path ∷ ps) later.paths_are;
  read = (given, later.read);
  within = (short, later.within);
  ends = later.ends;
}
