-- Files that are read, one path more at a time, and what ends this. Proof plumbing.
use Rattle.std.proofs.Common.{◌≡◌, ℕ, suc, ◌+◌, ◌<◌, ◌≤◌, List, [], ◌∷◌, ◌++◌, Option, Some, None, Result, Ok, Err, length, take, drop, map, get_or, IfSome, IfErr, sym, ap, ◌∙◌, subst, arith}
use Rattle.std.proofs.lemmas.Grind.{take_at_read}
use Rattle.std.proofs.lemmas.List.{length-map, map-append, take-map}
use Rattle.std.proofs.Math.Seq.{split_at}
use Rattle.sct_streams.specs.Files.{AreGiven, IsGiven}
use Rattle.sct_streams.specs.Whole.{EndsReading}
use Rattle.sct_streams.specs.declared.whole.ReadFault.{ReadFault}
use Rattle.sct_streams.specs.declared.whole.ReadFault.TheVariants as reading
use Rattle.sct_commands.specs.Fault.{fault_of_read}
use Rattle.sct_commands.specs.Stream.{AreWithin, EndsFile, EndsFiles}
use Rattle.sct_commands.specs.declared.fault.ProgramFault.{ProgramFault}
use Rattle.sct_commands.specs.declared.fault.ProgramFault.TheVariants as fault

-- the file of one path more
pub one_more : (gives : List ℕ → Option (List ℕ)) (paths inputs : List (List ℕ)) (path bytes : List ℕ) → AreGiven gives paths inputs → IsGiven gives path bytes
    → AreGiven gives (paths ++ path ∷ []) (inputs ++ bytes ∷ [])
one_more gives [] [] path bytes so_far now = (now, tt)
one_more gives (p ∷ ps) (b ∷ bs) path bytes so_far now = (so_far.0, one_more gives ps bs path bytes so_far.1 now)
one_more gives [] (b ∷ bs) path bytes so_far now = absurd so_far
one_more gives (p ∷ ps) [] path bytes so_far now = absurd so_far

-- the path at a place comes after those before it
pub next_path : {X : Type 0} (name : X → List ℕ) (paths : List X) (n : ℕ) (d : X) → n < length paths
    → map name (take n paths) ++ name (get_or paths n d) ∷ [] ≡ map name (take (n + 1) paths)
next_path name paths n d below =
    sym (ap (map name) (take_at_read paths n d below).1 ∙ map-append name (take n paths) (get_or paths n d ∷ []))

-- the same, by the path at a place
pub file_more : {X Y : Type 0} (gives : List ℕ → Option (List ℕ)) (name : X → List ℕ) (items : Y → List ℕ) (paths : List X) (inputs : List Y) (n : ℕ) (d : X) (input : Y)
    → n < length paths → AreGiven gives (map name (take n paths)) (map items inputs) → IsGiven gives (name (get_or paths n d)) (items input)
    → AreGiven gives (map name (take (n + 1) paths)) (map items (inputs ++ input ∷ []))
file_more gives name items paths inputs n d input below so_far given =
    subst (λ ps. AreGiven gives ps (map items (inputs ++ input ∷ []))) (next_path name paths n d below)
    (subst (AreGiven gives (map name (take n paths) ++ name (get_or paths n d) ∷ [])) (sym (map-append items inputs (input ∷ [])))
    (one_more gives (map name (take n paths)) (map items inputs) (name (get_or paths n d)) (items input) so_far given))

-- what ends a reading of at most 1 GiB, ends that of a file
pub reading_ends : (f : ReadFault) (before after : Option (List ℕ)) → EndsReading f 1073741824 before after → EndsFile before (fault_of_read f)
reading_ends reading.Failed before after ends = tt
reading_ends reading.Memory before after ends = tt
reading_ends reading.TooLong None after ends = tt
reading_ends reading.TooLong (Some bytes) after ends = let long = ends.0 in omega (arith, long)

-- what ends a reader that has the bytes of a file left, ends the reading of the file
pub file_ends : (given left : Option (List ℕ)) (e : ProgramFault) → IfSome given (λ bytes. left ≡ Some bytes) → EndsFile left e → EndsFile given e
file_ends given left fault.Read opened ends = tt
file_ends given left fault.Memory opened ends = tt
file_ends None left fault.TooLong opened ends = tt
file_ends (Some bytes) left fault.TooLong opened ends = subst (λ l. EndsFile l fault.TooLong) opened ends
file_ends given left fault.Write opened ends = absurd ends
file_ends given left fault.Usage opened ends = absurd ends
file_ends given left (fault.BadList row) opened ends = absurd ends
file_ends given left fault.Held opened ends = absurd ends
file_ends given left (fault.Refused number) opened ends = absurd ends
file_ends given left fault.NoWorker opened ends = absurd ends
file_ends given left fault.NoJournal opened ends = absurd ends
file_ends given left fault.OtherSite opened ends = absurd ends
file_ends given left fault.Busy opened ends = absurd ends
file_ends given left fault.Disk opened ends = absurd ends

-- one input more that is within the limit
pub within_more : (inputs : List (List ℕ)) (bytes : List ℕ) → AreWithin inputs → length bytes ≤ 1073741824 → AreWithin (inputs ++ bytes ∷ [])
within_more [] bytes so_far now = (now, tt)
within_more (b ∷ bs) bytes so_far now = (so_far.0, within_more bs bytes so_far.1 now)

-- the same of the bytes of items
pub items_within : {Y : Type 0} (items : Y → List ℕ) (inputs : List Y) (input : Y) → AreWithin (map items inputs) → length (items input) ≤ 1073741824
    → AreWithin (map items (inputs ++ input ∷ []))
items_within items inputs input so_far now =
    subst AreWithin (sym (map-append items inputs (input ∷ []))) (within_more (map items inputs) (items input) so_far now)

-- the file at a place ends the reading
pub ends_at : {X : Type 0} (gives : List ℕ → Option (List ℕ)) (name : X → List ℕ) (paths : List X) (n : ℕ) (d : X) (inputs : List (List ℕ)) (e : ProgramFault)
    → n < length paths → AreGiven gives (map name (take n paths)) inputs → AreWithin inputs → EndsFile (gives (name (get_or paths n d))) e
    → EndsFiles gives (map name paths) e
ends_at gives name paths n d inputs e below read within ends = record {
  before = map name (take n paths);
  path = name (get_or paths n d);
  after = map name (drop (suc n) paths);
  inputs = inputs;
  paths_are = ap (map name) (split_at paths n d below) ∙ map-append name (take n paths) (get_or paths n d ∷ drop (suc n) paths);
  read = read;
  within = within;
  ends = ends;
}

-- a result that has this fault
pub ended_by : {T : Type 0} (P : ProgramFault → Type 0) (result : Result T ProgramFault) (e : ProgramFault) → IfErr result (λ f. f ≡ e) → P e → IfErr result P
ended_by P (Ok value) e is holds = tt
ended_by P (Err f) e is holds = subst P (sym is) holds

-- memory may be out at any path
pub memory_at : {T X : Type 0} (result : Result T ProgramFault) (gives : List ℕ → Option (List ℕ)) (name : X → List ℕ) (paths : List X) (n : ℕ) (inputs : List (List ℕ))
    → n < length paths → AreGiven gives (map name (take n paths)) inputs → AreWithin inputs → IfErr result (λ e. e ≡ fault.Memory)
    → IfErr result (EndsFiles gives (map name paths))
memory_at result gives name paths n inputs below read within memory =
    let below_named : n < length (map name paths) = subst (λ m. n < m) (sym (length-map paths name)) below in
    ended_by (EndsFiles gives (map name paths)) result fault.Memory memory (record {
      before = take n (map name paths);
      path = get_or (map name paths) n [];
      after = drop (suc n) (map name paths);
      inputs = inputs;
      paths_are = split_at (map name paths) n [] below_named;
      read = subst (λ ps. AreGiven gives ps inputs) (sym (take-map name n paths)) read;
      within = within;
      ends = tt;
    })
