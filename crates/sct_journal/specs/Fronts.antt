-- Which files are journals of a site, by their first bytes. Read by an auditor.
--
-- The header is the first line of a journal. It names the site, and stands behind a gate as each line does.
use Rattle.std.specs.Prelude.{◌≡◌, ◌⊎◌, ℕ, ◌+◌, ◌==◌, Bool, false, ◌&&◌, ◌||◌, nat_eq, nat_le, List, [], ◌∷◌, ◌++◌, length, codes, if◌then◌else◌}
use Rattle.std.specs.List.{starts_with}
use Rattle.std.specs.Str.{bytes_eq}
use Rattle.sct_journal.specs.Kept.{gated_line, kept, recorded, shut_gate}
use Rattle.sct_journal.specs.declared.front.Front.{Front}
use Rattle.sct_journal.specs.declared.front.Front.TheVariants.{NoJournal, New, OtherSite, Ours}

-- the file begins with the header behind an open gate
abbrev pub is_ours : List ℕ → List ℕ → Bool
is_ours header file = starts_with nat_eq file (gated_line header)

-- the file begins with a tab
abbrev pub is_shut : List ℕ → Bool
is_shut [] = false
is_shut (gate ∷ bytes) = gate == shut_gate

-- behind the first byte are the header and a shut gate, and nothing more
abbrev pub is_staged : List ℕ → List ℕ → Bool
is_staged header [] = false
is_staged header (gate ∷ bytes) = bytes_eq bytes (header ++ 10 ∷ shut_gate ∷ [])

-- The file is empty, or what a crash leaves of a journal that is being made. So it has no more bytes than the header, its line
-- feed and two gates.
abbrev pub is_new_file : List ℕ → List ℕ → Bool
is_new_file header file = nat_le (length file) (length header + 3) && (nat_le (length file) 1 || (is_shut file || is_staged header file))

-- the file begins as the journal of some site
abbrev pub is_other : List ℕ → Bool
is_other file = starts_with nat_eq file (codes " site ")

abbrev pub front_in : List ℕ → List ℕ → Front
front_in header file = if is_ours header file then Ours else (if is_new_file header file then New else (if is_other file then OtherSite else NoJournal))

-- the file is a journal of this site, or becomes one
abbrev pub IsBegun : List ℕ → List ℕ → Type 0
IsBegun header file = (front_in header file ≡ Ours) ⊎ (front_in header file ≡ New)

-- A file of which the first kept line is the header is a journal of the site.
abbrev pub JournalsAreOurs : Type 0
JournalsAreOurs = (header file : List ℕ) (rest : List (List ℕ)) → kept file ≡ header ∷ rest → front_in header file ≡ Ours

-- Whatever a crash left of a journal that is being made: it is the site's, and records nothing.
pub record IsMaking (header file : List ℕ) : Type 0 where
  pub begun : IsBegun header file
  pub none : recorded file ≡ []

-- Whatever a crash left of a file: it records the same lines, and is the site's if the file was.
pub record IsLeft (header file left : List ℕ) : Type 0 where
  pub same : recorded left ≡ recorded file
  pub begun : IsBegun header file → IsBegun header left
