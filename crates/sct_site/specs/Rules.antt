-- The rule of a history, and the effect of its one step. Proof plumbing.
use Rattle.std.specs.Prelude.{ℕ, ◌≡◌, ◌==◌, true, List, [], ◌∷◌, ◌++◌, length, MatchBool}
use Rattle.logbook.specs.Pages.{Cell, Step, View, Book, Named}
use Rattle.sct_delta.specs.Entries.{Placed}

-- the first word is the length of the history; the second, which a book has too, stays 0
abbrev pub IsKept : List Cell → List Placed → Type 0
IsKept cells log = cells ≡ (length log, true) ∷ (0, true) ∷ []

-- the word that holds the length
abbrev pub head_of : Book → Named
head_of b = record { tracked = true; key = 0; book = b }

-- if the word had the expected value, the arrival was added to all that had been seen
abbrev pub Adds : Step Placed → View Placed ℕ → ℕ → View Placed ℕ → Type 0
Adds s v found w = MatchBool (found == s.old) (w.0 ≡ v.0 ++ s.ask ∷ []) (Unit {0})
