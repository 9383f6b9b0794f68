-- Beginnings of a site's history. Read by an auditor. Receipts and queries use these words.
use Rattle.std.specs.Prelude.{◌≡◌, ◌⊎◌, List}
use mathlib.Core.List.{IsPrefix}
use Rattle.logbook.specs.Pages.{Book}
use Rattle.sct_delta.specs.Entries.{Placed}

-- A beginning of a history that was seen: which history, and its arrivals up to some position.
pub record Sight : Type 0 where
  pub book : Book
  pub log : List Placed

-- zs is the longer of xs and ys, and the other is a prefix of it
abbrev pub IsLonger : List Placed → List Placed → List Placed → Type 0
IsLonger xs ys zs = ((zs ≡ xs) ⊎ (zs ≡ ys)) × IsPrefix xs zs × IsPrefix ys zs
