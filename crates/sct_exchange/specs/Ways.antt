-- What rounds come to, said without the rounds. Read by an auditor.
use Rattle.std.specs.Prelude.{◌≡◌, ◌⊎◌, List, [], ◌∷◌, None, Ok}
use Rattle.sct_delta.specs.Entries.{Placed}
use Rattle.sct_site.specs.Cores.{Core, core_joined, fresh_entries, refusal_by}
use Rattle.sct_exchange.specs.Rounds.{File}

-- the value is one of the list
abbrev pub IsAmong : {X : Type 0} → List X → X → Type 0
IsAmong [] value = ⊥
IsAmong (first ∷ rest) value = (value ≡ first) ⊎ IsAmong rest value

-- From `before` to `after` a site accepts deltas one after another, each of them one of the files.
abbrev pub AreAccepted : List File → Core → List (List Placed) → Core → Type 0
AreAccepted files before [] after = after ≡ before
AreAccepted files before (delta ∷ deltas) after =
    IsAmong files (Ok delta) × (refusal_by before delta ≡ None) × AreAccepted files (core_joined before delta) deltas after

-- Of each delta among the files that the site does not refuse, it has every entry. So no file is left that it could accept.
abbrev pub HasAllItFits : List File → Core → Type 0
HasAllItFits files core =
    (delta : List Placed) → IsAmong files (Ok delta) → refusal_by core delta ≡ None → fresh_entries core.arrivals delta ≡ []

-- The files were exchanged: the site accepted some of them, and it has all of each that it does not refuse as it ends.
pub record IsExchanged (files : List File) (before after : Core) : Type 0 where
  pub deltas : List (List Placed)
  pub accepted : AreAccepted files before deltas after
  pub complete : HasAllItFits files after
