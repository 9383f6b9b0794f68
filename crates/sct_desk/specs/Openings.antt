-- How a desk opens. Read by an auditor.
use Rattle.std.specs.Prelude.{◌≡◌, ◌<◌, ◌≤◌, ◌⊎◌, ℕ, [], true, false}
use Rattle.logbook.specs.Pages.{Book}
use Rattle.sct_site.specs.Cores.{is_open}
use Rattle.sct_desk.specs.Passes.{Asked}
use Rattle.sct_desk.specs.declared.fault.DeskFault.{DeskFault}
use Rattle.sct_desk.specs.declared.fault.DeskFault.TheVariants as fault

-- the query is of this site, and has seen nothing
abbrev pub IsNewQuery : Book → ℕ → Asked → Type 0
IsNewQuery book number query = query ≡ record { site = number; book = book; seen = [] }

-- Why a desk does not open. 44: there is no such site. 52: there is, but the places are fewer than 1 or more than 16.
-- 50: the site and the places are right, but it is out of memory.
abbrev pub FailsToOpen : ℕ → ℕ → ℕ → DeskFault → Type 0
FailsToOpen number group places fault.BadSite = is_open number group ≡ false
FailsToOpen number group places fault.NoPlace = (is_open number group ≡ true) × ((places < 1) ⊎ (16 < places))
FailsToOpen number group places fault.Memory = (is_open number group ≡ true) × (1 ≤ places) × (places ≤ 16)
FailsToOpen number group places other = ⊥
