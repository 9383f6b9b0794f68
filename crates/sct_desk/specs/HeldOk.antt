-- The parts of the state under a desk's lock agree. Read by an auditor.
use Rattle.std.specs.Prelude.{◌≡◌, ◌≤◌, ℕ, List, length, take}
use mathlib.Core.List.{IsPrefix}
use Rattle.logbook.specs.Pages.{Book}
use Rattle.sct_site.specs.Sights.{Sight}
use Rattle.sct_site.specs.Cores.{Core}
use Rattle.sct_desk.specs.declared.shown.Shown.{Shown}
use Rattle.sct_desk.specs.declared.shown.ViewUpdate.{ViewUpdate}
use Rattle.sct_desk.specs.Rules.{view_of, handed_over}

-- The core is that of the desk's site. The published view is the view of a beginning of the core's arrivals. The
-- history has a beginning of them. With the updates that are handed over, the view is that of the first `handed`
-- arrivals. There is a mark for each arrival.
pub record IsHeld (book : Book) (number group : ℕ) (core : Core) (track : Sight) (shown : Shown) (updates : List ViewUpdate) (handed : ℕ) (marks : List ℕ) : Type 0 where
  pub number_is : core.number ≡ number
  pub group_is : core.group ≡ group
  pub book_is : track.book ≡ book
  pub tracked : IsPrefix track.log core.arrivals
  pub bounded : handed ≤ length core.arrivals
  pub given : handed_over shown updates ≡ view_of book (take handed core.arrivals)
  pub viewed : shown ≡ view_of book shown.track.log
  pub published : IsPrefix shown.track.log core.arrivals
  pub marked : length core.arrivals ≤ length marks
