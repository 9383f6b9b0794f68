-- Receipts that tile a site's arrivals. Read by an auditor.
use Rattle.std.specs.Prelude.{◌≡◌, ◌≢◌, ◌+◌, ◌<◌, ◌≤◌, ◌-◌, ◌==◌, ◌&&◌, ◌⊎◌, ℕ, Bool, List, Option, Some, length, filter, min, nat_le, nat_lt, slice_index}
use Rattle.std.specs.List.{All, Any}
use mathlib.Core.List.{IsPrefix}
use Rattle.logbook.specs.Pages.{Book}
use Rattle.sct_delta.specs.Entries.{Placed}
use Rattle.sct_desk.specs.Locked.{IsHeldBack, IsShown, Locked}
use Rattle.sct_desk.specs.Passes.{Told}
use Rattle.sct_desk.specs.declared.fault.DeskFault.{DeskFault}
use Rattle.sct_desk.specs.declared.fault.DeskFault.TheVariants as fault

-- the receipt is of this site and covers the position: it reports that the position was published
abbrev pub tells : ℕ → ℕ → Told → Bool
tells number position receipt =
    receipt.site == number && (nat_le receipt.from position && nat_lt position (receipt.from + receipt.count))

-- how many of the receipts of this site cover the position
abbrev pub tellings : ℕ → ℕ → List Told → ℕ
tellings number position receipts = length (filter (tells number position) receipts)

-- each receipt of this site shows a beginning of the arrivals
abbrev pub AllBegin : ℕ → List Placed → List Told → Type 0
AllBegin number arrivals receipts = All (λ receipt. receipt.site ≡ number → IsPrefix receipt.shown arrivals) receipts

-- The receipts of this site tile its arrivals: each position is covered by exactly one of them,
-- and each shows a beginning of the arrivals.
pub record Tiles (number : ℕ) (arrivals : List Placed) (receipts : List Told) : Type 0 where
  pub once : (position : ℕ) → 1 ≤ position → position ≤ length arrivals → tellings number position receipts ≡ 1
  pub begin : AllBegin number arrivals receipts

-- the least position that is not covered by exactly one receipt
pub record IsLeastUntold (number : ℕ) (receipts : List Told) (position : ℕ) : Type 0 where
  pub untold : tellings number position receipts ≢ 1
  pub first : 1 ≤ position
  pub told : (before : ℕ) → 1 ≤ before → before < position → tellings number before receipts ≡ 1

-- Why a desk is not closed: arrivals are pending from some position on, or a position is not covered by exactly one receipt.
-- Of a pending position this says only that positions count from 1. Under the lock it is the first that is not published
-- (`IsPendingFrom`).
abbrev pub FailsToClose : ℕ → List Told → DeskFault → Type 0
FailsToClose number receipts (fault.Pending from) = 1 ≤ from
FailsToClose number receipts (fault.Untold position) = IsLeastUntold number receipts position
FailsToClose number receipts other = ⊥

-- 53 comes first: a desk is closed, and a position is reported by 54, only if nothing is pending
abbrev pub PendingFirst : Locked → Option DeskFault → Type 0
PendingFirst held (Some (fault.Pending from)) = Unit {0}
PendingFirst held other = IsShown held

-- a receipt of this site shows more arrivals than there are
abbrev pub ShowsMore : ℕ → List Placed → Told → Type 0
ShowsMore number arrivals receipt = (receipt.site ≡ number) × (length arrivals < length receipt.shown)

-- one of the receipts shows more arrivals than there are
abbrev pub OneShowsMore : ℕ → List Placed → List Told → Type 0
OneShowsMore number arrivals receipts = Any (ShowsMore number arrivals) receipts

-- why a desk is not closed for arrivals pending from a position on, the first that is not published: some arrival is
-- pending (or a receipt shows more than what is published, which never happens)
abbrev pub IsPendingFrom : ℕ → Locked → List Told → ℕ → Type 0
IsPendingFrom number held receipts from =
    (from ≡ length held.published + 1)
    × (IsHeldBack from held ⊎ OneShowsMore number held.published receipts)

-- those of the receipts that have this site's number are of this desk
abbrev pub AreOurs : Book → ℕ → List Told → Type 0
AreOurs book number receipts = All (λ receipt. receipt.site ≡ number → receipt.book ≡ book) receipts

-- ---- marks, one for each arrival

-- a count that stops at two
abbrev pub up_to_two : ℕ → ℕ
up_to_two n = min 2 n

-- the first position whose mark is not 1
pub record IsFirstUnmarked (marks : List ℕ) (position : ℕ) : Type 0 where
  pub first : 1 ≤ position
  pub inside : position ≤ length marks
  pub unmarked : slice_index marks (position - 1) ≢ 1
  pub marked : (at : ℕ) → at + 1 < position → slice_index marks at ≡ 1
