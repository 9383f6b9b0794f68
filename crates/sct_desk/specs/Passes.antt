-- The arrivals that receipts show and that queries have seen. Read by an auditor.
use Rattle.std.specs.Prelude.{◌≡◌, ◌+◌, ◌-◌, ◌≤◌, ℕ, List, length, take}
use Rattle.logbook.specs.Pages.{Book}
use Rattle.sct_delta.specs.Entries.{IsArrivals, Placed}
use Rattle.sct_site.specs.Cores.{Core}

-- A receipt. It says that `count` of the site's arrivals were published, from position `from` on, and that the first
-- `carried` of these came by earlier calls. It shows all arrivals up to these. Positions count from 1.
pub record Told : Type 0 where
  pub site : ℕ
  pub from : ℕ
  pub count : ℕ
  pub carried : ℕ
  pub book : Book
  pub shown : List Placed

-- A query: its site, and the arrivals that it has seen.
pub record Asked : Type 0 where
  pub site : ℕ
  pub book : Book
  pub seen : List Placed

-- the receipt is of this site
abbrev pub IsOf : Book → ℕ → Told → Type 0
IsOf book number receipt = (receipt.site ≡ number) × (receipt.book ≡ book)

-- The receipt reports positions up to the last one that it shows, each of them once. They begin at 1 or later, and no
-- more of them are carried than there are.
abbrev pub ReportsRange : Told → Type 0
ReportsRange receipt =
    (1 ≤ receipt.from) × (receipt.from + receipt.count ≡ length receipt.shown + 1) × (receipt.carried ≤ receipt.count)

-- how many of the arrivals that a receipt reports came by the receipt's own call
abbrev pub came : Told → ℕ
came receipt = receipt.count - receipt.carried

-- the arrivals before the receipt's own call
abbrev pub before : Told → List Placed
before receipt = take (length receipt.shown - came receipt) receipt.shown

-- The receipt of a call by which `news` arrivals came to this site. What it shows are arrivals in order. It reports the
-- last of them: first those that it carries, which were there before the call, and then those of the call.
pub record IsReceipt (book : Book) (number news : ℕ) (receipt : Told) : Type 0 where
  pub site : IsOf book number receipt
  pub order : IsArrivals receipt.shown
  pub range : ReportsRange receipt
  pub count : receipt.count ≡ receipt.carried + news
  -- those that it carries end where those of the call begin, as follows from `range` and `count`
  pub carried : receipt.from + receipt.carried ≡ length (before receipt) + 1

-- the site of this number and group with these arrivals
abbrev pub site_with : ℕ → ℕ → List Placed → Core
site_with number group arrivals = record { number = number; group = group; arrivals = arrivals }
