-- A keeper: a site whose journal is on a disk. Read by an auditor.
use Rattle.std.specs.Prelude.{◌≡◌, ◌⊎◌, ℕ, ◌≤◌, ◌^◌, ◌++◌, ◌∷◌, Bool, IsTrue, List, codes, length, ⊤}
use Rattle.std.specs.Fmt.{decimal}
use Rattle.sct_site.specs.Cores.{Core}
use Rattle.sct_journal.specs.Kept.{kept, recorded}
use Rattle.sct_journal.specs.Settled.{IsSettled, disk_of}
use Rattle.sct_requests.specs.WatchedSites.{WatchedSite}
use Rattle.sct_requests.specs.Steps.{core_kept}
use Rattle.sct_journal.specs.declared.error.JournalError.TheVariants as journal
use Rattle.sct_keeper.specs.declared.fault.KeeperError.{KeeperError}
use Rattle.sct_keeper.specs.declared.fault.KeeperError.TheVariants as error
use Rattle.sct_keeper.specs.declared.keeper.Keeper.{Keeper}

-- the first line of a journal: `site`, the number of the site and the number of sites
unfoldable pub header : ℕ → ℕ → List ℕ
header number group = codes "site " ++ decimal number ++ codes " " ++ decimal group

-- the disk of a keeper
abbrev pub keeper_disk : {D : Type 0} → Keeper D → D
keeper_disk keeper = disk_of keeper.journal

-- its site
abbrev pub core_of_keeper : {D : Type 0} → Keeper D → Core
core_of_keeper keeper = keeper.site.core

-- its site, and how many entries that had when its changes were asked for last
abbrev pub watched_site_of : {D : Type 0} → Keeper D → WatchedSite
watched_site_of keeper = record { core = keeper.site.core; watched = keeper.site.watched }

-- the text that it was asked for last
abbrev pub answer_of_keeper : {D : Type 0} → Keeper D → List ℕ
answer_of_keeper keeper = keeper.site.answer

-- The journal is at rest. If no read of the disk was wrong, it is the journal of the site, and the site is the one that the
-- lines of the journal make.
pub record IsKeeper {D : Type 0} (seen : D → List ℕ) (may_leave : D → List ℕ → Type 0) (is_usable is_clean : D → Bool) (keeper : Keeper D) : Type 0 where
  pub settled : IsSettled seen may_leave is_usable is_clean keeper.journal
  pub begins : IsTrue (is_clean (keeper_disk keeper)) → kept (seen (keeper_disk keeper)) ≡ header keeper.site.core.number keeper.site.core.group ∷ recorded (seen (keeper_disk keeper))
  pub site : IsTrue (is_clean (keeper_disk keeper)) → keeper.site.core ≡ core_kept keeper.site.core.number keeper.site.core.group (recorded (seen (keeper_disk keeper)))

-- a file records these lines, or these and all of a batch: never a part of it
abbrev pub IsRecordedBeforeOrAfter : List (List ℕ) → List (List ℕ) → List ℕ → Type 0
IsRecordedBeforeOrAfter lines batch file = (recorded file ≡ lines) ⊎ (recorded file ≡ lines ++ batch)

-- ---- errors

-- the file is not the journal of this site (75, 76)
abbrev pub IsForeign : KeeperError → Type 0
IsForeign (error.Journal journal.NoJournal) = ⊤
IsForeign (error.Journal journal.OtherSite) = ⊤
IsForeign other = ⊥

-- no byte of the file was changed, and a crash leaves what it left before
pub record IsUntouched {D : Type 0} (seen : D → List ℕ) (may_leave : D → List ℕ → Type 0) (disk left : D) : Type 0 where
  pub seen_alike : seen left ≡ seen disk
  pub no_more : (c : List ℕ) → may_leave left c → may_leave disk c

-- out of memory (65)
abbrev pub IsOfMemory : KeeperError → Type 0
IsOfMemory error.Memory = ⊤
IsOfMemory (error.Journal journal.Memory) = ⊤
IsOfMemory other = ⊥

-- the file has 2^62 bytes or more, if no read of the disk was wrong
abbrev pub IsFull : {D : Type 0} → (D → List ℕ) → (D → Bool) → D → Type 0
IsFull seen is_clean disk = IsTrue (is_clean disk) → 2 ^ 62 ≤ length (seen disk)

-- the errors of an opening: out of memory, no such site, a file that is not the journal of this site, or a failed call of the disk
abbrev pub EndsOpening : KeeperError → Type 0
EndsOpening error.Memory = ⊤
EndsOpening error.BadSite = ⊤
EndsOpening (error.Journal journal.Memory) = ⊤
EndsOpening (error.Journal journal.Disk) = ⊤
EndsOpening (error.Journal journal.NoJournal) = ⊤
EndsOpening (error.Journal journal.OtherSite) = ⊤
EndsOpening other = ⊥

-- the errors of a round: out of memory, a failed call of the disk, or a file of 2^62 bytes
abbrev pub EndsRound : KeeperError → Type 0
EndsRound error.Memory = ⊤
EndsRound (error.Journal journal.Memory) = ⊤
EndsRound (error.Journal journal.Disk) = ⊤
EndsRound (error.Journal journal.Full) = ⊤
EndsRound other = ⊥
