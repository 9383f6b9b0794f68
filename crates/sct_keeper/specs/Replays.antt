-- How a site is made of the lines of a journal. Serves proofs.
use Rattle.std.specs.Prelude.{◌≡◌, ℕ, ◌++◌, List, ⊤}
use Rattle.sct_site.specs.Cores.{Core}
use Rattle.sct_requests.specs.Steps.{core_after}
use Rattle.sct_journal.specs.declared.error.JournalError.TheVariants as journal
use Rattle.sct_keeper.specs.Keepers.{EndsOpening}
use Rattle.sct_keeper.specs.declared.fault.KeeperError.{KeeperError}
use Rattle.sct_keeper.specs.declared.fault.KeeperError.TheVariants as error

-- the site was given the lines behind those that were read
pub record IsReplayed (before after : Core) (front whole : List (List ℕ)) : Type 0 where
  pub lines : List (List ℕ)
  pub parts : whole ≡ front ++ lines
  pub site : after ≡ core_after before lines

-- the errors before a file is read
abbrev pub IsStartError : KeeperError → Type 0
IsStartError error.Memory = ⊤
IsStartError error.BadSite = ⊤
IsStartError other = ⊥

-- the errors while lines are read
abbrev pub EndsReplay : KeeperError → Type 0
EndsReplay error.Memory = ⊤
EndsReplay (error.Journal journal.Memory) = ⊤
EndsReplay (error.Journal journal.Disk) = ⊤
EndsReplay other = ⊥

-- the errors of a journal that is opened
abbrev pub EndsJournal : KeeperError → Type 0
EndsJournal error.BadSite = ⊥
EndsJournal reason = EndsOpening reason
