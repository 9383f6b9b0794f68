-- A journal at rest. Read by an auditor.
use Rattle.std.specs.Prelude.{◌≡◌, ◌≢◌, ℕ, ◌++◌, ◌∷◌, Bool, IsTrue, List, [], drop, length}
use Rattle.sqlite_disk.specs.Disk.{Only}
use Rattle.sct_journal.specs.Kept.{gated, kept, open_gate}
use Rattle.sct_journal.specs.declared.journal.Journal.{Journal}

-- the disk of a journal
abbrev pub disk_of : {D : Type 0} → Journal D → D
disk_of journal = journal.disk

-- The file is its kept lines behind open gates, then a gate that is not open, and then bytes that are nothing.
pub record IsAtRest (file : List ℕ) (end : ℕ) : Type 0 where
  pub gate : ℕ
  pub junk : List ℕ
  pub is : file ≡ gated (kept file) ++ gate ∷ junk
  pub shut : gate ≢ open_gate
  pub place : end ≡ length (gated (kept file))

-- All of the file is on the disk, and the disk may be used. If no read of the disk was wrong, the file is at rest, and the
-- journal knows the place of its shut gate.
pub record IsSettled {D : Type 0} (seen : D → List ℕ) (may_leave : D → List ℕ → Type 0) (is_usable is_clean : D → Bool) (journal : Journal D) : Type 0 where
  pub usable : IsTrue (is_usable journal.disk)
  pub durable : Only (seen journal.disk) (may_leave journal.disk)
  pub rest : IsTrue (is_clean journal.disk) → IsAtRest (seen journal.disk) journal.end

-- The first bytes of a file, up to a place, are its kept lines, and no line is kept behind them.
pub record EndsKept (file : List ℕ) (end : ℕ) : Type 0 where
  pub place : end ≡ length (gated (kept file))
  pub parts : file ≡ gated (kept file) ++ drop end file
  pub none : kept (drop end file) ≡ []
