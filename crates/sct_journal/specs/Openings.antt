-- A journal that is being opened. Read by an auditor.
use Rattle.std.specs.Prelude.{◌≡◌, ℕ, ◌≤◌, Bool, IsTrue, List, length, take}
use Rattle.sqlite_disk.specs.Disk.{Only}
use Rattle.sct_journal.specs.Kept.{gated, kept}
use Rattle.sct_journal.specs.declared.opening.Opening.{Opening}

-- the disk of an opening
abbrev pub opening_disk : {D : Type 0} → Opening D → D
opening_disk opening = opening.disk

-- how many bytes were read
abbrev pub opening_end : {D : Type 0} → Opening D → ℕ
opening_end opening = opening.end

-- how many bytes the file has
abbrev pub opening_len : {D : Type 0} → Opening D → ℕ
opening_len opening = opening.len

-- The first bytes of a file, up to a place, are whole lines that it keeps.
pub record IsReadTo (file : List ℕ) (end : ℕ) : Type 0 where
  pub within : end ≤ length file
  pub lines : take end file ≡ gated (kept (take end file))

-- All of the file is on the disk, and the disk may be used. If no read of the disk was wrong, the opening knows how long the
-- file is, and what it read are lines.
pub record IsOpening {D : Type 0} (seen : D → List ℕ) (may_leave : D → List ℕ → Type 0) (is_usable is_clean : D → Bool) (opening : Opening D) : Type 0 where
  pub usable : IsTrue (is_usable opening.disk)
  pub durable : Only (seen opening.disk) (may_leave opening.disk)
  pub fits : opening.end ≤ opening.len
  pub len : IsTrue (is_clean opening.disk) → opening.len ≡ length (seen opening.disk)
  pub read : IsTrue (is_clean opening.disk) → IsReadTo (seen opening.disk) opening.end
