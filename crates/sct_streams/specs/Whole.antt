-- How the reading of an input ends. Read by an auditor.
use Rattle.std.specs.Prelude.{ℕ, ◌≡◌, ◌+◌, ◌++◌, ◌<◌, ◌≤◌, List, Option, length}
use Rattle.sct_streams.specs.Stream.{HasReadIfTold, HasTakenIfTold}
use Rattle.sct_streams.specs.declared.whole.ReadFault.{ReadFault}
use Rattle.sct_streams.specs.declared.whole.ReadFault.TheVariants.{TooLong, Failed, Memory}

-- The meaning of a fault that ended the reading of at most `limit` bytes. Past the limit, exactly one byte more than
-- the limit was taken. Before a failed read, at most `limit` bytes were taken.
abbrev pub EndsReading : ReadFault → ℕ → Option (List ℕ) → Option (List ℕ) → Type 0
EndsReading TooLong limit before after = HasTakenIfTold before after (limit + 1)
EndsReading Failed limit before after = (n : ℕ) × ((n ≤ limit) × HasTakenIfTold before after n)
EndsReading Memory limit before after = Unit {0}

-- how many reads failed in a reading that ended with this fault
abbrev pub failed_reads : ReadFault → ℕ
failed_reads Failed = 1
failed_reads _ = 0

-- ---- some bytes more

-- n bytes were appended to the old ones. If the bytes left before are known, these n are their front, and the other bytes
-- are left now.
pub record HasAppended (n : ℕ) (old new : List ℕ) (before after : Option (List ℕ)) : Type 0 where
  pub more : List ℕ
  pub bytes : new ≡ old ++ more
  pub count : length more ≡ n
  pub read : HasReadIfTold before after more

-- The meaning of a fault that ended the reading of at most `most` bytes. Before a failed read, fewer bytes were taken.
abbrev pub EndsAppending : ReadFault → ℕ → Option (List ℕ) → Option (List ℕ) → Type 0
EndsAppending TooLong most before after = ⊥
EndsAppending Failed most before after = (n : ℕ) × ((n < most) × HasTakenIfTold before after n)
EndsAppending Memory most before after = Unit {0}
