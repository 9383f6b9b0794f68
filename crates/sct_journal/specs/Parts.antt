-- What is read at a time of a journal that is being opened. Serves proofs.
use Rattle.std.specs.Prelude.{◌≡◌, ℕ, ◌<◌, ◌≤◌, List, [], Option, None, Some, Vec, length, take}
use Rattle.std.specs.declared.alloc.Global.{Global}
use Rattle.sct_journal.specs.Kept.{gated, kept}
use Rattle.sct_journal.specs.declared.parts.Part.{Part}
use Rattle.sct_journal.specs.declared.parts.Part.TheVariants.{End, Lines, Longer}

-- a text is the front of some bytes, and is whole lines that are kept
pub record IsFront (bytes text : List ℕ) : Type 0 where
  pub front : text ≡ take (length text) bytes
  pub lines : text ≡ gated (kept text)

-- some bytes were read of so many, and if no read was wrong, they are whole lines at the front of these
pub record IsNext (IsSound : Type 0) (bytes : List ℕ) (rest : ℕ) (text : List ℕ) : Type 0 where
  pub some : 0 < length text
  pub within : length text ≤ rest
  pub front : IsSound → IsFront bytes text

abbrev pub IsNextPart : Type 0 → List ℕ → ℕ → ℕ → Part → Type 0
IsNextPart IsSound bytes rest most (Lines text) = IsNext IsSound bytes rest text.items
IsNextPart IsSound bytes rest most End = IsSound → kept bytes ≡ []
IsNextPart IsSound bytes rest most Longer = most < rest

abbrev pub IsNextText : Type 0 → List ℕ → ℕ → Option (Vec ℕ Global) → Type 0
IsNextText IsSound bytes rest (Some text) = IsNext IsSound bytes rest text.items
IsNextText IsSound bytes rest None = IsSound → kept bytes ≡ []
