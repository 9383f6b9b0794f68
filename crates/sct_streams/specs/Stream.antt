-- What is known of a stream of bytes, and the effects of reading and writing on it. Read by an auditor.
use Rattle.std.specs.Prelude.{ℕ, ◌≡◌, ◌+◌, ◌<◌, ◌≤◌, ◌⊎◌, List, [], ◌++◌, Option, Some, length, take, drop, IfSome}

-- a stream that is read: the bytes that further reads will give, if they are known, and how many reads have failed
pub record Input : Type 0 where
  pub left : Option (List ℕ)
  pub failures : ℕ

-- a stream that is written to: the bytes that were written, if they are known, and how many writes have failed
pub record Output : Type 0 where
  pub held : Option (List ℕ)
  pub failures : ℕ

-- ---- the bytes of a stream

-- n bytes were read from the front of the bytes left into the front of a piece with `room` bytes, and the other bytes
-- are left now; n is 0 for a piece with room only if no bytes were left
pub record Gives (before : List ℕ) (n : ℕ) (room : ℕ) (piece : List ℕ) (after : Option (List ℕ)) : Type 0 where
  pub rest : List ℕ
  pub left : after ≡ Some rest
  pub front : before ≡ take n piece ++ rest
  pub end : n ≡ 0 → 0 < room → before ≡ []

-- if the bytes left at first are known, the bytes read so far are their front, and the other bytes are left now
abbrev pub HasReadIfTold : Option (List ℕ) → Option (List ℕ) → List ℕ → Type 0
HasReadIfTold before after bytes = IfSome before (λ left. (rest : List ℕ) × ((left ≡ bytes ++ rest) × (after ≡ Some rest)))

-- if the bytes left before are known, n of them were taken from their front, and the other bytes are left now
abbrev pub HasTakenIfTold : Option (List ℕ) → Option (List ℕ) → ℕ → Type 0
HasTakenIfTold before after n = IfSome before (λ left. (n ≤ length left) × (after ≡ Some (drop n left)))

-- if the bytes held before are known, the bytes held now are these followed by the piece
abbrev pub AppendsIfTold : Option (List ℕ) → Option (List ℕ) → List ℕ → Type 0
AppendsIfTold before after piece = IfSome before (λ held. after ≡ Some (held ++ piece))

-- if the bytes held before are known, the bytes held now are these followed by a prefix of the text
abbrev pub AppendsPrefixIfTold : Option (List ℕ) → Option (List ℕ) → List ℕ → Type 0
AppendsPrefixIfTold before after text =
    IfSome before (λ held. (count : ℕ) × ((count ≤ length text) × (after ≡ Some (held ++ take count text))))

-- ---- a text that is written to a stream

-- no write failed, and the bytes held are those held before followed by the whole text, if these are known
pub record IsWritten (before after : Output) (text : Option (List ℕ)) : Type 0 where
  pub none_failed : after.failures ≡ before.failures
  pub whole : IfSome text (λ bytes. AppendsIfTold before.held after.held bytes)

-- one write failed, and the bytes held are those held before followed by a prefix of the text, if these are known
pub record IsCutOff (before after : Output) (text : Option (List ℕ)) : Type 0 where
  pub one_failed : after.failures ≡ before.failures + 1
  pub prefix : IfSome text (λ bytes. AppendsPrefixIfTold before.held after.held bytes)

-- the whole text was written, or one write failed and a prefix of it was written
abbrev pub IsWrittenOrCutOff : Output → Output → Option (List ℕ) → Type 0
IsWrittenOrCutOff before after text = IsWritten before after text ⊎ IsCutOff before after text
