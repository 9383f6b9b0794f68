-- Read by an auditor: names and remittance information, texts of any characters, counted as Unicode scalar values.
use Rattle.std.specs.Prelude.{◌≡◌, ℕ, ◌&&◌, List, length, chars, nat_le, Bool, true, false, Result, Ok, Err}
use Rattle.sct_element.specs.declared.faults.ElementFault.{ElementFault}
use Rattle.sct_element.specs.declared.faults.ElementFault.TheVariants.{BadBic, BadIban, BadId, BadAmount, BadDay, BadText, BadStamp, Memory, BadCode}

-- 1 to `most` characters
abbrev pub has_characters : ℕ → List ℕ → Bool
has_characters most s = nat_le 1 (length (chars s)) && nat_le (length (chars s)) most

-- A text of allowed length is kept as it is, unless it is out of memory. Any other text is refused with BadText.
abbrev pub ReadsFree : ℕ → List ℕ → Result (List ℕ) ElementFault → Type 0
ReadsFree most s (Ok t) = (has_characters most s ≡ true) × (t ≡ s)
ReadsFree most s (Err BadText) = has_characters most s ≡ false
ReadsFree most s (Err Memory) = has_characters most s ≡ true
ReadsFree most s (Err BadBic) = ⊥
ReadsFree most s (Err BadIban) = ⊥
ReadsFree most s (Err BadId) = ⊥
ReadsFree most s (Err BadAmount) = ⊥
ReadsFree most s (Err BadDay) = ⊥
ReadsFree most s (Err BadStamp) = ⊥
ReadsFree most s (Err BadCode) = ⊥
