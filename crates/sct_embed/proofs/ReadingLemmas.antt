-- Lines are read one after another.
use Rattle.std.proofs.Common.{◌≡◌, ◌∙◌, ap, refl, ℕ, List, [], ◌∷◌, true, false, append-nil}
use Rattle.std.proofs.lemmas.Grind.{flat_map-append}
use Rattle.sct_json.specs.Reading.{message_in}
use Rattle.sct_lines.specs.Lines.{is_blank, numbered_from}
use Rattle.sct_lines.proofs.LineLemmas.{IsByLine, blank_line, written_line}
use Rattle.sct_embed.specs.Reading.{read_as, reading_of, readings_of}

pub readings_by_line : IsByLine readings_of
readings_by_line = record { none = refl; append = λ some more. flat_map-append reading_of some more }

-- a blank line is read as nothing
pub blank : (number : ℕ) (line : List ℕ) → is_blank line ≡ true → readings_of (numbered_from number (line ∷ [])) ≡ []
blank number line is = ap readings_of (blank_line number line is)

-- any other line is read as its message or its refusal
pub other : (number : ℕ) (line : List ℕ) → is_blank line ≡ false → readings_of (numbered_from number (line ∷ [])) ≡ read_as number (message_in line)
other number line is = ap readings_of (written_line number line is) ∙ append-nil (read_as number (message_in line))
