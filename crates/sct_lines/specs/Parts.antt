-- A part of an input, with the number of the lines before it. Serves proofs.
use Rattle.std.specs.Prelude.{ℕ, ◌≡◌, ◌+◌, ◌==◌, List, drop, filter, length, take}
use Rattle.sct_json.specs.declared.faults.JsonFault.{JsonFault}
use Rattle.sct_message.specs.declared.draft.Draft.{Draft}
use Rattle.sct_message.specs.Sets.{messages_in}
use Rattle.sct_lines.specs.declared.intake.PartRead.{PartRead}
use Rattle.sct_lines.specs.Lines.{lines_of, messages_among, numbered_from, refusals_among, told_after}

-- the messages that are read from the part, in the order of its lines
abbrev pub messages_after : ℕ → List ℕ → List Draft
messages_after before part = messages_among (numbered_from (before + 1) (lines_of part))

-- the lines of the part that are refused, in their order, which count on from those before it
abbrev pub refusals_after : ℕ → List ℕ → List (ℕ × JsonFault)
refusals_after before part = refusals_among (numbered_from (before + 1) (lines_of part))

-- what is read of the part, if a text is written before each line that reports a refused one
pub record IsReadAfter (front : List ℕ) (before : ℕ) (part : List ℕ) (read : PartRead) : Type 0 where
  pub messages : messages_in read.intake.messages.items ≡ messages_after before part
  pub told : read.intake.refusals.text ≡ told_after front (refusals_after before part)
  pub refused : read.intake.refusals.count ≡ length (refusals_after before part)
  pub lines : read.lines ≡ length (lines_of part)

-- the same of the part of a text that begins at a place, behind these lines and those of the text before that place
abbrev pub IsPartOf : List ℕ → ℕ → List ℕ → ℕ → PartRead → Type 0
IsPartOf front counted text from read = IsReadAfter front (counted + length (filter (λ byte. byte == 10) (take from text))) (drop from text) read
