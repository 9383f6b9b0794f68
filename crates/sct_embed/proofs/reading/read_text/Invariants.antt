-- What the lines so far are read as, followed by what the others are, is what all of them are.
use Rattle.std.proofs.Common.{◌≡◌, ◌+◌, ◌≤◌, ◌++◌, length}
use Rattle.sct_lines.proofs.LineLemmas.{lines_left}
use Rattle.sct_embed.specs.Reading.{readings_of}
use Rattle.sct_embed.proofs.reading.read_text.Given as goal

abbrev pub invariant-loop-line : goal.invariant-loop-line
invariant-loop-line l = record {
  counted : l.number + length l.rest ≤ length l.input;
  text : l.text.items ++ readings_of (lines_left (l.number + 1) l.rest) ≡ readings_of (lines_left 1 l.input);
}

abbrev pub decreases-loop-line : goal.decreases-loop-line
decreases-loop-line l = length l.rest
