-- Blank lines alone stand before what is left.
use Rattle.std.proofs.Common.{◌≡◌, ◌+◌, ◌≤◌, length}
use Rattle.sct_script.specs.Scripts.{script_lines}
use Rattle.sct_lines.proofs.LineLemmas.{lines_left}
use Rattle.sct_script.proofs.script.first_written_line.Given as goal

abbrev pub invariant-loop-line : goal.invariant-loop-line
invariant-loop-line l = record {
  counted : l.number + length l.rest ≤ length l.input;
  left : lines_left (l.number + 1) l.rest ≡ script_lines l.input;
}

abbrev pub decreases-loop-line : goal.decreases-loop-line
decreases-loop-line l = length l.rest
