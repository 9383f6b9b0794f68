-- What is left decides.
use Rattle.std.proofs.Common.{◌≡◌, ◌+◌, ◌≤◌, length, []}
use Rattle.sct_delta.specs.TextLines.{lines_by_end}
use Rattle.sct_delta.specs.EntryText.{entries_in}
use Rattle.sct_delta.proofs.text.entries.read_entries.Given as goal

abbrev pub invariant-loop-line : goal.invariant-loop-line
invariant-loop-line l = record {
  counted : l.place + length l.rest ≤ length l.text + 2;
  left : entries_in 2 0 0 [] (lines_by_end l.text) ≡ entries_in l.place l.origin l.n l.entries.items (lines_by_end l.rest);
}

abbrev pub decreases-loop-line : goal.decreases-loop-line
decreases-loop-line l = length l.rest
