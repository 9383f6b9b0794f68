-- What is left decides.
use Rattle.std.proofs.Common.{◌≡◌, ◌+◌, ◌≤◌, ◌<◌, ◌^◌, length, []}
use Rattle.sct_delta.specs.GroupText.{groups_in}
use Rattle.sct_delta.specs.TextLines.{lines_by_end}
use Rattle.sct_delta.proofs.text.groups.read_groups.Given as goal

abbrev pub invariant-loop-line : goal.invariant-loop-line
invariant-loop-line l = record {
  counted : l.place + length l.rest ≤ length l.text + 2;
  fits : l.before + l.due < 2 ^ 64;
  left : groups_in 2 0 1 0 [] (lines_by_end l.text) ≡ groups_in l.place l.origin (l.before + 1) l.due l.entries.items (lines_by_end l.rest);
}

abbrev pub decreases-loop-line : goal.decreases-loop-line
decreases-loop-line l = length l.rest
