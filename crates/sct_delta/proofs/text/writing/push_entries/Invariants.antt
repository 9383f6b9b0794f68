-- The lines of the entries so far, and those of the others, make the whole.
use Rattle.std.proofs.Common.{◌≡◌, ◌++◌, length}
use Rattle.std.specs.Prelude.{flat_map}
use Rattle.std.specs.List.{All}
use Rattle.sct_delta.specs.TextLines.{ended}
use Rattle.sct_delta.specs.GroupText.{IsWritable, lines_after}
use Rattle.sct_delta.proofs.text.writing.push_entries.Given as goal

abbrev pub invariant-loop-entry : goal.invariant-loop-entry
invariant-loop-entry l = record {
  written : l.text.items ++ flat_map ended (lines_after l.previous l.rest) ≡ l.initial.text.items ++ flat_map ended (lines_after 0 l.entries);
  reads_back : All IsWritable l.rest → All IsWritable l.entries;
}

abbrev pub decreases-loop-entry : goal.decreases-loop-entry
decreases-loop-entry l = length l.rest
