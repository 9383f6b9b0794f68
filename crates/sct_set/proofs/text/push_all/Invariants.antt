-- The text made so far is that of the lines seen so far.
use Rattle.std.proofs.Common.{◌≡◌, ◌++◌, All, take}
use Rattle.std.specs.List.{flat_map}
use Rattle.sct_set.specs.Archive.{line_of, IsReadAgain}
use Rattle.sct_set.proofs.text.push_all.Given as goal

abbrev pub invariant-loop-line : goal.invariant-loop-line
invariant-loop-line l = record {
  text : l.text.items ≡ l.initial.text.items ++ flat_map line_of (take l.line-index l.lines);
  again : All IsReadAgain (take l.line-index l.lines);
}
