-- What is left of the elements has the first that is no object, at its place in the whole.
use Rattle.std.proofs.Common.{◌≡◌, ◌+◌, map, length}
use Rattle.serde_json.specs.View.{view}
use Rattle.sct_json.specs.Reading.{first_no_object}
use Rattle.sct_json.proofs.recall_list.first_no_object.Given as goal

abbrev pub decreases-loop-element : goal.decreases-loop-element
decreases-loop-element l = length l.rest

abbrev pub invariant-loop-element : goal.invariant-loop-element
invariant-loop-element l = record {
  same : first_no_object l.place (map view l.rest) ≡ first_no_object 1 (map view l.elements);
  counted : l.place + length l.rest ≡ length l.elements + 1;
}
