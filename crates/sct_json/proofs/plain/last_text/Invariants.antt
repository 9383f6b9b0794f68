-- What is left of the members has the last text that all of them have.
use Rattle.std.proofs.Common.{◌≡◌, ◌≤◌, length}
use Rattle.sct_json.specs.Keys.{key_text}
use Rattle.sct_json.specs.Members.{texts_of}
use Rattle.sct_json.specs.Objects.{last_text}
use Rattle.sct_json.proofs.plain.last_text.Given as goal

abbrev pub decreases-loop-rest : goal.decreases-loop-rest
decreases-loop-rest l = length l.rest

abbrev pub invariant-loop-rest : goal.invariant-loop-rest
invariant-loop-rest l = record {
  same : last_text (key_text l.key) (texts_of l.rest) ≡ last_text (key_text l.key) (texts_of l.members);
  fewer : length l.rest ≤ length l.members;
}
