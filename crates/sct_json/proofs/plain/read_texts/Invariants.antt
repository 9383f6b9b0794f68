-- The members that were read stand before what is left of the tokens.
use Rattle.std.proofs.Common.{◌≡◌, length}
use Rattle.sct_json.specs.Members.{texts_of}
use Rattle.sct_json.specs.Objects.{tokens_before}
use Rattle.sct_json.proofs.plain.read_texts.Given as goal

abbrev pub decreases-loop-name : goal.decreases-loop-name
decreases-loop-name l = length l.reader

abbrev pub invariant-loop-name : goal.invariant-loop-name
invariant-loop-name l = l.initial.reader ≡ tokens_before (texts_of l.members.items) l.reader
