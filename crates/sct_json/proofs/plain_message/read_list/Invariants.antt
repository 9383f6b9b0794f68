-- The transactions that were read stand before what is left of the tokens.
use Rattle.std.proofs.Common.{◌≡◌, length}
use Rattle.sct_json.specs.Objects.{objects_before}
use Rattle.sct_json.proofs.plain_message.read_list.Given as goal

abbrev pub decreases-loop-alloc : goal.decreases-loop-alloc
decreases-loop-alloc l = length l.reader

abbrev pub invariant-loop-alloc : goal.invariant-loop-alloc
invariant-loop-alloc l = l.initial.reader ≡ objects_before l.list.items l.reader
