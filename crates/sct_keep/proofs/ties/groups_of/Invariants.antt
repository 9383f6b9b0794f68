-- The messages so far.
use Rattle.sct_message.specs.Sets.{messages_in}
use Rattle.sct_keep.proofs.TieLemmas.{AreTiedBelow}
use Rattle.sct_keep.proofs.ties.groups_of.Given as goal

abbrev pub invariant-loop-number : goal.invariant-loop-number
invariant-loop-number l = AreTiedBelow (messages_in l.messages) l.number l.by_identity l.first l.trees
