-- The late messages so far.
use Rattle.sct_message.specs.Sets.{messages_in}
use Rattle.sct_keep.specs.Marks.{AreMarkedMore}
use Rattle.sct_keep.proofs.MarkLemmas.{LateBelow}
use Rattle.sct_keep.proofs.marks.mark_late.Given as goal

abbrev pub invariant-loop-number : goal.invariant-loop-number
invariant-loop-number l = AreMarkedMore (LateBelow l.labels l.day (messages_in l.messages) l.number) l.labels l.initial.marks l.marks
