-- The messages so far.
use Rattle.std.proofs.Common.{not}
use Rattle.sct_message.specs.Sets.{messages_in}
use Rattle.sct_keep.specs.Marks.{is_marked}
use Rattle.sct_keep.proofs.SplitLemmas.{AreLabelledBelow}
use Rattle.sct_keep.proofs.splitting.split_by.Given as goal

abbrev pub invariant-loop-number : goal.invariant-loop-number
invariant-loop-number l = AreLabelledBelow l.number (messages_in l.messages) l.labels (is_marked l.marks) (messages_in l.kept.items)
    × AreLabelledBelow l.number (messages_in l.messages) l.labels (λ n. not (is_marked l.marks n)) (messages_in l.closed.items)
