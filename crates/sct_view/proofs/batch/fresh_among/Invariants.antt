-- The fresh messages so far.
use Rattle.std.proofs.Common.{◌≡◌, take}
use Rattle.sct_message.specs.Sets.{messages_in}
use Rattle.sct_set.specs.Contents.{contents_of}
use Rattle.sct_view.specs.Touched.{fresh_of}
use Rattle.sct_view.proofs.batch.fresh_among.Given as goal

abbrev pub invariant-loop-message : goal.invariant-loop-message
invariant-loop-message l = l.fresh ≡ fresh_of l.held (contents_of (messages_in (take l.message-index l.batch)))
