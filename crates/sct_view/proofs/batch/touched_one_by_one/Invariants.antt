-- The transfers touched so far, few for each message.
use Rattle.std.proofs.Common.{◌≡◌, ◌≤◌, ◌*◌, length, take}
use Rattle.std.specs.List.{flat_map}
use Rattle.sct_message.specs.Sets.{messages_in}
use Rattle.sct_view.specs.Changes.{touched_by_one}
use Rattle.sct_view.proofs.batch.touched_one_by_one.Given as goal

abbrev pub invariant-loop-message : goal.invariant-loop-message
invariant-loop-message l = record {
  touched : l.found.items ≡ flat_map (touched_by_one l.held) (messages_in (take l.message-index l.fresh));
  few : length l.found.items ≤ 200 * l.message-index;
}
