-- The instructions so far.
use Rattle.std.proofs.Common.{◌≡◌, ◌≤◌, take}
use Rattle.std.specs.Arc.{arc_value}
use Rattle.std.specs.List.{count_by}
use Rattle.sct_message.specs.Transfers.{is_instruction}
use Rattle.sct_view.proofs.case.instructions.Given as goal

abbrev pub invariant-loop-message : goal.invariant-loop-message
invariant-loop-message l =
    (l.count ≡ count_by (λ m. is_instruction (arc_value m)) (take l.message-index l.messages)) × (l.count ≤ l.message-index)
