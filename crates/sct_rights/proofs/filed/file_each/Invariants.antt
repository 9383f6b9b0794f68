-- The message is filed under its first transfers.
use Rattle.std.specs.Arc.{arc_value}
use Rattle.sct_message.specs.declared.draft.Draft.{Draft}
use Rattle.std.proofs.Common.{List}
use Rattle.sct_view.specs.Filed.{IsFiledBy}
use Rattle.sct_view.proofs.FiledLemmas.{IsFiledUpTo}
use Rattle.sct_rights.proofs.filed.file_each.Given as goal

abbrev pub invariant-loop-i : goal.invariant-loop-i
invariant-loop-i l = (ms : List Draft) → IsFiledBy l.initial.index ms → IsFiledUpTo l.i (arc_value l.message) l.index ms
