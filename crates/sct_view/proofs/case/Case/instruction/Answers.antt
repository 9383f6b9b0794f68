-- The instruction is the first where there is one, and there is none where there are more.
use Rattle.std.proofs.Common.{◌∙◌, ap, find, option_map}
use Rattle.std.specs.Arc.{arc_value}
use Rattle.std.specs.List.{count_by}
use Rattle.sct_message.specs.Transfers.{is_instruction}
use Rattle.sct_view.proofs.CaseLemmas.{sole_found, sole_absent}
use Rattle.sct_view.proofs.case.Case.instruction.Goals as goal

pub returns-then-instructions-eq1 : goal.returns-then-instructions-eq1
returns-then-instructions-eq1 c =
    ap (option_map arc_value) (c.first_instruction.ensures ∙ ap (find (λ m. is_instruction (arc_value m))) c.deref-then-instructions-eq1.ensures.value)
    ∙ sole_found arc_value is_instruction c.args.self.now.clean.items c.instructions.result (c.instructions.ensures ∙ ap (count_by (λ m. is_instruction (arc_value m))) c.deref.ensures.value) c.if-instructions-eq1.true

pub returns-else-instructions-eq1 : goal.returns-else-instructions-eq1
returns-else-instructions-eq1 c =
    sole_absent arc_value is_instruction c.args.self.now.clean.items c.instructions.result (c.instructions.ensures ∙ ap (count_by (λ m. is_instruction (arc_value m))) c.deref.ensures.value) c.if-instructions-eq1.false
