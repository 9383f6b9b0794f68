-- The case of a transfer has its instruction.
use Rattle.std.proofs.Common.{◌∙◌, ap, option_map}
use Rattle.std.specs.Arc.{arc_value}
use Rattle.std.specs.Option.{option_copied}
use Rattle.sct_view.specs.Kept.{kept_in, no_messages}
use Rattle.sct_view.proofs.ToldLemmas.{instruction_kept}
use Rattle.sct_view.proofs.view.View.instruction.Goals as goal

pub returns-in_err-case_on : goal.returns-in_err-case_on
returns-in_err-case_on c =
    ap (λ o. option_map arc_value (option_copied o)) c.from_residual.ensures
    ∙ instruction_kept c.args.self.now c.args.transfer.now no_messages c.in_err-case_on.ensures

pub returns : goal.returns
returns c = c.instruction.ensures ∙ instruction_kept c.args.self.now c.args.transfer.now (kept_in c.in_ok-case_on.field-0.now) c.in_ok-case_on.ensures
