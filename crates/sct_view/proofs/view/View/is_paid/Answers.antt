-- The case of a transfer has its instruction.
use Rattle.std.proofs.Common.{◌∙◌, ap}
use Rattle.sct_view.specs.Answers.{is_beneficiary}
use Rattle.sct_view.specs.Kept.{kept_in, no_messages}
use Rattle.sct_view.proofs.ToldLemmas.{instruction_kept}
use Rattle.sct_view.proofs.view.View.is_paid.Goals as goal

pub returns-in-Some : goal.returns-in-Some
returns-in-Some c =
    c.is_beneficiary.ensures
    ∙ ap (is_beneficiary c.args.bank.now)
    (instruction_kept c.args.self.now c.args.transfer.now (kept_in c.in-Some.case.now) c.in-Some.ensures)

pub returns-in-None : goal.returns-in-None
returns-in-None c =
    ap (is_beneficiary c.args.bank.now) (instruction_kept c.args.self.now c.args.transfer.now no_messages c.in-None.ensures)
