-- The messages of a case name the recalls that the messages held name.
use Rattle.std.proofs.Common.{◌∙◌}
use Rattle.sct_view.specs.Kept.{kept_in}
use Rattle.sct_view.proofs.ToldLemmas.{recalls_kept, no_recalls}
use Rattle.sct_view.proofs.view.View.recalls_of.Goals as goal

pub returns-in_ok-recalls_in-in-Some : goal.returns-in_ok-recalls_in-in-Some
returns-in_ok-recalls_in-in-Some c =
    c.in_ok-recalls_in-in-Some.ensures
    ∙ recalls_kept c.args.self.now c.args.transfer.now (kept_in c.in-Some.case.now) c.in-Some.ensures

pub returns-in-None : goal.returns-in-None
returns-in-None c = c.new.ensures.items ∙ no_recalls c.args.self.now c.args.transfer.now c.in-None.ensures
