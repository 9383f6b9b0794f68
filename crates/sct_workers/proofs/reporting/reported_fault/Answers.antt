-- The next site.
use Rattle.std.proofs.Common.{◌∙◌, ◌++◌, ◌∷◌, [], List, ap, sym, subst, take}
use Rattle.std.specs.Prelude.{Result}
use Rattle.std.proofs.lemmas.List.{take_more}
use Rattle.sct_workers.specs.declared.fault.SiteFault.{SiteFault}
use Rattle.sct_workers.specs.declared.filled.Filled.{Filled}
use Rattle.sct_workers.specs.Reported.{Reports}
use Rattle.sct_workers.proofs.reporting.reported_fault.Goals as goal

pub loop-answer-preserved : goal.loop-answer-preserved
loop-answer-preserved c =
    subst (λ (answers : List (Result Filled SiteFault)). Reports answers c.report_next-reported.result)
    (sym (take_more c.args.answers.now c.loop-answer.answer-index c.answer-item.result c.loop-answer-test.true
    ∙ ap (λ one. take c.loop-answer.answer-index c.args.answers.now ++ one ∷ []) (sym c.answer-item.is)))
    (c.report_next-reported.ensures (take c.loop-answer.answer-index c.args.answers.now) c.loop-answer.invariant)
