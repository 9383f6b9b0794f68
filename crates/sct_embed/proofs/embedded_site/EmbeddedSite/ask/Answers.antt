-- A report is the answer to the question for it.
use Rattle.std.proofs.Common.{subst, sym}
use Rattle.sct_embed.specs.Asking.{answer_to_question}
use Rattle.sct_embed.specs.Questions.{Answers}
use Rattle.sct_embed.specs.declared.question.Question.{Question}
use Rattle.sct_embed.proofs.embedded_site.EmbeddedSite.ask.Goals as goal

pub returns-in-Report-clause-answer : goal.returns-in-Report-clause-answer
returns-in-Report-clause-answer c =
    subst (λ (question : Question). Answers (answer_to_question question c.args.self.now) c.report.result c.report.new.self.answer)
    (sym c.in-Report.is) c.report.ensures.answer
