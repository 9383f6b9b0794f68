-- Words that could not be read ask for nothing. The request of words that could be read is performed.
use Rattle.std.proofs.Common.{Ok, ap, rules}
use Rattle.sct_engine.specs.Run.{words_told}
use Rattle.sct_engine.proofs.Unasked.{unasked}
use Rattle.sct_engine.proofs.program.answer_words.Goals as goal

pub returns-in_err-words : goal.returns-in_err-words
returns-in_err-words g c =
    unasked _ _ _ _ _ _ _ _ _ (words_told c.args.words) c.in_err-words.field-0.0 _ c.from_residual.result (ap words_told c.in_err-words.was) c.from_residual.ensures.1

pub returns : goal.returns
returns g c = record {
  asked = Ok c.in_ok-request.request;
  prepared = c.perform.ensures.prepared;
  is_asked = search rules;
  is_prepared = c.perform.ensures.is_prepared;
  is_answered = c.perform.ensures.is_answered;
}
