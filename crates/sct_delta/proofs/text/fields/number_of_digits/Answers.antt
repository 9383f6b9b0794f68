-- Digits are a text, and they are parsed as their number.
use Rattle.std.proofs.Common.{◌∙◌}
use Rattle.sct_delta.proofs.TextLemmas.{numeral_is_text, numeral_parsed}
use Rattle.sct_delta.proofs.text.fields.number_of_digits.Goals as goal

pub returns-in-Ok : goal.returns-in-Ok
returns-in-Ok c =
    c.ok.ensures.value ∙ numeral_parsed c.args.text.now c.parse.result c.requires (rw c.in-Ok.ensures.cases.0 at c.parse.ensures.value.0)

pub returns-in-Err : goal.returns-in-Err
returns-in-Err c = absurd (c.in-Err.ensures.cases.0 (numeral_is_text c.args.text.now c.requires))
