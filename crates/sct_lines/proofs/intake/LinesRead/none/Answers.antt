-- Nothing is read of the empty text.
use Rattle.std.proofs.Common.{[], ◌∙◌, refl, sym}
use Rattle.sct_lines.proofs.LineLemmas.{lines_of_none, messages_of_none, numbered_none, refusals_of_none, told_none, told_plainly}
use Rattle.sct_lines.proofs.intake.LinesRead.none.Goals as goal

pub invariant_of-result : goal.invariant_of-result
invariant_of-result c = (
  record {
    messages = rw (c.none.ensures, lines_of_none, numbered_none, messages_of_none) c.new.ensures.messages;
    told = rw (c.none.ensures, lines_of_none, numbered_none, refusals_of_none) (c.new.ensures.told ∙ sym (told_none []) ∙ told_plainly []);
    refused = rw (c.none.ensures, lines_of_none, numbered_none, refusals_of_none) c.new.ensures.refused;
  },
  rw (c.none.ensures, lines_of_none) refl,
)
