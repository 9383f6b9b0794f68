-- The law, by its lemma.
use Rattle.sct_delta.proofs.WritingLemmas.{lines_tile}
use Rattle.sct_delta.proofs.text.laws.lines_make_the_text.Goals as goal

pub returns : goal.returns
returns c = λ bytes lines. lines_tile bytes lines
