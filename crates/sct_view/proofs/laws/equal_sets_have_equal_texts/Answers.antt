-- The law that equal sets have equal texts.
use Rattle.sct_view.proofs.LawLemmas.{equal_texts}
use Rattle.sct_view.proofs.laws.equal_sets_have_equal_texts.Goals as goal

pub returns : goal.returns
returns c = equal_texts
