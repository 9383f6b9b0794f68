-- The law, by its lemma.
use Rattle.sct_delta.proofs.DeltaLemmas.{form_from_read, read_from_form}
use Rattle.sct_delta.proofs.text.laws.a_text_is_read_where_it_is_a_form.Goals as goal

pub returns : goal.returns
returns c = λ bytes entries. (form_from_read bytes entries, read_from_form bytes entries)
