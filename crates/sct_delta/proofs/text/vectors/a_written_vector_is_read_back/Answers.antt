-- The law of the text of a vector.
use Rattle.sct_delta.proofs.VectorTextLemmas.{counts_same, read_back}
use Rattle.sct_delta.proofs.text.vectors.a_written_vector_is_read_back.Goals as goal

pub returns-clause-read : goal.returns-clause-read
returns-clause-read c = read_back

pub returns-clause-counts : goal.returns-clause-counts
returns-clause-counts c = counts_same
