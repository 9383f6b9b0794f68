-- The law that each transfer has the row of its part.
use Rattle.sct_parts.proofs.RowLemmas.{rows_of_parts}
use Rattle.sct_parts.proofs.laws.rows_are_those_of_their_part.Goals as goal

pub returns : goal.returns
returns c = rows_of_parts
