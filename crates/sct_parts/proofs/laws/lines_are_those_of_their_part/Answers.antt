-- The law that each transfer has the lines of its part.
use Rattle.sct_parts.proofs.TransferLemmas.{lines_of_parts}
use Rattle.sct_parts.proofs.laws.lines_are_those_of_their_part.Goals as goal

pub returns : goal.returns
returns c = lines_of_parts
