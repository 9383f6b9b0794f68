-- The law that the transfers of banks are those of the parts.
use Rattle.sct_parts.proofs.TransferLemmas.{transfers_of_parts}
use Rattle.sct_parts.proofs.laws.transfers_of_banks_are_those_of_the_parts.Goals as goal

pub returns : goal.returns
returns c = transfers_of_parts
