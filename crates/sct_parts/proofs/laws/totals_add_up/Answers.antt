-- The law that totals add up.
use Rattle.sct_parts.proofs.SumsLemmas.{totals_add_up}
use Rattle.sct_parts.proofs.laws.totals_add_up.Goals as goal

pub returns : goal.returns
returns c = totals_add_up
