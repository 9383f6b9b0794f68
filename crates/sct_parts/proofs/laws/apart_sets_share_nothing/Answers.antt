-- The law that sets are apart exactly if their messages have nothing in common.
use Rattle.sct_parts.proofs.ApartLemmas.{apart_sets_share_nothing}
use Rattle.sct_parts.proofs.laws.apart_sets_share_nothing.Goals as goal

pub returns : goal.returns
returns c = apart_sets_share_nothing
