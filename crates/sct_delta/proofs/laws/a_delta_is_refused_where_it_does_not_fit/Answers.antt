-- The law, from the lemmas.
use Rattle.sct_delta.proofs.FittingLemmas.{refused_where_it_does_not_fit}
use Rattle.sct_delta.proofs.laws.a_delta_is_refused_where_it_does_not_fit.Goals as goal

pub returns : goal.returns
returns c = refused_where_it_does_not_fit
