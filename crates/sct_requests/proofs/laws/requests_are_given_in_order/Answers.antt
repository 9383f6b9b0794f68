-- The law of requests.
use Rattle.sct_requests.proofs.GrantLemmas.{given_in_order}
use Rattle.sct_requests.proofs.laws.requests_are_given_in_order.Goals as goal

pub returns : goal.returns
returns c = given_in_order
