-- The law of requests.
use Rattle.sct_requests.proofs.GrantLemmas.{send_in_their_name}
use Rattle.sct_requests.proofs.laws.requests_are_in_their_name.Goals as goal

pub returns : goal.returns
returns c = send_in_their_name
