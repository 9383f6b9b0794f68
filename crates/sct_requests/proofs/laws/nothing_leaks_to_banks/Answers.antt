-- The law of requests.
use Rattle.sct_requests.proofs.LeakLemmas.{nothing_leaks_to_banks}
use Rattle.sct_requests.proofs.laws.nothing_leaks_to_banks.Goals as goal

pub returns : goal.returns
returns c = nothing_leaks_to_banks
