-- The place of an element is that of the first that is no object, or no transaction.
use Rattle.sct_json.proofs.Refusals.{place_is_first_no_object, place_is_first_no_transaction}
use Rattle.sct_json.proofs.laws.the_place_reported_is_the_first.Goals as goal

pub returns-clause-no_object : goal.returns-clause-no_object
returns-clause-no_object c = place_is_first_no_object

pub returns-clause-no_transaction : goal.returns-clause-no_transaction
returns-clause-no_transaction c = place_is_first_no_transaction
