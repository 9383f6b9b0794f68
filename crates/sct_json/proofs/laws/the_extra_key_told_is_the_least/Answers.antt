-- The extra key that is told is the least, of the object and of an element.
use Rattle.sct_json.proofs.Refusals.{extra_key_is_least, element_key_is_least}
use Rattle.sct_json.proofs.laws.the_extra_key_told_is_the_least.Goals as goal

pub returns-clause-of_object : goal.returns-clause-of_object
returns-clause-of_object c = extra_key_is_least

pub returns-clause-of_element : goal.returns-clause-of_element
returns-clause-of_element c = element_key_is_least
