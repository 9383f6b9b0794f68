-- The computed list ascends with these members, and no other list does.
use Rattle.sct_message.proofs.AscendingLemmas.{ascending_is_the_list}
use Rattle.sct_message.proofs.order.ascending_is_the_sorted_list.Goals as goal

pub returns : goal.returns
returns g c = λ order total apart keys. ascending_is_the_list total apart keys
