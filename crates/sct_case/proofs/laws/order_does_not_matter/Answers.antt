-- The same messages in any order give the same answers.
use Rattle.sct_case.proofs.AnyOrder.{answers_in_any_order}
use Rattle.sct_case.proofs.laws.order_does_not_matter.Goals as goal

pub returns : goal.returns
returns c = answers_in_any_order
