-- The definition that reads and the relation that says what is read are one.
use Rattle.sct_element.proofs.AmountTexts.{amount_written, amount_read}
use Rattle.sct_element.proofs.money.amounts_are_exact.Goals as goal

pub returns : goal.returns
returns c = λ s cents. (amount_written s cents, amount_read s cents)
