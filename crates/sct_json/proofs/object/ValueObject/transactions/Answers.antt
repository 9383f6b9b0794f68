-- The list is what the value has at TxInf.
use Rattle.std.proofs.Common.{◌∙◌, ap}
use Rattle.std.specs.Prelude.{option_and_then}
use Rattle.sct_json.specs.Reading.{items_of_list}
use Rattle.sct_json.proofs.object.ValueObject.transactions.Goals as goal

pub returns : goal.returns
returns c = λ list e. c.read_list.ensures list (c.items.ensures ∙ ap (option_and_then items_of_list) e)
