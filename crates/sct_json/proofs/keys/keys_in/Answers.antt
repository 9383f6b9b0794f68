-- Each table ascends, and has the keys of its shape and no other.
use Rattle.std.proofs.Common.{◌∙◌, ap, sym}
use Rattle.sct_json.specs.declared.keys.Shape.{Shape}
use Rattle.sct_json.specs.Keys.{is_key_in}
use Rattle.sct_json.proofs.KeyTables.{listed_ascends, listed_is_whole, transaction_ascends, transaction_is_whole}
use Rattle.sct_json.proofs.keys.keys_in.Goals as goal

pub returns-in-Listed-clause-ascend : goal.returns-in-Listed-clause-ascend
returns-in-Listed-clause-ascend c = listed_ascends

pub returns-in-Listed-clause-all : goal.returns-in-Listed-clause-all
returns-in-Listed-clause-all c = λ name. listed_is_whole name ∙ ap (λ (shape : Shape). is_key_in shape name) (sym c.in-Listed.is)

pub returns-in-Transaction-clause-ascend : goal.returns-in-Transaction-clause-ascend
returns-in-Transaction-clause-ascend c = transaction_ascends

pub returns-in-Transaction-clause-all : goal.returns-in-Transaction-clause-all
returns-in-Transaction-clause-all c = λ name. transaction_is_whole name ∙ ap (λ (shape : Shape). is_key_in shape name) (sym c.in-Transaction.is)
