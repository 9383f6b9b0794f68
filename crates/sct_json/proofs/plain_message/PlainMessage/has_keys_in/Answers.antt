-- Each key before the list is of the shape, and each from there on.
use Rattle.sct_json.proofs.PlainLists.{names_whole}
use Rattle.sct_json.proofs.plain_message.PlainMessage.has_keys_in.Goals as goal

pub returns-then-has_keys_in : goal.returns-then-has_keys_in
returns-then-has_keys_in c = names_whole c.has_keys_from.result c.args.shape c.args.self.now c.if-has_keys_in.ensures c.has_keys_from.ensures
