-- The list's key and the keys after it are of the shape.
use Rattle.sct_json.proofs.PlainLists.{names_kept}
use Rattle.sct_json.proofs.plain_message.has_keys_from.Goals as goal

pub returns-in-Listed : goal.returns-in-Listed
returns-in-Listed c = names_kept c.has_keys_in.result c.args.shape c.in-Some.listed c.args.listed.now c.in-Some.is c.in-Listed.is c.has_keys_in.ensures
