-- The keys of a written text ascend.
use Rattle.sct_json.proofs.Texts.{keys_ascend}
use Rattle.sct_json.proofs.laws.the_keys_of_a_written_text_ascend.Goals as goal

pub returns : goal.returns
returns c = keys_ascend
