-- Reading of bytes never reports out of memory.
use Rattle.sct_json.proofs.Refusals.{memory_is_not_told}
use Rattle.sct_json.proofs.laws.reading_never_wants_memory.Goals as goal

pub returns : goal.returns
returns c = memory_is_not_told
