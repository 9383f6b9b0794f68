-- What no message touches stays.
use Rattle.sct_embed.proofs.WatchLemmas.{others_keep}
use Rattle.sct_embed.proofs.laws.other_transfers_keep_their_lines.Goals as goal

pub returns : goal.returns
returns c = others_keep
