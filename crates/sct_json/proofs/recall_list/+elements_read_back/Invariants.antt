-- The transactions are fewer at each call.
use Rattle.std.proofs.Common.{length}
use Rattle.sct_json.proofs.recall_list.+elements_read_back.Given as goal

abbrev pub decreases-elements_read_back : goal.decreases-elements_read_back
decreases-elements_read_back l = length l.txs.now
