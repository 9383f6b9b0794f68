-- The pieces of all identities are the archive text of the set, and each message of it is read again.
use Rattle.std.proofs.lemmas.Result.{IfOk-weaker}
use Rattle.sct_set.proofs.GroupLemmas.{all_read_again, all_text}
use Rattle.sct_set.proofs.sorted_archive.archive_pieces.Goals as goal

pub returns-clause-text : goal.returns-clause-text
returns-clause-text g c = IfOk-weaker c.pieces_by_halves.result _ _ (λ pieces written. all_text _ _ _ c.requires written) c.pieces_by_halves.ensures

pub returns-clause-again : goal.returns-clause-again
returns-clause-again g c = IfOk-weaker c.pieces_by_halves.result _ _ (λ pieces written. all_read_again _ _ _ c.requires written) c.pieces_by_halves.ensures
