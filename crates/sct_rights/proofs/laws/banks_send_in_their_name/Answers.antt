-- The law that banks send in their own name.
use Rattle.sct_rights.proofs.SentLemmas.{send_in_their_name}
use Rattle.sct_rights.proofs.laws.banks_send_in_their_name.Goals as goal

pub returns : goal.returns
returns c = send_in_their_name
