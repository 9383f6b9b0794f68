-- Those of the transactions so far.
use Rattle.std.proofs.Common.{◌≡◌, filter, take}
use Rattle.sct_message.specs.Recalls.{transfer_in}
use Rattle.sct_rights.specs.Rights.{is_theirs}
use Rattle.sct_rights.proofs.showing.theirs_among.Given as goal

abbrev pub invariant-loop-tx : goal.invariant-loop-tx
invariant-loop-tx l = l.kept.items ≡ filter (λ tx. is_theirs l.banks l.view (transfer_in tx)) (take l.tx-index l.txs)
