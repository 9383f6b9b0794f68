-- So far, what the first transactions say of the transfer.
use Rattle.std.proofs.Common.{◌≡◌, ◌++◌, take}
use Rattle.std.specs.List.{flat_map}
use Rattle.sct_case.specs.Said.{made_in, original_amount_in}
use Rattle.sct_case.proofs.said.push_recalls.Given as goal

abbrev pub invariant-loop-tx : goal.invariant-loop-tx
invariant-loop-tx l = record {
  made : l.made.items ≡ l.initial.made.items ++ flat_map (made_in l.transfer) (take l.tx-index l.txs);
  amounts : l.amounts.items ≡ l.initial.amounts.items ++ flat_map (original_amount_in l.transfer) (take l.tx-index l.txs);
}
