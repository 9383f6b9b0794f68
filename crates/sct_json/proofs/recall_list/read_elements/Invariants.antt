-- What is left of the elements, read behind those that were read, is what all of them are read as.
use Rattle.std.proofs.Common.{◌≡◌, ◌+◌, ◌++◌, List, map, length, Result, Ok}
use Rattle.sct_message.specs.declared.draft.RecallTx.{RecallTx}
use Rattle.sct_json.specs.declared.faults.JsonFault.{JsonFault}
use Rattle.sct_json.specs.Reading.{◌>>=◌, elements_in}
use Rattle.sct_json.proofs.recall_list.read_elements.Given as goal

abbrev with_front : List RecallTx → Result (List RecallTx) JsonFault → Result (List RecallTx) JsonFault
with_front front read = read >>= λ txs. Ok (front ++ txs)

abbrev pub decreases-loop-element : goal.decreases-loop-element
decreases-loop-element g l = length l.rest

abbrev pub invariant-loop-element : goal.invariant-loop-element
invariant-loop-element g l = record {
  same : with_front l.txs.items (elements_in l.place (map g.E.ListElement.element l.rest)) ≡ elements_in 1 (map g.E.ListElement.element l.elements);
  counted : l.place + length l.rest ≡ length l.elements + 1;
}
