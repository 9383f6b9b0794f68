-- The sites so far were filled from their inputs.
use Rattle.std.proofs.Common.{◌≡◌, ◌++◌, length, take}
use Rattle.std.specs.Vec.Iter.{into_iter_items, into_iter_len}
use Rattle.sct_workers.specs.Files.{bytes_of}
use Rattle.sct_workers.specs.Filling.{AreFilled}
use Rattle.sct_workers.proofs.reporting.collect_all.Given as goal

abbrev pub invariant-loop-answer : goal.invariant-loop-answer
invariant-loop-answer l = record {
  rest : l.yielded ++ into_iter_items l.answer-iterator ≡ l.fn.answers.items;
  count : into_iter_len l.answer-iterator ≡ length (into_iter_items l.answer-iterator);
  filled : AreFilled (length l.inputs) (take (length l.yielded) (bytes_of l.inputs)) l.sites;
}
