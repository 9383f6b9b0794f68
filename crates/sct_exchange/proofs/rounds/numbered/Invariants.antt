-- The files so far are numbered.
use Rattle.std.proofs.Common.{◌≡◌, ◌+◌, ◌++◌, length}
use Rattle.std.specs.List.{enumerate_from}
use Rattle.sct_exchange.proofs.rounds.numbered.Given as goal

abbrev pub invariant-loop-file : goal.invariant-loop-file
invariant-loop-file l = record {
  numbered : l.numbered.items ++ enumerate_from l.number l.file-iterator.rest.items ≡ enumerate_from 2 l.fn.files.items;
  count : l.number ≡ 2 + length l.yielded;
}
