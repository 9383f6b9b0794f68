-- A site is started for each of the channel ends so far, and there is room for the others.
use Rattle.std.proofs.Common.{◌≡◌, ◌≤◌, ◌+◌, ◌++◌, length}
use Rattle.std.specs.Prelude.{Some, vec_capacity}
use Rattle.std.specs.List.{slice_get}
use Rattle.std.specs.Vec.Iter.{into_iter_items, into_iter_len}
use Rattle.sct_workers.specs.Each.{AtEach}
use Rattle.sct_workers.specs.Files.{bytes_of}
use Rattle.sct_workers.proofs.sites.start_sites.Given as goal

abbrev pub invariant-loop-own : goal.invariant-loop-own
invariant-loop-own g l = record {
  rest : l.yielded ++ into_iter_items l.own-iterator ≡ l.fn.channels.items;
  count : into_iter_len l.own-iterator ≡ length (into_iter_items l.own-iterator);
  len : length l.children.items ≡ length l.yielded;
  room : length l.inputs ≤ vec_capacity l.children;
  sites : AtEach (λ at child. (child.promise.member.number ≡ at + 1) × (child.promise.member.group ≡ length l.inputs)) l.children.items;
  inputs : AtEach (λ at child. slice_get (bytes_of l.inputs) at ≡ Some child.promise.input.now) l.children.items;
  gate : AtEach (λ at child. child.promise.gate.now ≡ l.run.gate.now) l.children.items;
}
