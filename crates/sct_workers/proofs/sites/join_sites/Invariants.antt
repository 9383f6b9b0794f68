-- The sites that were waited for have answered, and there is room for the others.
use Rattle.std.proofs.Common.{◌≡◌, ◌≤◌, ◌++◌, length}
use Rattle.std.specs.Prelude.{IfErr, vec_capacity}
use Rattle.std.specs.Vec.Iter.{into_iter_items, into_iter_len}
use Rattle.sct_workers.specs.Each.{AtEach}
use Rattle.sct_workers.specs.Files.{bytes_of}
use Rattle.sct_workers.specs.Holds.{SiteEndsWhere}
use Rattle.sct_workers.specs.Reported.{AnswersTo}
use Rattle.sct_workers.proofs.sites.join_sites.Given as goal

abbrev pub invariant-loop-child : goal.invariant-loop-child
invariant-loop-child g l = record {
  rest : l.yielded ++ into_iter_items l.child-iterator ≡ l.fn.children.items;
  count : into_iter_len l.child-iterator ≡ length (into_iter_items l.child-iterator);
  len : length l.answers.items ≡ length l.yielded;
  room : length l.inputs ≤ vec_capacity l.answers;
  filled : AtEach (AnswersTo (length l.inputs) (bytes_of l.inputs)) l.answers.items;
  ends : AtEach (λ place answer. IfErr answer (SiteEndsWhere (g.G.Gate.may_hold l.run.gate.now))) l.answers.items;
}
