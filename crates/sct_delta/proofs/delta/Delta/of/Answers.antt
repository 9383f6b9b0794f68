-- What is not refused has the shape of a delta.
use Rattle.std.proofs.Common.{sym}
use Rattle.sct_delta.proofs.ShapeLemmas.{delta_from_no_refusal}
use Rattle.sct_delta.proofs.delta.Delta.of.Goals as goal

pub invariant_of-result : goal.invariant_of-result
invariant_of-result c = delta_from_no_refusal c.args.entries.items (rw c.deref.ensures.value at (sym c.in-None.ensures))

pub returns-in-None-clause-shape : goal.returns-in-None-clause-shape
returns-in-None-clause-shape c = delta_from_no_refusal c.args.entries.items (rw c.deref.ensures.value at (sym c.in-None.ensures))
