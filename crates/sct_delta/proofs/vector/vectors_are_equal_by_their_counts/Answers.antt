-- The test for equal vectors says that they count alike.
use Rattle.sct_delta.specs.VectorLaws.{alike_from_same, same_from_alike}
use Rattle.sct_delta.proofs.vector.vectors_are_equal_by_their_counts.Goals as goal

pub returns : goal.returns
returns c = λ some other. (alike_from_same some other, same_from_alike some other)
