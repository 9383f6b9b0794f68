-- An empty list has no repeat.
use Rattle.sct_set.proofs.ContentsLemmas.{HasNoRepeat-none}
use Rattle.sct_set.proofs.archive.Archive.new.Goals as goal

pub invariant_of-result : goal.invariant_of-result
invariant_of-result c = rw c.new.ensures HasNoRepeat-none
