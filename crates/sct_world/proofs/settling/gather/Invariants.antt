-- The first site has what those before the place held.
use Rattle.sct_world.proofs.KeptLemmas.{AreGathered}
use Rattle.sct_world.proofs.settling.gather.Given as goal

abbrev pub invariant-loop-place : goal.invariant-loop-place
invariant-loop-place l = AreGathered l.initial.cores l.cores l.place
