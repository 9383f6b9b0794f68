-- Those before the place have what the first site held, and the first site holds what it held.
use Rattle.std.proofs.Common.{◌≤◌}
use Rattle.sct_world.specs.Settling.{core_in, IsWholeSite}
use Rattle.sct_world.proofs.KeptLemmas.{AreReached}
use Rattle.sct_world.proofs.settling.hand_on.Given as goal

abbrev pub invariant-loop-place : goal.invariant-loop-place
invariant-loop-place l = record {
  reached : AreReached l.initial.cores l.cores l.place;
  whole : IsWholeSite l.whole (core_in l.cores 0);
  first : 1 ≤ l.place;
}
