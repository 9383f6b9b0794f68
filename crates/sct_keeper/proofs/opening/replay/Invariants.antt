-- The site was given the lines that were read.
use Rattle.std.proofs.Common.{◌≡◌, ◌≤◌, ◌-◌, IsTrue, List, ℕ, take}
use Rattle.sct_journal.specs.Kept.{kept}
use Rattle.sct_journal.specs.Openings.{IsOpening, opening_disk, opening_end, opening_len}
use Rattle.sct_keeper.specs.Replays.{IsReplayed}
use Rattle.sct_keeper.proofs.opening.replay.Given as goal

abbrev pub invariant-loop-text : goal.invariant-loop-text
invariant-loop-text g l = record {
  opening : IsOpening g.D.Disk.seen g.D.Disk.may_leave g.D.Disk.is_usable g.D.Disk.is_clean l.opening;
  site : IsTrue (g.D.Disk.is_clean (opening_disk l.opening)) → IsReplayed l.fn.site.core l.site.core
      (kept (take (opening_end l.fn.opening) (g.D.Disk.seen (opening_disk l.fn.opening)))) (kept (take (opening_end l.opening) (g.D.Disk.seen (opening_disk l.opening))));
  watched : l.site.watched ≡ l.fn.site.watched;
  seen : g.D.Disk.seen (opening_disk l.opening) ≡ g.D.Disk.seen (opening_disk l.fn.opening);
  crash : (c : List ℕ) → g.D.Disk.may_leave (opening_disk l.opening) c → g.D.Disk.may_leave (opening_disk l.fn.opening) c;
  clean : IsTrue (g.D.Disk.is_clean (opening_disk l.opening)) → IsTrue (g.D.Disk.is_clean (opening_disk l.fn.opening));
  faults : g.D.Disk.faults (opening_disk l.fn.opening) ≤ g.D.Disk.faults (opening_disk l.opening);
}

abbrev pub decreases-loop-text : goal.decreases-loop-text
decreases-loop-text g l = opening_len l.opening - opening_end l.opening
