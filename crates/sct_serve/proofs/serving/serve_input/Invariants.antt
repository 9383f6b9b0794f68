-- What was read so far is served, but for what waits for its line feed.
use Rattle.std.proofs.Common.{◌≡◌, ◌≤◌, ◌<◌, IsTrue, length}
use Rattle.sct_journal.specs.Kept.{recorded}
use Rattle.sct_keeper.specs.Keepers.{IsKeeper, keeper_disk, watched_site_of}
use Rattle.sct_serve.specs.Serving.{Served}
use Rattle.sct_serve.proofs.serving.serve_input.Given as goal

abbrev pub invariant-loop : goal.invariant-loop
invariant-loop g l = record {
  keeper : IsKeeper g.D.Disk.seen g.D.Disk.may_leave g.D.Disk.is_usable g.D.Disk.is_clean l.keeper;
  clean : g.D.Disk.is_clean (keeper_disk l.keeper) ≡ g.D.Disk.is_clean (keeper_disk l.fn.keeper);
  room : 0 < length l.piece;
  size : length l.piece ≡ length l.fn.piece;
  served : Served (watched_site_of l.fn.keeper) (watched_site_of l.keeper) (IsTrue (g.D.Disk.is_clean (keeper_disk l.fn.keeper)))
      (recorded (g.D.Disk.seen (keeper_disk l.fn.keeper))) (recorded (g.D.Disk.seen (keeper_disk l.keeper)))
      (g.R.Source.state l.fn.source).left (g.R.Source.state l.source).left (g.K.Sink.state l.fn.sink).held (g.K.Sink.state l.sink).held l.pending.items;
  reads : (g.R.Source.state l.source).failures ≡ (g.R.Source.state l.fn.source).failures;
  writes : (g.K.Sink.state l.sink).failures ≡ (g.K.Sink.state l.fn.sink).failures;
  faults : g.D.Disk.faults (keeper_disk l.fn.keeper) ≤ g.D.Disk.faults (keeper_disk l.keeper);
}
