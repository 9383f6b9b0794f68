-- The bytes written so far are the front of the text.
use Rattle.std.proofs.Common.{length, ◌-◌, ◌≡◌, ◌≤◌, Some, take}
use Rattle.sct_streams.specs.Stream.{IsWritten}
use Rattle.sct_streams.proofs.whole.write_all.Given as goal

abbrev pub invariant-loop-done : goal.invariant-loop-done
invariant-loop-done g l = record {
  within : l.done ≤ length l.bytes;
  written : IsWritten (g.K.Sink.state l.initial.sink) (g.K.Sink.state l.sink) (Some (take l.done l.bytes));
  empty : length l.bytes ≡ 0 → l.sink ≡ l.initial.sink;
}

abbrev pub decreases-loop-done : goal.decreases-loop-done
decreases-loop-done g l = length l.bytes - l.done
