-- The pieces written so far are the front of the text.
use Rattle.std.proofs.Common.{◌≡◌, [], Some, take}
use Rattle.sct_set.specs.Pieces.{joined}
use Rattle.sct_streams.specs.Stream.{IsWritten}
use Rattle.sct_commands.proofs.answers.write_pieces.Given as goal

abbrev pub invariant-loop-piece : goal.invariant-loop-piece
invariant-loop-piece g l = record {
  written : IsWritten (g.K.Sink.state l.initial.sink) (g.K.Sink.state l.sink) (Some (joined (take l.piece-index l.pieces)));
  empty : joined l.pieces ≡ [] → l.sink ≡ l.initial.sink;
}
