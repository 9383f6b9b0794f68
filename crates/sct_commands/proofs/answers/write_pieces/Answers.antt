-- A piece more is written, or cut off behind those before it.
use Rattle.std.proofs.Common.{◌∙◌, Some, subst, arith}
use Rattle.std.proofs.lemmas.List.{take_all}
use Rattle.sct_set.specs.Pieces.{joined}
use Rattle.sct_streams.specs.Stream.{IsCutOff, IsWritten}
use Rattle.sct_commands.proofs.PieceLemmas.{never, piece_written, piece_cut_off, piece_empty}
use Rattle.sct_commands.proofs.Prefixes.{on_err}
use Rattle.sct_commands.proofs.answers.write_pieces.Goals as goal

pub loop-piece-preserved : goal.loop-piece-preserved
loop-piece-preserved g c =
    let now = c.in_ok-write_all.ensures in
    record {
      written =
          piece_written _ _ _ c.args.pieces.now c.loop-piece.piece-index c.piece-item.result c.loop-piece-test.true c.piece-item.is c.loop-piece.invariant.written
          (subst (λ bytes. IsWritten (g.K.Sink.state c.loop-piece.sink) (g.K.Sink.state c.write_all.new.sink) (Some bytes)) c.deref.ensures.value now.all);
      empty = λ none.
          (now.empty (c.deref.ensures.value ∙ piece_empty c.args.pieces.now c.loop-piece.piece-index c.piece-item.result c.loop-piece-test.true c.piece-item.is none)).1
          ∙ c.loop-piece.invariant.empty none;
    }

pub returns-in_err-write_all-clause-prefix : goal.returns-in_err-write_all-clause-prefix
returns-in_err-write_all-clause-prefix g c =
    on_err c.from_residual.result _
    (piece_cut_off _ _ _ c.args.pieces.now c.loop-piece.piece-index c.piece-item.result c.loop-piece-test.true c.piece-item.is c.loop-piece.invariant.written
    (subst (λ bytes. IsCutOff (g.K.Sink.state c.loop-piece.sink) (g.K.Sink.state c.write_all.new.sink) (Some bytes)) c.deref.ensures.value c.in_err-write_all.ensures.prefix))

pub returns-in_err-write_all-clause-empty : goal.returns-in_err-write_all-clause-empty
returns-in_err-write_all-clause-empty g c = λ none.
    never _ (c.in_err-write_all.ensures.empty (c.deref.ensures.value ∙ piece_empty c.args.pieces.now c.loop-piece.piece-index c.piece-item.result c.loop-piece-test.true c.piece-item.is none)).0

pub returns-clause-all : goal.returns-clause-all
returns-clause-all g c =
    subst (λ ps. IsWritten (g.K.Sink.state c.args.sink.now) (g.K.Sink.state c.loop-piece.sink) (Some (joined ps)))
    (take_all c.loop-piece.piece-index c.args.pieces.now (omega arith)) c.loop-piece.invariant.written
