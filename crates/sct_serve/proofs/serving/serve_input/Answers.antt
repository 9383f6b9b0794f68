-- A piece more.
use Rattle.std.proofs.Common.{◌∙◌, ap, sym, subst, IsTrue, List, [], ℕ, arith, length, length-take-le}
use Rattle.sct_streams.specs.Stream.{HasReadIfTold}
use Rattle.sct_journal.specs.Kept.{recorded}
use Rattle.sct_keeper.specs.Keepers.{keeper_disk, watched_site_of}
use Rattle.sct_serve.proofs.LeaveLemmas.{replied_under}
use Rattle.sct_serve.proofs.PieceLemmas.{leaves_on, no_read, served_all, served_end, served_more, short_all, short_until, stops_on, stops_still, too_long_on}
use Rattle.sct_streams.proofs.StreamLemmas.{end_on, read_nothing, read_zero}
use Rattle.sct_serve.proofs.serving.serve_input.Goals as goal

pub returns-then-n-eq0-clause-replies : goal.returns-then-n-eq0-clause-replies
returns-then-n-eq0-clause-replies g c =
    let given = read_zero (g.R.Source.state c.loop.source).left (g.R.Source.state c.read_piece.new.source).left c.in_ok-n.n c.read_piece.new.piece c.in_ok-n.ensures.read c.if-n-eq0.true in
    served_all _ _ _ _ _ _ _ _ _ _ (served_end _ _ _ _ _ _ _ (g.R.Source.state c.read_piece.new.source).left _ _ _ c.loop.invariant.served given)
    (end_on (g.R.Source.state c.args.source.now).left (g.R.Source.state c.loop.source).left (g.R.Source.state c.read_piece.new.source).left c.loop.invariant.served.read c.loop.invariant.served.taken (c.in_ok-n.ensures.end c.if-n-eq0.true))

pub returns-then-n-eq0-clause-short : goal.returns-then-n-eq0-clause-short
returns-then-n-eq0-clause-short g c =
    let given = read_zero (g.R.Source.state c.loop.source).left (g.R.Source.state c.read_piece.new.source).left c.in_ok-n.n c.read_piece.new.piece c.in_ok-n.ensures.read c.if-n-eq0.true in
    short_all _ _ _ _ _ _ _ _ _ _ (served_end _ _ _ _ _ _ _ (g.R.Source.state c.read_piece.new.source).left _ _ _ c.loop.invariant.served given)
    (end_on (g.R.Source.state c.args.source.now).left (g.R.Source.state c.loop.source).left (g.R.Source.state c.read_piece.new.source).left c.loop.invariant.served.read c.loop.invariant.served.taken (c.in_ok-n.ensures.end c.if-n-eq0.true))

pub returns-in_err-n-clause-short_before : goal.returns-in_err-n-clause-short_before
returns-in_err-n-clause-short_before g c =
    short_until _ _ _ _ _ _ _ (g.R.Source.state c.read_piece.new.source).left _ _ _ [] _ c.loop.invariant.served c.in_err-n.ensures.failed (omega arith)

pub returns-in-Err-clause-short_before : goal.returns-in-Err-clause-short_before
returns-in-Err-clause-short_before g c =
    let mid = (g.R.Source.state c.loop.source).left in
    let after = (g.R.Source.state c.read_piece.new.source).left in
    let given : HasReadIfTold mid after c.split_at.result.0.now = subst (λ (l : List ℕ). HasReadIfTold mid after l) (sym c.split_at.ensures.front) c.in_ok-n.ensures.read in
    short_until _ _ _ _ _ _ _ after _ _ _ c.split_at.result.0.now _ c.loop.invariant.served given
    (omega (arith, ap length c.split_at.ensures.front, length-take-le c.in_ok-n.n c.read_piece.new.piece c.in_ok-n.ensures.fits, c.in_ok-n.ensures.fits, c.read_piece.ensures.room, c.loop.invariant.size))

pub returns-in-Err-clause-too_long : goal.returns-in-Err-clause-too_long
returns-in-Err-clause-too_long g c told =
    let mid = (g.R.Source.state c.loop.source).left in
    let after = (g.R.Source.state c.read_piece.new.source).left in
    let given : HasReadIfTold mid after c.split_at.result.0.now = subst (λ (l : List ℕ). HasReadIfTold mid after l) (sym c.split_at.ensures.front) c.in_ok-n.ensures.read in
    let long = c.in-Err.ensures.too_long told in
    too_long_on _ _ _ _ _ _ _ after _ _ _ c.split_at.result.0.now long.0 c.loop.invariant.served given long.1.0 long.1.1

pub returns-in-Err-clause-crash : goal.returns-in-Err-clause-crash
returns-in-Err-clause-crash g c clean f left =
    let mid = (g.R.Source.state c.loop.source).left in
    let after = (g.R.Source.state c.read_piece.new.source).left in
    let given : HasReadIfTold mid after c.split_at.result.0.now = subst (λ (l : List ℕ). HasReadIfTold mid after l) (sym c.split_at.ensures.front) c.in_ok-n.ensures.read in
    let here : IsTrue (g.D.Disk.is_clean (keeper_disk c.loop.keeper)) = subst (λ b. IsTrue b) (sym c.loop.invariant.clean) clean in
    leaves_on _ _ _ _ _ _ _ after _ _ (g.K.Sink.state c.take_piece.new.sink).held _ c.split_at.result.0.now f c.loop.invariant.served clean given (c.take_piece.ensures.crash here f left)

pub returns-in-Err-clause-failed_reads : goal.returns-in-Err-clause-failed_reads
returns-in-Err-clause-failed_reads g c =
    let none = no_read c.in-Err.fault c.in-Err.ensures.errors in
    omega (arith, c.in_ok-n.ensures.quiet, c.loop.invariant.reads, none)

pub loop-preserved : goal.loop-preserved
loop-preserved g c =
    let mid = (g.R.Source.state c.loop.source).left in
    let after = (g.R.Source.state c.read_piece.new.source).left in
    let given : HasReadIfTold mid after c.split_at.result.0.now = subst (λ (l : List ℕ). HasReadIfTold mid after l) (sym c.split_at.ensures.front) c.in_ok-n.ensures.read in
    let first = IsTrue (g.D.Disk.is_clean (keeper_disk c.args.keeper.now)) in
    let here : first → IsTrue (g.D.Disk.is_clean (keeper_disk c.loop.keeper)) = λ clean. subst (λ b. IsTrue b) (sym c.loop.invariant.clean) clean in
    record {
      keeper = c.in_default.ensures.keeper;
      clean = c.take_piece.ensures.clean ∙ c.loop.invariant.clean;
      room = omega (arith, c.read_piece.ensures.room, c.loop.invariant.room);
      size = c.read_piece.ensures.room ∙ c.loop.invariant.size;
      served =
          served_more (watched_site_of c.args.keeper.now) (watched_site_of c.loop.keeper) (watched_site_of c.take_piece.new.keeper) first
          (recorded (g.D.Disk.seen (keeper_disk c.args.keeper.now))) (recorded (g.D.Disk.seen (keeper_disk c.loop.keeper))) (recorded (g.D.Disk.seen (keeper_disk c.take_piece.new.keeper)))
          _ _ after _ _ (g.K.Sink.state c.take_piece.new.sink).held _ c.split_at.result.0.now c.take_piece.new.pending.items
          c.loop.invariant.served given (replied_under _ _ _ first _ _ _ _ _ here c.in_default.ensures.replied) c.in_default.ensures.waits c.in_default.ensures.within c.in_default.ensures.short;
      reads = c.in_ok-n.ensures.quiet ∙ c.loop.invariant.reads;
      writes = c.in_default.ensures.quiet ∙ c.loop.invariant.writes;
      faults = omega (arith, c.loop.invariant.faults, c.take_piece.ensures.faults);
    }

pub returns-in_err-n-clause-stops : goal.returns-in_err-n-clause-stops
returns-in_err-n-clause-stops g c quiet clean =
    stops_still _ _ _ _ _ _ _ (g.R.Source.state c.read_piece.new.source).left _ _ _ _ _ c.loop.invariant.served clean c.in_err-n.ensures.failed
    (λ f left. ap recorded (c.loop.invariant.keeper.settled.durable f left))

pub returns-in-Err-clause-stops : goal.returns-in-Err-clause-stops
returns-in-Err-clause-stops g c quiet clean =
    let mid = (g.R.Source.state c.loop.source).left in
    let after = (g.R.Source.state c.read_piece.new.source).left in
    let given : HasReadIfTold mid after c.split_at.result.0.now = subst (λ (l : List ℕ). HasReadIfTold mid after l) (sym c.split_at.ensures.front) c.in_ok-n.ensures.read in
    let here : IsTrue (g.D.Disk.is_clean (keeper_disk c.loop.keeper)) = subst (λ b. IsTrue b) (sym c.loop.invariant.clean) clean in
    stops_on _ _ _ _ _ _ _ after _ _ (g.K.Sink.state c.take_piece.new.sink).held _ c.split_at.result.0.now _ _ c.loop.invariant.served clean given
    (omega (arith, ap length c.split_at.ensures.front, length-take-le c.in_ok-n.n c.read_piece.new.piece c.in_ok-n.ensures.fits, c.in_ok-n.ensures.fits, c.read_piece.ensures.room, c.loop.invariant.size))
    (c.take_piece.ensures.stops (omega (arith, quiet, c.loop.invariant.writes)) here)

pub returns-then-n-eq0-clause-short_before : goal.returns-then-n-eq0-clause-short_before
returns-then-n-eq0-clause-short_before g c =
    let given = read_zero (g.R.Source.state c.loop.source).left (g.R.Source.state c.read_piece.new.source).left c.in_ok-n.n c.read_piece.new.piece c.in_ok-n.ensures.read c.if-n-eq0.true in
    short_until _ _ _ _ _ _ _ (g.R.Source.state c.read_piece.new.source).left _ _ _ [] _ c.loop.invariant.served given (omega arith)

pub returns-then-n-eq0-clause-stops : goal.returns-then-n-eq0-clause-stops
returns-then-n-eq0-clause-stops g c quiet clean =
    let given = read_zero (g.R.Source.state c.loop.source).left (g.R.Source.state c.read_piece.new.source).left c.in_ok-n.n c.read_piece.new.piece c.in_ok-n.ensures.read c.if-n-eq0.true in
    stops_still _ _ _ _ _ _ _ (g.R.Source.state c.read_piece.new.source).left _ _ _ _ _ c.loop.invariant.served clean given
    (λ f left. ap recorded (c.loop.invariant.keeper.settled.durable f left))

pub returns-clause-short_before : goal.returns-clause-short_before
returns-clause-short_before g c =
    short_until _ _ _ _ _ _ _ (g.R.Source.state c.loop.source).left _ _ _ [] _ c.loop.invariant.served (read_nothing (g.R.Source.state c.loop.source).left) (omega arith)

pub returns-clause-stops : goal.returns-clause-stops
returns-clause-stops g c quiet clean =
    stops_still _ _ _ _ _ _ _ (g.R.Source.state c.loop.source).left _ _ _ _ _ c.loop.invariant.served clean (read_nothing (g.R.Source.state c.loop.source).left)
    (λ f left. ap recorded (c.loop.invariant.keeper.settled.durable f left))
