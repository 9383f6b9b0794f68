-- What each exit leaves.
use Rattle.std.proofs.Common.{◌≡◌, ◌∙◌, ap, sym, subst, IsTrue, List, ℕ, arith, length, rules}
use Rattle.sct_journal.specs.Kept.{recorded}
use Rattle.sct_keeper.specs.Keepers.{keeper_disk, watched_site_of}
use Rattle.sct_serve.proofs.LifeLemmas.{life_early, life_from, life_greeted, stops_from, stops_greeted, stops_silent_alike, written_from}
use Rattle.sct_serve.proofs.PieceLemmas.{short_unread, short_within}
use Rattle.sct_streams.specs.Stream.{Output}
use Rattle.sct_serve.proofs.life.greet_and_serve.Goals as goal

pub returns-in_err-greet-clause-crash : goal.returns-in_err-greet-clause-crash
returns-in_err-greet-clause-crash g c clean f left =
    life_early (watched_site_of c.args.keeper.now) (recorded (g.D.Disk.seen (keeper_disk c.args.keeper.now))) (g.R.Source.state c.args.source.now).left (g.K.Sink.state c.args.sink.now).held (g.K.Sink.state c.greet.new.sink).held f
    (ap recorded (c.greet.ensures.keeper.settled.durable f left) ∙ ap (λ d. recorded (g.D.Disk.seen d)) c.greet.ensures.disk) c.in_err-greet.ensures.cut_off

pub returns-in_err-greet-clause-short_before : goal.returns-in_err-greet-clause-short_before
returns-in_err-greet-clause-short_before g c = short_unread (g.R.Source.state c.args.source.now).left 1048576

pub returns-in_err-piece-clause-short_before : goal.returns-in_err-piece-clause-short_before
returns-in_err-piece-clause-short_before g c = short_unread (g.R.Source.state c.args.source.now).left 1048576

pub returns-in_err-serve_input-clause-short_before : goal.returns-in_err-serve_input-clause-short_before
returns-in_err-serve_input-clause-short_before g c =
    let lent : c.deref_mut.result.now ≡ c.in_ok-piece.piece.items = search rules in
    short_within _ _ _ _ (omega (arith, c.in_ok-piece.ensures, ap length lent)) c.serve_input.ensures.short_before

pub returns-clause-short_before : goal.returns-clause-short_before
returns-clause-short_before g c =
    let lent : c.deref_mut.result.now ≡ c.in_ok-piece.piece.items = search rules in
    short_within _ _ _ _ (omega (arith, c.in_ok-piece.ensures, ap length lent)) c.serve_input.ensures.short_before

pub returns-in_err-piece-clause-crash : goal.returns-in_err-piece-clause-crash
returns-in_err-piece-clause-crash g c clean f left =
    life_greeted (watched_site_of c.args.keeper.now) (recorded (g.D.Disk.seen (keeper_disk c.args.keeper.now))) (g.R.Source.state c.args.source.now).left (g.K.Sink.state c.args.sink.now).held (g.K.Sink.state c.greet.new.sink).held f
    (ap recorded (c.greet.ensures.keeper.settled.durable f left) ∙ ap (λ d. recorded (g.D.Disk.seen d)) c.greet.ensures.disk) c.in_ok-greet.ensures.written

pub returns-in_err-serve_input-clause-crash : goal.returns-in_err-serve_input-clause-crash
returns-in_err-serve_input-clause-crash g c clean f left =
    life_from (watched_site_of c.args.keeper.now) (watched_site_of c.greet.new.keeper) (recorded (g.D.Disk.seen (keeper_disk c.args.keeper.now))) (recorded (g.D.Disk.seen (keeper_disk c.greet.new.keeper)))
    (g.R.Source.state c.args.source.now).left (g.R.Source.state c.serve_input.new.source).left (g.K.Sink.state c.args.sink.now).held (g.K.Sink.state c.greet.new.sink).held (g.K.Sink.state c.serve_input.new.sink).held f
    c.greet.ensures.watched_site (ap (λ d. recorded (g.D.Disk.seen d)) c.greet.ensures.disk) c.in_ok-greet.ensures.written
    (c.serve_input.ensures.crash (subst (λ d. IsTrue (g.D.Disk.is_clean d)) (sym c.greet.ensures.disk) clean) f left)

pub returns-clause-crash : goal.returns-clause-crash
returns-clause-crash g c clean f left =
    life_from (watched_site_of c.args.keeper.now) (watched_site_of c.greet.new.keeper) (recorded (g.D.Disk.seen (keeper_disk c.args.keeper.now))) (recorded (g.D.Disk.seen (keeper_disk c.greet.new.keeper)))
    (g.R.Source.state c.args.source.now).left (g.R.Source.state c.serve_input.new.source).left (g.K.Sink.state c.args.sink.now).held (g.K.Sink.state c.greet.new.sink).held (g.K.Sink.state c.serve_input.new.sink).held f
    c.greet.ensures.watched_site (ap (λ d. recorded (g.D.Disk.seen d)) c.greet.ensures.disk) c.in_ok-greet.ensures.written
    (c.serve_input.ensures.crash (subst (λ d. IsTrue (g.D.Disk.is_clean d)) (sym c.greet.ensures.disk) clean) f left)

pub returns-clause-replies : goal.returns-clause-replies
returns-clause-replies g c =
    written_from (watched_site_of c.args.keeper.now) (watched_site_of c.greet.new.keeper) (g.R.Source.state c.args.source.now).left
    (g.K.Sink.state c.args.sink.now).held (g.K.Sink.state c.greet.new.sink).held (g.K.Sink.state c.serve_input.new.sink).held
    c.greet.ensures.watched_site c.in_ok-greet.ensures.written c.in_ok-serve_input.ensures.replies

pub returns-in_err-greet-clause-stops : goal.returns-in_err-greet-clause-stops
returns-in_err-greet-clause-stops g c quiet clean =
    let alike = ap (λ (o : Output). o.held) (c.in_err-greet.ensures.unwritten quiet) in
    let s = watched_site_of c.args.keeper.now in
    let before = recorded (g.D.Disk.seen (keeper_disk c.args.keeper.now)) in
    let unread = (g.R.Source.state c.args.source.now).left in
    let held = (g.K.Sink.state c.args.sink.now).held in
    stops_silent_alike s before unread held (g.K.Sink.state c.greet.new.sink).held _ alike
    (λ f left. ap recorded (c.greet.ensures.keeper.settled.durable f left) ∙ ap (λ d. recorded (g.D.Disk.seen d)) c.greet.ensures.disk)

pub returns-in_err-piece-clause-stops : goal.returns-in_err-piece-clause-stops
returns-in_err-piece-clause-stops g c quiet clean =
    stops_greeted (watched_site_of c.args.keeper.now) (recorded (g.D.Disk.seen (keeper_disk c.args.keeper.now))) (g.R.Source.state c.args.source.now).left (g.K.Sink.state c.args.sink.now).held (g.K.Sink.state c.greet.new.sink).held _ c.in_ok-greet.ensures.written
    (λ f left. ap recorded (c.greet.ensures.keeper.settled.durable f left) ∙ ap (λ d. recorded (g.D.Disk.seen d)) c.greet.ensures.disk)

pub returns-in_err-serve_input-clause-stops : goal.returns-in_err-serve_input-clause-stops
returns-in_err-serve_input-clause-stops g c quiet clean =
    let lent : c.deref_mut.result.now ≡ c.in_ok-piece.piece.items = search rules in
    stops_from (watched_site_of c.args.keeper.now) (watched_site_of c.greet.new.keeper) (recorded (g.D.Disk.seen (keeper_disk c.args.keeper.now))) (recorded (g.D.Disk.seen (keeper_disk c.greet.new.keeper)))
    (g.R.Source.state c.args.source.now).left (g.R.Source.state c.serve_input.new.source).left (g.K.Sink.state c.args.sink.now).held (g.K.Sink.state c.greet.new.sink).held (g.K.Sink.state c.serve_input.new.sink).held _ _
    c.greet.ensures.watched_site (ap (λ d. recorded (g.D.Disk.seen d)) c.greet.ensures.disk) c.in_ok-greet.ensures.written
    (omega (arith, c.in_ok-piece.ensures, ap length lent)) (c.serve_input.ensures.stops (omega (arith, quiet, c.in_ok-greet.ensures.quiet)) (subst (λ d. IsTrue (g.D.Disk.is_clean d)) (sym c.greet.ensures.disk) clean))

pub returns-clause-stops : goal.returns-clause-stops
returns-clause-stops g c quiet clean =
    let lent : c.deref_mut.result.now ≡ c.in_ok-piece.piece.items = search rules in
    stops_from (watched_site_of c.args.keeper.now) (watched_site_of c.greet.new.keeper) (recorded (g.D.Disk.seen (keeper_disk c.args.keeper.now))) (recorded (g.D.Disk.seen (keeper_disk c.greet.new.keeper)))
    (g.R.Source.state c.args.source.now).left (g.R.Source.state c.serve_input.new.source).left (g.K.Sink.state c.args.sink.now).held (g.K.Sink.state c.greet.new.sink).held (g.K.Sink.state c.serve_input.new.sink).held _ _
    c.greet.ensures.watched_site (ap (λ d. recorded (g.D.Disk.seen d)) c.greet.ensures.disk) c.in_ok-greet.ensures.written
    (omega (arith, c.in_ok-piece.ensures, ap length lent)) (c.serve_input.ensures.stops (omega (arith, quiet, c.in_ok-greet.ensures.quiet)) (subst (λ d. IsTrue (g.D.Disk.is_clean d)) (sym c.greet.ensures.disk) clean))
