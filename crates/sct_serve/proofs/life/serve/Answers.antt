-- The journal did not open.
use Rattle.sct_journal.specs.Kept.{recorded}
use Rattle.sct_serve.specs.Lives.{watched_site_kept}
use Rattle.sct_serve.proofs.LifeLemmas.{life_none, stops_silent}
use Rattle.sct_serve.proofs.PieceLemmas.{short_unread}
use Rattle.sct_serve.proofs.life.serve.Goals as goal

pub returns-in-Err-clause-short_before : goal.returns-in-Err-clause-short_before
returns-in-Err-clause-short_before g c = short_unread (g.R.Source.state c.args.source.now).left 1048576

pub returns-in-Err-clause-crash_err : goal.returns-in-Err-clause-crash_err
returns-in-Err-clause-crash_err g c clean f left =
    life_none (watched_site_kept c.args.number c.args.group (recorded (g.D.Disk.seen c.args.disk))) (recorded (g.D.Disk.seen c.args.disk)) (g.R.Source.state c.args.source.now).left (g.K.Sink.state c.args.sink.now).held f
    (c.in-Err.ensures.crash_err clean f left).same

pub returns-in-Err-clause-stops_err : goal.returns-in-Err-clause-stops_err
returns-in-Err-clause-stops_err g c quiet clean =
    stops_silent (watched_site_kept c.args.number c.args.group (recorded (g.D.Disk.seen c.args.disk))) (recorded (g.D.Disk.seen c.args.disk)) (g.R.Source.state c.args.source.now).left (g.K.Sink.state c.args.sink.now).held _
    (λ f left. (c.in-Err.ensures.crash_err clean f left).same)
