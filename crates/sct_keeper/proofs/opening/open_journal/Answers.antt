-- A crash while the journal is closed leaves its lines.
use Rattle.std.proofs.Common.{◌∙◌, ap}
use Rattle.sct_journal.specs.Kept.{kept}
use Rattle.sct_keeper.proofs.KeeperLemmas.{left_of_kept}
use Rattle.sct_keeper.proofs.opening.open_journal.Goals as goal

pub returns-in-Ok-close-clause-crash : goal.returns-in-Ok-close-clause-crash
returns-in-Ok-close-clause-crash g c clean f left =
    left_of_kept c.args.header.now (g.D.Disk.seen c.args.disk) (g.D.Disk.seen c.replay.new.opening.disk) f
    (ap kept c.replay.ensures.seen ∙ c.in-Ok.ensures.kept (c.replay.ensures.clean (c.in-Ok-close.ensures.clean clean)))
    (c.in-Ok-close.ensures.crash clean f left)

pub returns-in-Err-close-clause-crash_err : goal.returns-in-Err-close-clause-crash_err
returns-in-Err-close-clause-crash_err g c clean f left =
    left_of_kept c.args.header.now (g.D.Disk.seen c.args.disk) (g.D.Disk.seen c.replay.new.opening.disk) f
    (ap kept c.replay.ensures.seen ∙ c.in-Ok.ensures.kept (c.replay.ensures.clean (c.in-Err-close.ensures.clean_err clean)))
    (c.in-Err-close.ensures.crash_err clean f left)
