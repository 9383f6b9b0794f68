-- The end that is cut off.
use Rattle.sct_journal.proofs.RecoverLemmas.{trimmed}
use Rattle.sct_journal.proofs.settling.trim.Goals as goal

pub returns-clause-rest : goal.returns-clause-rest
returns-clause-rest g c rest = (trimmed (g.D.Disk.seen c.args.disk.now) (g.D.Disk.seen c.cut.new.disk) c.args.end rest c.in_ok-cut.ensures.cut).0

pub returns-clause-same : goal.returns-clause-same
returns-clause-same g c rest = (trimmed (g.D.Disk.seen c.args.disk.now) (g.D.Disk.seen c.cut.new.disk) c.args.end rest c.in_ok-cut.ensures.cut).1

pub returns-clause-crash : goal.returns-clause-crash
returns-clause-crash g c rest f left = (trimmed (g.D.Disk.seen c.args.disk.now) f c.args.end rest (c.cut.ensures.crash f left)).1

pub returns-in_err-cut-clause-crash : goal.returns-in_err-cut-clause-crash
returns-in_err-cut-clause-crash g c rest f left = (trimmed (g.D.Disk.seen c.args.disk.now) f c.args.end rest (c.cut.ensures.crash f left)).1
