-- No line feed is in the first line.
use Rattle.std.proofs.Common.{sym, subst, arith}
use Rattle.sct_journal.specs.Kept.{IsLine}
use Rattle.sct_keeper.proofs.KeeperLemmas.{header_line}
use Rattle.sct_keeper.proofs.opening.open_site.Goals as goal

pub returns-clause-line : goal.returns-clause-line
returns-clause-line c = subst IsLine (sym c.in-Ok-header_of.ensures) (header_line c.args.number c.args.group (omega arith) (omega arith))
