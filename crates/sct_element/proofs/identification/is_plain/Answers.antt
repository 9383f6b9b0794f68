-- The table has the mark of each byte.
use Rattle.std.proofs.Common.{arith}
use Rattle.sct_element.proofs.Shortcuts.{read_plain}
use Rattle.sct_element.proofs.identification.is_plain.Goals as goal

pub returns : goal.returns
returns c = rw c.from.ensures (read_plain c.args.byte (omega arith))
