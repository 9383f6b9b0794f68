-- The table has the mark of each byte.
use Rattle.std.proofs.Common.{arith}
use Rattle.sct_element.proofs.Shortcuts.{read_carried}
use Rattle.sct_element.proofs.identification.is_sepa_character.Goals as goal

pub returns : goal.returns
returns c = rw c.from.ensures (read_carried c.args.byte (omega arith))
