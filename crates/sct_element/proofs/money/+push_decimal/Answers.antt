-- The front digits and then the last one are the whole number.
use Rattle.std.proofs.Common.{arith, append_assoc, refl}
use Rattle.sct_element.proofs.Decimals.{last_digit}
use Rattle.sct_element.proofs.money.+push_decimal.Goals as goal

pub returns-clause-bytes : goal.returns-clause-bytes
returns-clause-bytes t c =
    rw (c.push_byte-2.ensures.bytes, c.push_decimal.ensures.bytes, c.digit-2.ensures, last_digit c.args.number (omega arith) (omega arith), append_assoc) refl
