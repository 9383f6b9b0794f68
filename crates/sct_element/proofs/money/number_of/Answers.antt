-- The number so far has fewer than ten digits.
use Rattle.std.proofs.Common.{arith}
use Rattle.sct_element.proofs.Decimals.{front_below, one_more_digit}
use Rattle.sct_element.proofs.money.number_of.Goals as goal

pub overflow_mul-number : goal.overflow_mul-number
overflow_mul-number c = omega (arith, front_below c.args.digits.now c.loop-digit.digit-index c.requires.digits c.requires.few, c.loop-digit.invariant)

pub overflow_add-number : goal.overflow_add-number
overflow_add-number c = omega (arith, front_below c.args.digits.now c.loop-digit.digit-index c.requires.digits c.requires.few, c.loop-digit.invariant)

pub loop-digit-preserved : goal.loop-digit-preserved
loop-digit-preserved c = rw (one_more_digit c.args.digits.now c.loop-digit.digit-index c.requires.digits (omega arith), c.from.ensures, c.loop-digit.invariant)
