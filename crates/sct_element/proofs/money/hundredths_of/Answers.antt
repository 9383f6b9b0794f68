-- One digit counts ten times its number, which stays below 100.
use Rattle.std.proofs.Common.{◌∙◌, sym, arith, ◌≤◌}
use Rattle.std.specs.Str.Parse.{digits_value}
use Rattle.sct_element.proofs.Decimals.{one_digit_below}
use Rattle.sct_element.proofs.money.hundredths_of.Goals as goal

pub returns-then-bytes-eq1-clause-range : goal.returns-then-bytes-eq1-clause-range
returns-then-bytes-eq1-clause-range c =
    let small : digits_value 10 c.args.bytes.now ≤ 9 = one_digit_below c.args.bytes.now (sym c.are_digits.ensures ∙ c.if-are_digits.true) (omega arith) in
    omega (arith, c.number_of-number.ensures)
