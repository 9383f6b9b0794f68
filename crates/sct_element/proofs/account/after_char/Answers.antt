-- One character's digits, put behind the number so far.
use Rattle.std.proofs.Common.{◌≡◌, ◌∙◌, sym, ◌-◌}
use Rattle.sct_element.proofs.Remainders.{after_digit, after_letter}
use Rattle.sct_element.proofs.account.after_char.Goals as goal

pub returns-then-is_ascii_digit-clause-goes_on : goal.returns-then-is_ascii_digit-clause-goes_on
returns-then-is_ascii_digit-clause-goes_on c =
    λ rest. rw c.from.ensures (after_digit c.args.remainder c.args.byte rest (sym c.is_ascii_digit.ensures.value ∙ c.if-is_ascii_digit.true))

pub returns-else-is_ascii_digit-clause-goes_on : goal.returns-else-is_ascii_digit-clause-goes_on
returns-else-is_ascii_digit-clause-goes_on c =
    let number : c.from-number.result ≡ c.args.byte - 55 = c.from-number.ensures ∙ c.saturating_sub.ensures in
    λ rest. rw number (after_letter c.args.remainder c.args.byte rest (sym c.is_ascii_digit.ensures.value ∙ c.if-is_ascii_digit.false))
