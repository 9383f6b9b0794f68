-- The remainder of the back, and of the front behind it, is that of the whole number.
use Rattle.sct_element.proofs.Remainders.{whole_number}
use Rattle.sct_element.proofs.account.remainder_of.Goals as goal

pub returns : goal.returns
returns c = whole_number c.args.bytes.now c.after_chars.result c.after_chars-2.result c.after_chars-2.ensures.below
    (rw (← c.split_at.ensures.back) c.after_chars.ensures.goes_on)
    (rw (← c.split_at.ensures.front) c.after_chars-2.ensures.goes_on)
