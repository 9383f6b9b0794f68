-- What is left goes on from the remainder so far as all of the bytes go on from the first.
use Rattle.std.proofs.Common.{◌≡◌, ◌<◌, ℕ, List, ◌++◌, flat_map, drop, ◌%◌}
use Rattle.std.specs.Int.Digits.{number_from_digits_after}
use Rattle.sct_element.specs.Account.{digits_of_char}
use Rattle.sct_element.proofs.account.after_chars.Given as goal

abbrev pub invariant-loop-byte : goal.invariant-loop-byte
invariant-loop-byte l = (l.remainder < 97) × ((rest : List ℕ) → number_from_digits_after 10 l.remainder (flat_map digits_of_char (drop l.byte-index l.bytes) ++ rest) % 97 ≡ number_from_digits_after 10 l.fn.remainder (flat_map digits_of_char l.bytes ++ rest) % 97)
