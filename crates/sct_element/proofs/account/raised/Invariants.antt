-- So far the capitals are those of the bytes read.
use Rattle.std.proofs.Common.{◌≡◌, take}
use Rattle.sct_element.specs.Account.{capitals}
use Rattle.sct_element.proofs.account.raised.Given as goal

abbrev pub invariant-loop-byte : goal.invariant-loop-byte
invariant-loop-byte l = l.capitals.bytes ≡ capitals (take l.byte-index l.bytes)
