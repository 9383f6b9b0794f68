-- What is left of the rest is what is left of all.
use Rattle.std.proofs.Common.{◌≡◌, length}
use Rattle.sct_json.specs.KeyLookups.{keys_from}
use Rattle.sct_json.proofs.extra_key.keys_from.Given as goal

abbrev pub decreases-loop-rest : goal.decreases-loop-rest
decreases-loop-rest l = length l.rest

abbrev pub invariant-loop-rest : goal.invariant-loop-rest
invariant-loop-rest l = keys_from l.name l.rest ≡ keys_from l.name l.keys
