-- The walk along the names that are left ends as the whole one.
use Rattle.std.proofs.Common.{◌≡◌}
use Rattle.sct_json.proofs.Beside.{walk}
use Rattle.sct_json.proofs.extra_key.first_other.Given as goal

abbrev pub invariant-loop-name : goal.invariant-loop-name
invariant-loop-name l = walk l.keys l.name-iterator ≡ walk l.initial.keys l.initial.name-iterator
