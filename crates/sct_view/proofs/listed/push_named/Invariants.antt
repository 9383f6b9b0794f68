-- The recalls so far.
use Rattle.std.proofs.Common.{◌≡◌, ◌++◌, take}
use Rattle.std.specs.List.{flat_map}
use Rattle.sct_message.specs.Keys.{recalls_of}
use Rattle.sct_view.specs.Listed.{cxls_in}
use Rattle.sct_view.proofs.listed.push_named.Given as goal

abbrev pub invariant-loop-i : goal.invariant-loop-i
invariant-loop-i l = l.found.items ≡ l.initial.found.items ++ flat_map (cxls_in l.transfer) (take l.i (recalls_of l.message))
