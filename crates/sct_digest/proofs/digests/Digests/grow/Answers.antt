-- One empty chain more.
use Rattle.std.proofs.Common.{List}
use Rattle.sct_digest.proofs.KeepingLemmas.{kept_with}
use Rattle.sct_digest.proofs.digests.Digests.grow.Goals as goal

pub loop-alloc-preserved : goal.loop-alloc-preserved
loop-alloc-preserved c = λ arrivals were.
    kept_with c.loop-alloc.self (record { chains = c.push.new.self }) c.new.result arrivals c.in_ok-push.ensures.items c.new.ensures
    (c.loop-alloc.invariant arrivals were)
