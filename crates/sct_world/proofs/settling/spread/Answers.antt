-- The whole of the first site is cut of it.
use Rattle.std.proofs.Common.{◌<◌, ap, get_or, length, rules}
use Rattle.sct_world.proofs.HandLemmas.{whole_there}
use Rattle.sct_world.proofs.settling.spread.Goals as goal

pub hand_on-requires-clause-whole : goal.hand_on-requires-clause-whole
hand_on-requires-clause-whole c =
    let there : 0 < length c.args.cores.now = search rules in
    whole_there c.args.cores.now 0 (get_or c.args.cores.now 0 c.index-cores-0.result)
    there (ap (get_or c.args.cores.now 0) c.index-cores-0.is) c.in_ok-whole.whole c.in_ok-whole.ensures.whole
