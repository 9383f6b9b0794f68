-- What one site holds comes to another.
use Rattle.std.proofs.Common.{ap, get_or}
use Rattle.sct_world.specs.Settling.{IsWhy}
use Rattle.sct_world.proofs.HandLemmas.{on_err, hand_why, hand_kept, hand_each, hand_other}
use Rattle.sct_world.proofs.settling.hand.Goals as goal

pub returns-in_err-accept-clause-why : goal.returns-in_err-accept-clause-why
returns-in_err-accept-clause-why c =
    on_err c.from_residual.result (IsWhy c.args.cores.now) c.in_err-accept.field-0.0 c.from_residual.ensures.1
    (hand_why c.args.cores.now c.args.to c.requires.taker c.requires.group c.args.whole.now c.requires.giver
    (get_or c.args.cores.now c.args.to c.index-cores-to.result) (ap (get_or c.args.cores.now c.args.to) c.index-cores-to.is) c.in_err-accept.ensures.site
    c.in_err-accept.field-0.0 c.in_err-accept.ensures.err)

pub returns-clause-kept : goal.returns-clause-kept
returns-clause-kept c =
    hand_kept c.args.cores.now c.args.to c.requires.taker c.requires.group c.args.whole.now c.requires.giver
    (get_or c.args.cores.now c.args.to c.index-cores-to.result) (ap (get_or c.args.cores.now c.args.to) c.index-cores-to.is) c.in_ok-accept.ensures.site
    c.in_ok-accept.ensures.accepted c.accept.new.self c.in_ok-accept.ensures.number c.in_ok-accept.ensures.group c.in_ok-accept.ensures.ok

pub returns-clause-handed : goal.returns-clause-handed
returns-clause-handed c =
    hand_each c.args.cores.now c.args.to c.requires.taker c.requires.group c.args.whole.now c.requires.giver
    (get_or c.args.cores.now c.args.to c.index-cores-to.result) (ap (get_or c.args.cores.now c.args.to) c.index-cores-to.is) c.in_ok-accept.ensures.site
    c.in_ok-accept.ensures.accepted c.accept.new.self c.in_ok-accept.ensures.number c.in_ok-accept.ensures.group c.in_ok-accept.ensures.ok

pub returns-clause-others : goal.returns-clause-others
returns-clause-others c = hand_other c.args.cores.now c.args.to c.accept.new.self
