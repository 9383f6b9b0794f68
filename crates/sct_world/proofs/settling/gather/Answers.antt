-- One site more has its part.
use Rattle.std.proofs.Common.{◌<◌, ap, arith, get_or, length}
use Rattle.sct_world.specs.Settling.{core_in, IsWholeSite, IsWhy}
use Rattle.sct_world.proofs.HandLemmas.{on_err, whole_there}
use Rattle.sct_world.proofs.KeptLemmas.{why_before, gathered_more, group_kept}
use Rattle.sct_world.proofs.settling.gather.Goals as goal

pub hand-requires-clause-giver : goal.hand-requires-clause-giver
hand-requires-clause-giver c =
    let there : c.loop-place.place < length c.loop-place.cores = omega (arith, c.loop-place-test.true, c.loop-place.invariant.kept.size) in record {
      place = c.loop-place.place;
      there = there;
      whole = whole_there c.loop-place.cores c.loop-place.place (get_or c.loop-place.cores c.loop-place.place c.index-cores-place.result)
          there (ap (get_or c.loop-place.cores c.loop-place.place) c.index-cores-place.is) c.in_ok-whole.whole c.in_ok-whole.ensures.whole;
    }

pub hand-requires-clause-group : goal.hand-requires-clause-group
hand-requires-clause-group c = group_kept c.args.cores.now c.loop-place.cores c.loop-place.invariant.kept c.requires.group

pub returns-in_err-hand-clause-why : goal.returns-in_err-hand-clause-why
returns-in_err-hand-clause-why c =
    on_err c.from_residual-in_err-hand.result (IsWhy c.args.cores.now) c.in_err-hand.field-0.0 c.from_residual-in_err-hand.ensures.1
    (why_before c.args.cores.now c.loop-place.cores c.loop-place.invariant.kept c.in_err-hand.field-0.0 c.in_err-hand.ensures.why)

pub loop-place-preserved : goal.loop-place-preserved
loop-place-preserved c =
    let there : c.loop-place.place < length c.loop-place.cores = omega (arith, c.loop-place-test.true, c.loop-place.invariant.kept.size) in
    let whole : IsWholeSite c.in_ok-whole.whole (core_in c.loop-place.cores c.loop-place.place) =
    whole_there c.loop-place.cores c.loop-place.place (get_or c.loop-place.cores c.loop-place.place c.index-cores-place.result)
    there (ap (get_or c.loop-place.cores c.loop-place.place) c.index-cores-place.is) c.in_ok-whole.whole c.in_ok-whole.ensures.whole in
    gathered_more c.args.cores.now c.loop-place.cores c.hand.new.cores c.loop-place.place c.loop-place.invariant c.in_ok-hand.ensures.kept
    (λ e held. c.in_ok-hand.ensures.handed e (whole.has e held))
