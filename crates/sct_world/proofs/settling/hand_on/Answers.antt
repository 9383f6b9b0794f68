-- One site more has its part.
use Rattle.std.proofs.Common.{◌≢◌, arith, rules, subst, sym}
use Rattle.sct_site.specs.Cores.{Core}
use Rattle.sct_world.specs.Settling.{IsWholeSite, IsWhy}
use Rattle.sct_world.proofs.HandLemmas.{on_err}
use Rattle.sct_world.proofs.KeptLemmas.{why_before, group_kept, reached_first, reached_more}
use Rattle.sct_world.proofs.settling.hand_on.Goals as goal

pub loop-place-init : goal.loop-place-init
loop-place-init c = record {
  reached = reached_first c.args.cores.now;
  whole = c.requires.whole;
  first = omega arith;
}

pub hand-requires-clause-giver : goal.hand-requires-clause-giver
hand-requires-clause-giver c = record {
  place = 0;
  there = omega (arith, c.loop-place-test.true, c.loop-place.invariant.reached.kept.size);
  whole = c.loop-place.invariant.whole;
}

pub hand-requires-clause-group : goal.hand-requires-clause-group
hand-requires-clause-group c = group_kept c.args.cores.now c.loop-place.cores c.loop-place.invariant.reached.kept c.requires.group

pub returns-in_err-hand-clause-why : goal.returns-in_err-hand-clause-why
returns-in_err-hand-clause-why c =
    on_err c.from_residual.result (IsWhy c.args.cores.now) c.in_err-hand.field-0.0 c.from_residual.ensures.1
    (why_before c.args.cores.now c.loop-place.cores c.loop-place.invariant.reached.kept c.in_err-hand.field-0.0 c.in_err-hand.ensures.why)

pub loop-place-preserved : goal.loop-place-preserved
loop-place-preserved c =
    let other : 0 ≢ c.loop-place.place = search rules in record {
      reached = reached_more c.args.cores.now c.loop-place.cores c.hand.new.cores c.loop-place.place c.loop-place.invariant.reached c.in_ok-hand.ensures.kept
          (λ e held. c.in_ok-hand.ensures.handed e (c.loop-place.invariant.whole.has e held));
      whole = subst (λ (core : Core). IsWholeSite c.args.whole.now core) (sym (c.in_ok-hand.ensures.others 0 other)) c.loop-place.invariant.whole;
      first = omega (arith, c.loop-place.invariant.first);
    }
