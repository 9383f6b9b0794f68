-- One place more is open behind the others.
use Rattle.std.proofs.Common.{◌∙◌, arith}
use Rattle.sct_view.proofs.ReadyLemmas.{ready_more}
use Rattle.sct_view.proofs.tables.Tables.open_all.Goals as goal

pub loop-one-preserved : goal.loop-one-preserved
loop-one-preserved c = record {
  ready = ready_more c.loop-one.self.cases c.open.new.self.cases c.loop-one.self.totals c.open.new.self.totals c.in_ok-open.ensures.cases_stay
      c.in_ok-open.ensures.totals_stay c.args.planned.now c.loop-one.one-index c.one-item.result c.loop-one-test.true c.one-item.is
      c.loop-one.invariant.ready c.in_ok-open.ensures.ready;
  same_cases = λ t. c.in_ok-open.ensures.same_cases t ∙ c.loop-one.invariant.same_cases t;
  same_totals = λ p. c.in_ok-open.ensures.same_totals p ∙ c.loop-one.invariant.same_totals p;
  cases_front = c.in_ok-open.ensures.cases_front _ c.loop-one.invariant.cases_grow ∙ c.loop-one.invariant.cases_front;
  totals_front = c.in_ok-open.ensures.totals_front _ c.loop-one.invariant.totals_grow ∙ c.loop-one.invariant.totals_front;
  cases_grow = omega (arith, c.in_ok-open.ensures.cases_grow, c.loop-one.invariant.cases_grow);
  totals_grow = omega (arith, c.in_ok-open.ensures.totals_grow, c.loop-one.invariant.totals_grow);
}
