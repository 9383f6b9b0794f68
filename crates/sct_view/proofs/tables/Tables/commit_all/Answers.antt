-- One case less is left, and the others have their places still.
use Rattle.std.proofs.Common.{◌∙◌}
use Rattle.sct_view.specs.Kept.{case_at}
use Rattle.sct_view.proofs.ChangeLemmas.{one_less}
use Rattle.sct_view.proofs.ReadyLemmas.{others_ready}
use Rattle.sct_view.proofs.tables.Tables.commit_all.Goals as goal

pub loop-one-preserved : goal.loop-one-preserved
loop-one-preserved c = (
  tt,
  tt,
  λ t. one_less c.loop-one.one-iterator.rest.items c.in-Some.one c.next.new.self.rest.items (case_at c.loop-one.self.cases) (case_at c.commit.new.self.cases)
      c.in-Some.ensures.steps.0 c.commit.ensures.cases t ∙ c.loop-one.invariant.2 t,
  others_ready c.loop-one.one-iterator.rest.items c.in-Some.one c.next.new.self.rest.items c.loop-one.self.cases c.commit.new.self.cases c.loop-one.self.totals
      c.commit.new.self.totals c.in-Some.ensures.steps.0 c.loop-one.invariant.3 c.commit.ensures.cases_stay c.commit.ensures.totals_stay,
)
