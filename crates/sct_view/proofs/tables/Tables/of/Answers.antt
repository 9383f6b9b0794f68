-- One case less is left.
use Rattle.std.proofs.Common.{◌∙◌, ap, map}
use Rattle.std.specs.Prelude.{if◌then◌else◌}
use Rattle.sct_view.specs.Changes.{change_in}
use Rattle.sct_view.specs.Kept.{Kept, case_at, kept_in, no_messages, same_key}
use Rattle.sct_view.proofs.ChangeLemmas.{one_less}
use Rattle.sct_view.proofs.GatheredLemmas.{case_after-alike}
use Rattle.sct_view.proofs.tables.Tables.of.Goals as goal

pub loop-one-init : goal.loop-one-init
loop-one-init c = (tt, tt, case_after-alike (map change_in c.into_iter-one-iterator.result.rest.items) (λ t. no_messages) (case_at c.in_ok-tables.tables.cases) c.in_ok-tables.ensures)

pub loop-one-preserved : goal.loop-one-preserved
loop-one-preserved c = (
  tt,
  tt,
  λ t. one_less c.loop-one.one-iterator.rest.items c.in-Some.one c.next.new.self.rest.items (case_at c.loop-one.tables.cases) (case_at c.commit.new.self.cases)
      c.in-Some.ensures.steps.0
      (λ k. c.commit.ensures.cases k ∙ ap (λ (x : Kept). if same_key c.in-Some.one.transfer k then kept_in c.in-Some.one.case else x) (c.in_ok-open.ensures.same_cases k)) t
      ∙ c.loop-one.invariant.2 t,
)
