-- What is held after a take begins with what was held, and its receipt tells what came.
use Rattle.std.proofs.Common.{◌≡◌, ◌∙◌, refl, ap, sym, subst, List, length, arith}
use Rattle.std.specs.Arc.{arc_value}
use Rattle.std.specs.Prelude.{IfErr, IfOk}
use mathlib.Core.List.{IsPrefix}
use Rattle.sct_delta.specs.Entries.{Placed}
use Rattle.sct_site.proofs.Prefixes.{prefix_length}
use Rattle.sct_site.specs.Cores.{Core, arrivals_taken}
use Rattle.sct_desk.specs.Locked.{Fails, Locked, Publishes, came_by_take}
use Rattle.sct_desk.specs.Passes.{before}
use Rattle.sct_desk.proofs.Arrived.{before_if, fails_if_after, held_more, published_if, taken_length, taken_longer, taken_most}
use Rattle.sct_desk.proofs.held.HeldArrivals.take.Goals as goal

pub invariant_of-self-2 : goal.invariant_of-self-2
invariant_of-self-2 g c =
    let core = c.self.inside.core in
    let ok : c.take.new.self.arrivals ≡ arrivals_taken core (arc_value c.args.message) = c.in-Ok-take.ensures.ok in
    held_more _ _ _ core _ _ _ _ _ c.self.invariant c.take.new.self _ c.in-Ok-take.ensures.number c.in-Ok-take.ensures.group
    (subst (λ (l : List Placed). IsPrefix core.arrivals l) (sym ok) (taken_longer core (arc_value c.args.message)))
    (omega (arith, ap length ok, taken_most core (arc_value c.args.message), ap length c.arrivals.ensures.arrivals, c.in-Ok.ensures.ok))

pub publish_with-requires-clause-news : goal.publish_with-requires-clause-news
publish_with-requires-clause-news g c =
    let core = c.self.inside.core in
    let ok : c.take.new.self.arrivals ≡ arrivals_taken core (arc_value c.args.message) = c.in-Ok-take.ensures.ok in
    omega (
      arith,
      c.came_by-news.ensures,
      ap came_by_take c.in-Ok-take.ensures.answer,
      ap length ok,
      taken_length core (arc_value c.args.message),
      prefix_length _ _ c.self.invariant.published,
    )

pub returns-clause-before_call : goal.returns-clause-before_call
returns-clause-before_call g c =
    let core = c.self.inside.core in
    let now : c.publish_with.new.self.core.arrivals ≡ arrivals_taken core (arc_value c.args.message) =
    ap (λ (x : Core). x.arrivals) c.publish_with.ensures.core ∙ c.in-Ok-take.ensures.ok in
    subst (λ (l : Locked). IfOk c.publish_with.result (λ t. before t.1 ≡ l.core.arrivals)) c.self.view_is (
    before_if c.publish_with.result g.J.Site.book g.J.Site.number c.came_by-news.result
    (record { core = c.take.new.self; published = c.self.inside.writer.desk.shown.value.track.log }) c.publish_with.new.self core.arrivals c.publish_with.ensures.published
    (omega (arith, c.came_by-news.ensures, ap came_by_take c.in-Ok-take.ensures.answer, ap length now, taken_length core (arc_value c.args.message)))
    (subst (λ (l : List Placed). IsPrefix core.arrivals l) (sym now) (taken_longer core (arc_value c.args.message))))

pub returns-clause-published : goal.returns-clause-published
returns-clause-published g c =
    let core = c.self.inside.core in
    let published = c.self.inside.writer.desk.shown.value.track.log in
    subst (λ (l : Locked). IfOk c.publish_with.result (λ t. Publishes g.J.Site.book g.J.Site.number (came_by_take t.0) l c.publish_with.new.self t.1)) c.self.view_is (
    published_if came_by_take c.publish_with.result g.J.Site.book g.J.Site.number c.came_by-news.result
    (record { core = core; published = published }) (record { core = c.take.new.self; published = published }) c.publish_with.new.self c.in-Ok-take.took
    refl c.publish_with.ensures.answer c.came_by-news.ensures c.publish_with.ensures.published)

pub returns-clause-failed : goal.returns-clause-failed
returns-clause-failed g c =
    let core = c.self.inside.core in
    let ok : c.take.new.self.arrivals ≡ arrivals_taken core (arc_value c.args.message) = c.in-Ok-take.ensures.ok in
    subst (λ (l : Locked). IfErr c.publish_with.result (Fails l (arrivals_taken l.core (arc_value c.args.message)) c.publish_with.new.self)) c.self.view_is (
    fails_if_after (record { core = core; published = c.self.inside.writer.desk.shown.value.track.log })
    (record { core = c.take.new.self; published = c.self.inside.writer.desk.shown.value.track.log })
    c.publish_with.new.self (arrivals_taken core (arc_value c.args.message)) c.publish_with.result
    c.in-Ok-take.ensures.number c.in-Ok-take.ensures.group ok refl c.self.invariant.published
    (subst (λ (l : List Placed). IsPrefix core.arrivals l) (sym ok) (taken_longer core (arc_value c.args.message)))
    c.publish_with.ensures.refused c.publish_with.ensures.unchanged
    )
