-- What is held after a delta begins with what was held, and its receipt tells what came.
use Rattle.std.proofs.Common.{◌≡◌, ◌∙◌, refl, ap, sym, subst, List, length, arith}
use Rattle.std.specs.Prelude.{IfErr, IfOk}
use mathlib.Core.List.{IsPrefix}
use Rattle.sct_delta.specs.Entries.{Placed}
use Rattle.sct_site.proofs.Prefixes.{prefix_length}
use Rattle.sct_site.specs.Cores.{Core}
use Rattle.sct_desk.specs.Locked.{Fails, Locked, Publishes, arrivals_handed, came_by_delta}
use Rattle.sct_desk.specs.Passes.{before}
use Rattle.sct_desk.proofs.Arrived.{before_if, fails_if_after, handed_length, handed_longer, handed_most, held_more, published_if}
use Rattle.sct_desk.proofs.held.HeldArrivals.accept.Goals as goal

pub invariant_of-self-2 : goal.invariant_of-self-2
invariant_of-self-2 g c =
    let core = c.self.inside.core in
    held_more _ _ _ core _ _ _ _ _ c.self.invariant c.handed.new.core _ c.handed.ensures.number c.handed.ensures.group
    (subst (λ (l : List Placed). IsPrefix core.arrivals l) (sym c.in-Some.ensures.arrivals) (handed_longer core c.args.delta.now))
    (omega (
      arith,
      ap length c.in-Some.ensures.arrivals,
      handed_most core c.args.delta.now,
      ap length c.arrivals.ensures.arrivals,
      ap length c.entries.ensures.entries,
      c.in-Ok.ensures.ok,
    ))

pub publish_with-requires-clause-news : goal.publish_with-requires-clause-news
publish_with-requires-clause-news g c =
    let core = c.self.inside.core in
    omega (
      arith,
      c.in-Some.ensures.news,
      ap came_by_delta c.in-Some.ensures.answer,
      ap length c.in-Some.ensures.arrivals,
      handed_length core c.args.delta.now,
      prefix_length _ _ c.self.invariant.published,
    )

pub returns-clause-before_call : goal.returns-clause-before_call
returns-clause-before_call g c =
    let core = c.self.inside.core in
    let now : c.publish_with.new.self.core.arrivals ≡ arrivals_handed core c.args.delta.now =
    ap (λ (x : Core). x.arrivals) c.publish_with.ensures.core ∙ c.in-Some.ensures.arrivals in
    subst (λ (l : Locked). IfOk c.publish_with.result (λ t. before t.1 ≡ l.core.arrivals)) c.self.view_is (
    before_if c.publish_with.result g.J.Site.book g.J.Site.number c.in-Some.news
    (record { core = c.handed.new.core; published = c.self.inside.writer.desk.shown.value.track.log }) c.publish_with.new.self core.arrivals c.publish_with.ensures.published
    (omega (arith, c.in-Some.ensures.news, ap came_by_delta c.in-Some.ensures.answer, ap length now, handed_length core c.args.delta.now))
    (subst (λ (l : List Placed). IsPrefix core.arrivals l) (sym now) (handed_longer core c.args.delta.now)))

pub returns-clause-published : goal.returns-clause-published
returns-clause-published g c =
    let core = c.self.inside.core in
    let published = c.self.inside.writer.desk.shown.value.track.log in
    subst (λ (l : Locked). IfOk c.publish_with.result (λ t. Publishes g.J.Site.book g.J.Site.number (came_by_delta t.0) l c.publish_with.new.self t.1)) c.self.view_is (
    published_if came_by_delta c.publish_with.result g.J.Site.book g.J.Site.number c.in-Some.news
    (record { core = core; published = published }) (record { core = c.handed.new.core; published = published }) c.publish_with.new.self c.in-Some.answer
    refl c.publish_with.ensures.answer c.in-Some.ensures.news c.publish_with.ensures.published)

pub returns-clause-failed : goal.returns-clause-failed
returns-clause-failed g c =
    let core = c.self.inside.core in
    subst (λ (l : Locked). IfErr c.publish_with.result (Fails l (arrivals_handed l.core c.args.delta.now) c.publish_with.new.self)) c.self.view_is (
    fails_if_after (record { core = core; published = c.self.inside.writer.desk.shown.value.track.log })
    (record { core = c.handed.new.core; published = c.self.inside.writer.desk.shown.value.track.log })
    c.publish_with.new.self (arrivals_handed core c.args.delta.now) c.publish_with.result
    c.handed.ensures.number c.handed.ensures.group c.in-Some.ensures.arrivals refl c.self.invariant.published
    (subst (λ (l : List Placed). IsPrefix core.arrivals l) (sym c.in-Some.ensures.arrivals) (handed_longer core c.args.delta.now))
    c.publish_with.ensures.refused c.publish_with.ensures.unchanged
    )
