-- The planned cases over those that were kept are those of the larger set.
use Rattle.std.proofs.Common.{◌∙◌, ap, map, sym, ◌+◌}
use Rattle.std.specs.FinSet as set
use Rattle.sct_message.specs.Sets.{MessageSet, messages_in}
use Rattle.sct_set.specs.Contents.{contents_of}
use Rattle.sct_view.specs.Changes.{change_in}
use Rattle.sct_view.specs.Kept.{case_at, case_of}
use Rattle.sct_view.proofs.ApplyLemmas.{few_applied, len_joined}
use Rattle.sct_view.proofs.TouchedLemmas.{union-fresh}
use Rattle.sct_view.proofs.ChangeLemmas.{cases_after}
use Rattle.sct_view.proofs.view.View.apply.Goals as goal

pub invariant_of-self-2 : goal.invariant_of-self-2
invariant_of-self-2 c =
    let joined_now = c.in_ok-make_room.ensures.joined ∙ ap (λ (v : MessageSet). set.union v c.in_ok-plan.plan.fresh) c.self.view_is in (
      λ t.
          c.commit_all.ensures t
          ∙ cases_after c.args.self.now c.in_ok-plan.plan.fresh (case_at c.make_room.new.tables.cases)
          (λ k. c.make_room.ensures.same_cases k ∙ c.self.invariant.0 k ∙ ap (λ (v : MessageSet). case_of v k) c.self.view_is)
          (map change_in c.in_ok-plan.plan.planned.items) c.in_ok-plan.ensures.planned t
          ∙ ap (λ (v : MessageSet). case_of v t) (sym joined_now),
      c.self.invariant.1,
    )

pub returns-clause-ok : goal.returns-clause-ok
returns-clause-ok c =
    c.in_ok-make_room.ensures.joined
    ∙ (λ n. set.union (c.self.view_is n) (c.in_ok-plan.ensures.fresh n))
    ∙ union-fresh c.args.self.now (contents_of (messages_in c.args.messages.now))

pub returns-clause-fresh : goal.returns-clause-fresh
returns-clause-fresh c =
    ap (λ (v : MessageSet). set.len v)
    (c.in_ok-make_room.ensures.joined ∙ (λ n. set.union (c.self.view_is n) (c.in_ok-plan.ensures.fresh n)))
    ∙ len_joined c.args.self.now (contents_of (messages_in c.args.messages.now))
    ∙ ap (λ n. set.len c.args.self.now + n) (sym (c.brought_by-brought.ensures.fresh ∙ ap (λ (v : MessageSet). set.len v) c.in_ok-plan.ensures.fresh))

pub returns-clause-few_of_one : goal.returns-clause-few_of_one
returns-clause-few_of_one c =
    few_applied c.args.self.now c.in_ok-plan.plan.fresh (contents_of (messages_in c.args.messages.now)) c.brought_by-brought.result.touched c.brought_by-brought.result.fresh
    c.in_ok-plan.ensures.fresh (c.brought_by-brought.ensures.touched ∙ c.in_ok-plan.ensures.counted) c.brought_by-brought.ensures.fresh
