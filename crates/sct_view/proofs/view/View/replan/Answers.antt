-- The messages held are those of the view, and a fresh message is not held.
use Rattle.std.proofs.Common.{◌∙◌, ap, length, sym}
use Rattle.std.specs.FinSet as set
use Rattle.sct_message.specs.Sets.{MessageSet, messages_in}
use Rattle.sct_set.specs.Contents.{contents_of}
use Rattle.sct_view.specs.Changes.{changes_of}
use Rattle.sct_view.specs.Touched.{fresh_of, touched_by}
use Rattle.sct_view.proofs.FewLemmas.{fresh_apart}
use Rattle.sct_view.proofs.view.View.replan.Goals as goal

pub touched-requires : goal.touched-requires
touched-requires c = record {
  fresh = λ m e. fresh_apart c.self.inside.archive _ m (ap (λ (s : MessageSet). set.contains s m) (sym c.in_ok-fresh.ensures) ∙ e);
}

pub returns-clause-fresh : goal.returns-clause-fresh
returns-clause-fresh c = c.in_ok-fresh.ensures ∙ ap (λ (v : MessageSet). fresh_of v (contents_of (messages_in c.args.batch.now))) c.self.view_is

pub returns-clause-planned : goal.returns-clause-planned
returns-clause-planned c =
    c.in_ok-planned.ensures.planned
    ∙ ap (changes_of (set.union c.args.self.now c.in_ok-fresh.fresh))
    (c.deref.ensures.value ∙ c.in_ok-touched.ensures.all ∙ ap (λ (v : MessageSet). touched_by v c.in_ok-fresh.fresh) c.self.view_is)

pub returns-clause-counted : goal.returns-clause-counted
returns-clause-counted c =
    c.in_ok-planned.ensures.counted
    ∙ ap length (c.deref.ensures.value ∙ c.in_ok-touched.ensures.all ∙ ap (λ (v : MessageSet). touched_by v c.in_ok-fresh.fresh) c.self.view_is)
