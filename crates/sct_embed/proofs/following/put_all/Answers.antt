-- One entry more.
use Rattle.std.proofs.Common.{◌∙◌, ap, subst, sym}
use Rattle.sct_delta.specs.Entries.{Placed}
use Rattle.sct_message.specs.declared.draft.Draft.{Draft}
use Rattle.sct_site.specs.Cores.{Core, core_pushed}
use Rattle.sct_embed.specs.Following.{ArePartlyPut}
use Rattle.sct_embed.proofs.FollowLemmas.{put_more, put_some}
use Rattle.sct_embed.proofs.following.put_all.Goals as goal

pub loop-entry-preserved : goal.loop-entry-preserved
loop-entry-preserved c =
    put_more c.args.core.now c.loop-entry.core c.push.new.self c.args.entries.now c.loop-entry.rest.now c.in-Some.after.now c.in-Some.entry.now
    c.requires c.loop-entry.invariant c.in-Some.ensures.cases.0
    (c.in-Ok-push.ensures.ok
    ∙ ap (λ (m : Draft). core_pushed c.loop-entry.core c.entry.inside.origin m) c.in-Ok.ensures.cases
    ∙ ap (λ (e : Placed). core_pushed c.loop-entry.core e.origin e.message) c.entry.view_is)

-- if it is out of memory, the first entries are in
pub returns-in_default-clone-clause-partly : goal.returns-in_default-clone-clause-partly
returns-in_default-clone-clause-partly c =
    put_some c.args.core.now c.loop-entry.core c.args.entries.now c.loop-entry.rest.now c.loop-entry.invariant

pub returns-in_default-push-clause-partly : goal.returns-in_default-push-clause-partly
returns-in_default-push-clause-partly c =
    subst (λ (core : Core). ArePartlyPut c.args.core.now c.args.entries.now core) (sym c.in_default-push.ensures.unchanged)
    (put_some c.args.core.now c.loop-entry.core c.args.entries.now c.loop-entry.rest.now c.loop-entry.invariant)
