-- The entries that are put in go on from those that the site has.
use Rattle.std.proofs.Common.{◌≡◌, ◌∙◌, ◌++◌, ap, sym, subst, length}
use Rattle.sct_site.specs.Cores.{Core}
use Rattle.sct_snapshot.specs.Moments.{IsEarlier}
use Rattle.sct_embed.specs.Embeddings.{Embedding}
use Rattle.sct_embed.specs.Showing.{IsShowing}
use Rattle.sct_embed.proofs.FollowLemmas.{earlier_partly, goes_on}
use Rattle.sct_embed.proofs.ShownLemmas.{showing_before}
use Rattle.sct_embed.proofs.embedded_site.EmbeddedSite.follow.Goals as goal

pub returns-in_err-put_all-clause-earlier : goal.returns-in_err-put_all-clause-earlier
returns-in_err-put_all-clause-earlier c =
    let core = c.self.inside.core in
    let earlier : IsEarlier core c.args.snapshot.now = subst (λ (s : Embedding). IsEarlier s.core c.args.snapshot.now) (sym c.self.view_is) c.requires in
    let all : core.arrivals ++ c.deref.result.now ≡ c.args.snapshot.now.arrivals
    = goes_on core c.args.snapshot.now c.count.result c.deref.result.now earlier
    (c.count.ensures ∙ ap (λ (s : Embedding). length s.core.arrivals) (sym c.self.view_is))
    (c.deref.ensures.value ∙ c.in_ok-entries.ensures.entries) in
    earlier_partly core c.args.snapshot.now c.put_all.new.core c.deref.result.now earlier all c.in_err-put_all.ensures.partly

pub invariant_of-self-2 : goal.invariant_of-self-2
invariant_of-self-2 c =
    let s = c.self.inside in
    subst (λ (core : Core). IsShowing s.showing core.arrivals) (sym c.in_ok-put_all.ensures.put)
    (showing_before s.showing s.core.arrivals c.deref.result.now c.self.invariant)
