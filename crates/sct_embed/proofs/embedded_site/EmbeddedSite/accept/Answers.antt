-- What is accepted comes after the first arrivals, which the view shows.
use Rattle.std.proofs.Common.{sym, subst, List}
use Rattle.sct_delta.specs.Entries.{Placed}
use Rattle.sct_embed.specs.Showing.{IsShowing}
use Rattle.sct_embed.proofs.ShownLemmas.{showing_before}
use Rattle.sct_embed.proofs.embedded_site.EmbeddedSite.accept.Goals as goal

pub invariant_of-self-2 : goal.invariant_of-self-2
invariant_of-self-2 c =
    let s = c.self.inside in
    subst (λ (es : List Placed). IsShowing s.showing es) (sym c.in_ok-accepted.ensures.ok)
    (showing_before s.showing s.core.arrivals _ c.self.invariant)
