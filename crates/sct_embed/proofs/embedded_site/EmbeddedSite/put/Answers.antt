-- A take leaves the first arrivals, which the view shows, as they are.
use Rattle.std.proofs.Common.{sym, subst, List}
use Rattle.sct_delta.specs.Entries.{Placed}
use Rattle.sct_embed.specs.Showing.{IsShowing}
use Rattle.sct_embed.proofs.ShownLemmas.{showing_after_take}
use Rattle.sct_embed.proofs.embedded_site.EmbeddedSite.put.Goals as goal

pub invariant_of-self-2 : goal.invariant_of-self-2
invariant_of-self-2 c =
    let s = c.self.inside in
    subst (λ (es : List Placed). IsShowing s.showing es) (sym c.in_ok-took.ensures.ok)
    (showing_after_take s.showing s.core _ c.self.invariant)
