-- All arrivals are shown, so what changed since changes were asked for is known; and the watch begins anew.
use Rattle.std.proofs.Common.{◌∙◌, ap, subst, refl, ℕ, List}
use Rattle.sct_delta.specs.Entries.{Placed}
use Rattle.sct_embed.specs.Embeddings.{Embedding}
use Rattle.sct_embed.specs.Questions.{changes_since}
use Rattle.sct_embed.specs.Showing.{IsShowing, IsWatched}
use Rattle.sct_embed.proofs.WatchLemmas.{changes_told, watched_anew}
use Rattle.sct_embed.proofs.embedded_site.EmbeddedSite.changes_text.Goals as goal

pub invariant_of-self-2 : goal.invariant_of-self-2
invariant_of-self-2 c =
    let showing = subst (λ (es : List Placed). IsShowing c.show_all.new.self es) c.arrivals.ensures.arrivals c.show_all.ensures.shown in
    record {
      shown = showing.shown;
      watched = watched_anew c.show_all.new.self.count c.self.inside.core.arrivals (record { asked = c.show_all.new.self.count; changed = c.new.result }) refl c.new.ensures.items;
      digests = showing.digests;
      shelf = showing.shelf;
      blocks = showing.blocks;
    }

pub returns-clause-answer : goal.returns-clause-answer
returns-clause-answer c =
    let es = c.arrivals.result.now in let watch = c.show_all.new.self.watch in
    c.in_ok-self-inside.ensures
    ∙ changes_told watch es (subst (λ (n : ℕ). IsWatched watch n es) c.in_ok-show_all.ensures.count c.show_all.ensures.shown.watched)
    ∙ (λ i. changes_since (c.show_all.ensures.watched i) (c.arrivals.ensures.arrivals i))
    ∙ ap (λ (e : Embedding). changes_since e.watched e.core.arrivals) c.self.view_is
