-- The list at an identity has the messages of it.
use Rattle.std.proofs.Common.{ap, ◌∙◌}
use Rattle.sct_message.specs.Keys.{identity_of}
use Rattle.sct_message.specs.Order.{same_identity}
use Rattle.sct_set.specs.Drafts.{drafts_in, drafts_of}
use Rattle.sct_set.proofs.IndexLemmas.{IsIndexBy-at}
use Rattle.sct_set.proofs.arrivals.Arrivals.of.Goals as goal

pub returns : goal.returns
returns c =
    ap drafts_in c.items_at.ensures
    ∙ IsIndexBy-at identity_of same_identity _ c.keys_are_ordered.ensures.identities_equal c.self.inside.by_identity c.self.inside.by_identity _ c.args.identity.now c.self.invariant.identities
    ∙ ap (drafts_of c.args.identity.now) c.self.view_is
