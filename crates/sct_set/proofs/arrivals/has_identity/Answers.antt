-- There are messages of an identity where one of them has it.
use Rattle.std.proofs.Common.{ap, not, ◌∙◌}
use Rattle.sct_message.specs.Keys.{identity_of}
use Rattle.sct_message.specs.Order.{same_identity}
use Rattle.sct_set.specs.Drafts.{drafts_in}
use Rattle.sct_set.proofs.ArchiveLemmas.{found-is}
use Rattle.sct_set.proofs.IndexLemmas.{IsIndexBy-at}
use Rattle.sct_set.proofs.arrivals.has_identity.Goals as goal

pub returns : goal.returns
returns c ds indexed =
    ap not c.is_empty.ensures
    ∙ found-is _ ds c.args.identity.now
    (ap drafts_in c.items_at.ensures
    ∙ IsIndexBy-at identity_of same_identity _ c.keys_are_ordered.ensures.identities_equal c.args.index.now c.args.index.now ds c.args.identity.now indexed)
