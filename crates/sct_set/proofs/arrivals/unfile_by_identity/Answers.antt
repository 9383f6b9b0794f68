-- The list at the message's identity loses it.
use Rattle.sct_message.specs.Keys.{identity_of}
use Rattle.sct_message.specs.Order.{same_identity}
use Rattle.sct_set.proofs.IndexLemmas.{IsIndexBy-unfiled}
use Rattle.sct_set.proofs.arrivals.unfile_by_identity.Goals as goal

pub returns : goal.returns
returns c ds indexed =
    IsIndexBy-unfiled identity_of same_identity _ c.keys_are_ordered.ensures.identities_equal c.args.index.now c.unfile.new.index _ c.args.message.now ds
    c.identity.ensures indexed c.unfile.ensures.taken c.unfile.ensures.no_empty
