-- The list at a digest has the messages of it.
use Rattle.std.proofs.Common.{ap, ◌∙◌}
use Rattle.sct_set.specs.Digest.{digest_of}
use Rattle.sct_set.specs.Drafts.{against_in, drafts_alike, drafts_in}
use Rattle.sct_set.proofs.arrivals.Arrivals.of_digest.Goals as goal

pub returns : goal.returns
returns c =
    ap drafts_in c.items_at.ensures
    ∙ c.self.invariant.digests.messages c.digest.result
    ∙ ap (λ n. drafts_alike n (against_in (drafts_in c.self.inside.messages.items))) c.digest.ensures
    ∙ ap (λ ds. drafts_alike (digest_of c.args.message.now) (against_in ds)) c.self.view_is
