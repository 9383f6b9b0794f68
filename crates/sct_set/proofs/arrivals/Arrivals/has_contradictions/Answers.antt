-- A message is behind another of its identity exactly if one is disputed.
use Rattle.std.proofs.Common.{subst, nat_eq}
use Rattle.sct_set.specs.Digest.{digest_of}
use Rattle.sct_set.specs.Drafts.{against_in, IsIndexBy}
use Rattle.sct_set.proofs.CalmLemmas.{contradictions-is}
use Rattle.sct_set.proofs.arrivals.Arrivals.has_contradictions.Goals as goal

pub returns : goal.returns
returns c =
    contradictions-is c.self.inside.by_digest c.args.self.now c.is_empty.result c.requires
    (subst (λ ds. IsIndexBy digest_of nat_eq c.self.inside.by_digest (against_in ds)) c.self.view_is c.self.invariant.digests)
    c.is_empty.ensures
