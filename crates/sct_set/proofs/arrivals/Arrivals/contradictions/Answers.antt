-- Identities that are sorted and told apart are the ascending ones.
use Rattle.std.proofs.Common.{◌∙◌, ap, nat_eq, subst}
use Rattle.std.proofs.lemmas.List.Filters.{dedup_is}
use Rattle.std.specs.List.Sorted.{IsSorted}
use Rattle.std.specs.declared.cmp.Ordering.{Ordering}
use Rattle.sct_message.specs.declared.keys.Identity.{Identity}
use Rattle.sct_message.specs.OrderLaws.{identity_total, identities_same}
use Rattle.sct_message.specs.Ascending.{ascending}
use Rattle.sct_message.specs.Order.{identity_order}
use Rattle.sct_message.proofs.AscendingLemmas.{ascending-sort_dedup_plain}
use Rattle.sct_set.specs.Digest.{digest_of}
use Rattle.sct_set.specs.Drafts.{against_in, IsIndexBy}
use Rattle.sct_set.proofs.CalmLemmas.{contradicted-filed}
use Rattle.sct_set.proofs.arrivals.Arrivals.contradictions.Goals as goal

pub returns : goal.returns
returns c =
    dedup_is _ _ _ c.dedup.ensures.filtered
    ∙ ascending-sort_dedup_plain identity_total identities_same _ c.keys_are_ordered.ensures.identities_equal _ _ c.in_ok-sort.ensures.permutation (subst (λ (R : Identity → Identity → Ordering). IsSorted R c.sort.new.self.items) (λ n i j. c.keys_are_ordered.ensures.identities i j n) c.in_ok-sort.ensures.sorted)
    ∙ ap (ascending identity_order) c.in_ok-identities.ensures.identities
    ∙ contradicted-filed c.self.inside.by_digest c.in_ok-identities.ensures.unique c.args.self.now c.requires
    (subst (λ ds. IsIndexBy digest_of nat_eq c.self.inside.by_digest (against_in ds)) c.self.view_is c.self.invariant.digests)
