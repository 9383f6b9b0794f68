-- The indexes lose the last message.
use Rattle.std.proofs.Common.{ap, sym, subst, nat_eq, ◌∙◌, ◌++◌, ◌∷◌, []}
use Rattle.std.proofs.lemmas.List.{map-append}
use Rattle.std.specs.Arc.{arc_value}
use Rattle.std.specs.Option.{option_to_list}
use Rattle.sct_message.specs.Keys.{identity_of}
use Rattle.sct_message.specs.Order.{same_identity}
use Rattle.sct_set.specs.Digest.{digest_of}
use Rattle.sct_set.specs.Drafts.{against_in, drafts_in, finds, IsIndexBy}
use Rattle.sct_set.proofs.arrivals.Arrivals.pop.Goals as goal

pub invariant_of-self-2 : goal.invariant_of-self-2
invariant_of-self-2 c =
    let ds = drafts_in c.pop.new.self.items in
    let last = c.pop.ensures.items ∙ ap (λ o. c.pop.new.self.items ++ option_to_list o) c.in-Some.is in
    let all = ap drafts_in last ∙ map-append arc_value c.pop.new.self.items (c.in-Some.last ∷ []) in
    let identities = c.unfile_by_identity.ensures ds
    (subst (λ d. IsIndexBy identity_of same_identity c.self.inside.by_identity (ds ++ d ∷ [])) (sym c.deref.ensures)
    (subst (λ xs. IsIndexBy identity_of same_identity c.self.inside.by_identity xs) all c.self.invariant.identities)) in
    let against = c.has_identity-against.ensures ds identities ∙ ap (λ i. finds i ds) (c.identity.ensures ∙ ap identity_of (c.deref-2.ensures ∙ sym c.deref-3.ensures)) in record {
      identities = identities;
      digests =
          c.unfile_by_digest.ensures ds against
          (subst (λ d. IsIndexBy digest_of nat_eq c.self.inside.by_digest (against_in (ds ++ d ∷ []))) (sym c.deref-3.ensures)
          (subst (λ xs. IsIndexBy digest_of nat_eq c.self.inside.by_digest (against_in xs)) all c.self.invariant.digests));
    }
