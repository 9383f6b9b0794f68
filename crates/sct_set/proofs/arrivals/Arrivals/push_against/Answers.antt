-- The indexes gain the message, or neither does.
use Rattle.std.proofs.Common.{ap, sym, subst, nat_eq, ◌∙◌, ◌++◌, ◌∷◌, []}
use Rattle.std.proofs.lemmas.List.{map-append}
use Rattle.std.specs.Arc.{arc_value}
use Rattle.sct_message.specs.Keys.{identity_of}
use Rattle.sct_message.specs.Order.{same_identity}
use Rattle.sct_set.specs.Digest.{digest_of}
use Rattle.sct_set.specs.Drafts.{against_in, drafts_in, finds, IsIndexBy}
use Rattle.sct_set.proofs.AgainstLemmas.{against_in-found}
use Rattle.sct_set.proofs.arrivals.Arrivals.push_against.Goals as goal

pub invariant_of-self-in_err-file_by_identity : goal.invariant_of-self-in_err-file_by_identity
invariant_of-self-in_err-file_by_identity c =
    rw c.in_ok-reserve.ensures.items (record {
      identities = c.in_err-file_by_identity.ensures.err _ c.self.invariant.identities;
      digests = c.self.invariant.digests;
    })

pub invariant_of-self-in-Err : goal.invariant_of-self-in-Err
invariant_of-self-in-Err c =
    let ds = drafts_in c.self.inside.messages.items in
    rw c.in_ok-reserve.ensures.items (record {
      identities =
          c.unfile_by_identity.ensures ds
          (subst (λ d. IsIndexBy identity_of same_identity c.file_by_identity.new.index (ds ++ d ∷ [])) (sym c.deref.ensures)
          (c.in_ok-file_by_identity.ensures.ok ds c.self.invariant.identities));
      digests = c.in-Err.ensures.err (against_in ds) c.self.invariant.digests;
    })

pub invariant_of-self-2 : goal.invariant_of-self-2
invariant_of-self-2 c =
    let ds = drafts_in c.self.inside.messages.items in
    let m = arc_value c.args.message.now in
    let found = ap (finds (identity_of m)) c.self.view_is ∙ c.requires in
    let pushed = c.push_reserved.ensures.items ∙ ap (λ xs. xs ++ c.in_ok-handle.handle ∷ []) c.in_ok-reserve.ensures.items in
    let longer = ap (λ d. ds ++ d ∷ []) (sym c.in_ok-handle.ensures.cases) ∙ sym (ap drafts_in pushed ∙ map-append arc_value c.self.inside.messages.items (c.in_ok-handle.handle ∷ [])) in record {
      identities =
          subst (λ xs. IsIndexBy identity_of same_identity c.file_by_identity.new.index xs) longer
          (c.in_ok-file_by_identity.ensures.ok ds c.self.invariant.identities);
      digests =
          subst (λ xs. IsIndexBy digest_of nat_eq c.file_by_digest.new.index (against_in xs)) longer
          (subst (λ xs. IsIndexBy digest_of nat_eq c.file_by_digest.new.index xs) (sym (against_in-found ds m found))
          (c.in_default.ensures.ok (against_in ds) c.self.invariant.digests));
    }
