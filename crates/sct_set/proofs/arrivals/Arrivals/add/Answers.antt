-- The index by identity gains the first message of an identity, or shows the first one.
use Rattle.std.proofs.Common.{ap, sym, subst, nat_eq, false, ◌∙◌, ◌++◌, ◌∷◌, []}
use Rattle.std.specs.Arc.{arc_value}
use Rattle.sct_message.specs.Keys.{identity_of}
use Rattle.sct_message.specs.Order.{same_identity}
use Rattle.sct_set.specs.Digest.{digest_of}
use Rattle.sct_set.specs.Drafts.{against_in, drafts_in, drafts_of, finds, IsIndexBy}
use Rattle.sct_set.specs.Filing.{is_first_in}
use Rattle.sct_set.proofs.AgainstLemmas.{against_in-first}
use Rattle.sct_set.proofs.ArchiveLemmas.{added-absent, added-held, held-first, held-none}
use Rattle.sct_set.proofs.ContentsLemmas.{any_items, with_new-absent, with_new-held}
use Rattle.sct_set.proofs.arrivals.Arrivals.add.Goals as goal

pub invariant_of-self-in-Err : goal.invariant_of-self-in-Err
invariant_of-self-in-Err c =
    let ds = drafts_in c.self.inside.messages.items in
    rw c.in-Err.ensures.err (record {
      identities =
          c.unfile_by_identity.ensures ds
          (subst (λ d. IsIndexBy identity_of same_identity c.file_first.new.index (ds ++ d ∷ [])) (sym c.deref.ensures)
          (c.in_ok-file_first.ensures.filed c.in-Filed.is ds c.self.invariant.identities));
      digests = c.self.invariant.digests;
    })

pub invariant_of-self-in_default : goal.invariant_of-self-in_default
invariant_of-self-in_default c =
    let ds = drafts_in c.self.inside.messages.items in
    let none = c.in_ok-file_first.ensures.none c.in-Filed.is ds c.self.invariant.identities in
    let longer = sym c.in_default.ensures.ok in record {
      identities =
          subst (λ xs. IsIndexBy identity_of same_identity c.file_first.new.index xs) longer
          (c.in_ok-file_first.ensures.filed c.in-Filed.is ds c.self.invariant.identities);
      digests =
          subst (λ xs. IsIndexBy digest_of nat_eq c.self.inside.by_digest (against_in xs)) longer
          (subst (λ xs. IsIndexBy digest_of nat_eq c.self.inside.by_digest xs) (sym (against_in-first ds (arc_value c.args.message.now) none)) c.self.invariant.digests);
    }

pub returns-in_default-clause-answer : goal.returns-in_default-clause-answer
returns-in_default-clause-answer c =
    let i = identity_of (arc_value c.args.message.now) in
    let none = ap (finds i) (sym c.self.view_is) ∙ c.in_ok-file_first.ensures.none c.in-Filed.is (drafts_in c.self.inside.messages.items) c.self.invariant.identities in
    added-absent _ _ false (held-none _ _ none) (sym (any_items (λ d. same_identity (identity_of d) i) c.args.self.now ∙ none))

pub returns-in_default-clause-ok : goal.returns-in_default-clause-ok
returns-in_default-clause-ok c =
    let m = arc_value c.args.message.now in
    let none = ap (finds (identity_of m)) (sym c.self.view_is) ∙ c.in_ok-file_first.ensures.none c.in-Filed.is (drafts_in c.self.inside.messages.items) c.self.invariant.identities in
    c.in_default.ensures.ok ∙ ap (λ xs. xs ++ m ∷ []) c.self.view_is ∙ with_new-absent _ _ (held-none _ _ none)

pub returns-in-Same-clause-answer : goal.returns-in-Same-clause-answer
returns-in-Same-clause-answer c =
    let m = arc_value c.args.message.now in
    let first = ap (λ xs. is_first_in m (drafts_of (identity_of m) xs)) (sym c.self.view_is) ∙ c.in_ok-file_first.ensures.same c.in-Same.is (drafts_in c.self.inside.messages.items) c.self.invariant.identities in
    added-held _ _ (held-first _ _ first)

pub returns-in-Same-clause-ok : goal.returns-in-Same-clause-ok
returns-in-Same-clause-ok c =
    let m = arc_value c.args.message.now in
    let first = ap (λ xs. is_first_in m (drafts_of (identity_of m) xs)) (sym c.self.view_is) ∙ c.in_ok-file_first.ensures.same c.in-Same.is (drafts_in c.self.inside.messages.items) c.self.invariant.identities in
    c.self.view_is ∙ with_new-held _ _ (held-first _ _ first)
