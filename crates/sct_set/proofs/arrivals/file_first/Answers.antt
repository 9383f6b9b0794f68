-- The first message of its identity is in the index, or the first one is found there.
use Rattle.std.proofs.Common.{ap, length, nat_eq, not, sym, ◌∙◌}
use Rattle.std.specs.Arc.{arc_value}
use Rattle.sct_message.specs.Keys.{identity_of}
use Rattle.sct_message.specs.Order.{same_identity}
use Rattle.sct_set.specs.Drafts.{drafts_of}
use Rattle.sct_set.specs.Filing.{is_first_in}
use Rattle.sct_set.proofs.AgainstLemmas.{none_found}
use Rattle.sct_set.proofs.ArchiveLemmas.{found-is, found-some}
use Rattle.sct_set.proofs.IndexLemmas.{IsIndexBy-at, IsIndexBy-first, IsIndexBy-some}
use Rattle.sct_set.proofs.arrivals.file_first.Goals as goal

pub returns-clause-none : goal.returns-clause-none
returns-clause-none c is ds indexed =
    let key = c.identity.ensures ∙ ap identity_of c.deref.ensures in
    let at = IsIndexBy-at identity_of same_identity _ c.keys_are_ordered.ensures.identities_equal c.args.index.now c.args.index.now ds c.identity.result indexed ∙ ap (λ i. drafts_of i ds) key in
    sym (found-is _ ds _ at) ∙ ap (λ ms. not (nat_eq (length ms) 0)) (c.in_ok-at.ensures.none is)

pub returns-clause-filed : goal.returns-clause-filed
returns-clause-filed c is ds indexed =
    let key = c.identity.ensures ∙ ap identity_of c.deref.ensures in
    IsIndexBy-first identity_of same_identity _ c.keys_are_ordered.ensures.identities_equal c.args.index.now c.file_at_front.new.index _ (arc_value c.args.message.now) ds key indexed
    (none_found ds _ _ key (returns-clause-none c is ds indexed)) (c.in_ok-at.ensures.filed is) c.file_at_front.ensures.no_empty

pub returns-clause-same : goal.returns-clause-same
returns-clause-same c is ds indexed =
    let key = c.identity.ensures ∙ ap identity_of c.deref.ensures in
    let at = IsIndexBy-at identity_of same_identity _ c.keys_are_ordered.ensures.identities_equal c.args.index.now c.args.index.now ds c.identity.result indexed ∙ ap (λ i. drafts_of i ds) key in
    ap (is_first_in (arc_value c.args.message.now)) (sym at) ∙ c.in_ok-at.ensures.same is

pub returns-clause-other : goal.returns-clause-other
returns-clause-other c is ds indexed =
    let key = c.identity.ensures ∙ ap identity_of c.deref.ensures in
    let at = IsIndexBy-at identity_of same_identity _ c.keys_are_ordered.ensures.identities_equal c.args.index.now c.args.index.now ds c.identity.result indexed ∙ ap (λ i. drafts_of i ds) key in
    ap (is_first_in (arc_value c.args.message.now)) (sym at) ∙ c.in_ok-at.ensures.other is

pub returns-clause-found : goal.returns-clause-found
returns-clause-found c is ds indexed =
    let key = c.identity.ensures ∙ ap identity_of c.deref.ensures in
    let ties = c.keys_are_ordered.ensures.identities_equal in
    let at = IsIndexBy-at identity_of same_identity _ ties c.args.index.now c.args.index.now ds c.identity.result indexed ∙ ap (λ i. drafts_of i ds) key in
    found-some _ ds _ at (sym (IsIndexBy-some identity_of same_identity _ ties c.args.index.now c.args.index.now ds c.identity.result indexed) ∙ c.in_ok-at.ensures.found is)
