-- What is compared in turn is the order of the archive text.
use Rattle.std.proofs.Common.{◌≡◌, true, false, ap, sym, ◌∙◌, Ordering, refl}
use Rattle.std.specs.declared.cmp.Ordering.TheVariants.{Less, Equal, Greater}
use Rattle.std.specs.Ordering.{is_ne, ordering_then, nat_cmp}
use Rattle.std.specs.Cmp.Lexicographic.{slice_cmp}
use Rattle.sct_message.specs.declared.draft.Draft.{Draft}
use Rattle.sct_message.specs.declared.keys.Identity.{Identity}
use Rattle.sct_message.specs.Keys.{identity_of}
use Rattle.sct_message.specs.Order.{identity_order, message_order}
use Rattle.sct_json.specs.Writing.{written_text}
use Rattle.sct_set.specs.Archive.{line_order}
use Rattle.sct_set.proofs.text.LineOrd.cmp.Goals as goal

settled : (r s : Ordering) → is_ne r ≡ true → r ≡ ordering_then r s
settled Less s e = refl
settled Equal s e = cc
settled Greater s e = refl

passed_on : (r s : Ordering) → is_ne r ≡ false → s ≡ ordering_then r s
passed_on Less s e = cc
passed_on Equal s e = refl
passed_on Greater s e = cc

by_parts : (a b : Draft) (r s t : Ordering) → r ≡ identity_order (identity_of a) (identity_of b) → s ≡ slice_cmp nat_cmp (written_text a) (written_text b) → t ≡ message_order a b
    → ordering_then r (ordering_then s t) ≡ line_order a b
unfolding line_order
by_parts a b r s t d e f = λ n. ordering_then (d n) (ordering_then (e n) (f n))

identities : (R : Identity → Identity → Ordering) → ((i j : Identity) → R i j ≡ identity_order i j) → {i j : Identity} (k l : Identity) → i ≡ k → j ≡ l → R i j ≡ identity_order k l
identities R is {i} {j} k l d e = is i j ∙ (λ n. identity_order (d n) (e n))

pub returns-then-is_ne : goal.returns-then-is_ne
returns-then-is_ne c =
    let d = c.cmp-by_identity.ensures ∙ identities _ c.keys_are_ordered.ensures.identities _ _ (c.self.invariant.0 ∙ ap identity_of c.self.view_is) (c.other.invariant.0 ∙ ap identity_of c.other.view_is) in
    settled _ _ (sym c.is_ne.ensures ∙ c.if-is_ne.true) ∙ by_parts c.args.self.now c.args.other.now _ _ _ d refl refl

pub returns-then-is_ne-2 : goal.returns-then-is_ne-2
returns-then-is_ne-2 c =
    let d = c.cmp-by_identity.ensures ∙ identities _ c.keys_are_ordered.ensures.identities _ _ (c.self.invariant.0 ∙ ap identity_of c.self.view_is) (c.other.invariant.0 ∙ ap identity_of c.other.view_is) in
    let e = c.cmp-by_text.ensures ∙ (λ n. slice_cmp nat_cmp ((c.self.invariant.1 ∙ ap written_text c.self.view_is) n) ((c.other.invariant.1 ∙ ap written_text c.other.view_is) n)) in
    settled _ _ (sym c.is_ne-2.ensures ∙ c.if-is_ne-2.true)
    ∙ passed_on _ _ (sym c.is_ne.ensures ∙ c.if-is_ne.false)
    ∙ by_parts c.args.self.now c.args.other.now _ _ _ d e refl

pub returns : goal.returns
returns c =
    let d = c.cmp-by_identity.ensures ∙ identities _ c.keys_are_ordered.ensures.identities _ _ (c.self.invariant.0 ∙ ap identity_of c.self.view_is) (c.other.invariant.0 ∙ ap identity_of c.other.view_is) in
    let e = c.cmp-by_text.ensures ∙ (λ n. slice_cmp nat_cmp ((c.self.invariant.1 ∙ ap written_text c.self.view_is) n) ((c.other.invariant.1 ∙ ap written_text c.other.view_is) n)) in
    passed_on _ _ (sym c.is_ne-2.ensures ∙ c.if-is_ne-2.false)
    ∙ passed_on _ _ (sym c.is_ne.ensures ∙ c.if-is_ne.false)
    ∙ by_parts c.args.self.now c.args.other.now _ _ _ d e (c.cmp.ensures ∙ (λ n. message_order (c.self.view_is n) (c.other.view_is n)))
