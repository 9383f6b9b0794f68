-- The archive of two sets. Proof plumbing.
use Rattle.std.specs.FinSet as set
use Rattle.std.specs.FinSet.{contains-union}
use Rattle.std.specs.Prelude.{Contains, if◌then◌else◌}
use Rattle.std.proofs.Common.{◌≡◌, ◌∙◌, ap, inl, inr, Bool, true, false, ◌||◌, ◌++◌}
use Rattle.std.specs.List.{flat_map}
use Rattle.std.proofs.lemmas.Bool.{false_from_ne_true, false≢true}
use Rattle.std.proofs.lemmas.List.Elements.{Contains-append_cases, Contains-append_left, Contains-append_right}
use Rattle.sct_message.specs.Ascending.{ascending}
use Rattle.sct_message.specs.Keys.{identity_of}
use Rattle.sct_message.specs.OrderLaws.{message_total}
use Rattle.sct_message.specs.Sets.{MessageSet}
use Rattle.sct_message.specs.declared.draft.Draft.{Draft}
use Rattle.sct_message.proofs.Tests.{or_false}
use Rattle.sct_case.proofs.Membership.{ascending_in, in_ascending}
use Rattle.sct_set.specs.Archive.{added_of, added_where, archive_text_of, has_identity, in_text_order, line_of, line_order}
use Rattle.sct_set.specs.LineOrder.{line_order_total}
use Rattle.sct_set.specs.declared.added.Added.TheVariants as added
use Rattle.sct_set.proofs.TextLemmas.{line_order_same}
use Rattle.sct_view.proofs.EvaluationLemmas.{any_union}
use Rattle.std.proofs.Common.{refl, sym}
use Rattle.sct_parts.proofs.Members.{same_members, of_either, of_first, of_second, has_it}
use Rattle.sct_case.proofs.Stays.{held_from, in_items}
use Rattle.sct_parts.specs.PartsLaws.{ArchiveIsThatOfTheParts}

pub told_held : (s : MessageSet) (m : Draft) → Contains (in_text_order s) m → set.contains s m ≡ true
unfolding in_text_order
told_held s m h = held_from s m (in_ascending line_order_total line_order_same (set.items s) m h)

pub held_told : (s : MessageSet) (m : Draft) → set.contains s m ≡ true → Contains (in_text_order s) m
unfolding in_text_order
held_told s m h = ascending_in line_order_total line_order_same (set.items s) m (in_items s m h)

module _ (a b : MessageSet) where
  order_of_both : in_text_order (set.union a b) ≡ ascending line_order (in_text_order a ++ in_text_order b)
  unfolding in_text_order
  order_of_both =
      same_members line_order_total line_order_same (set.items (set.union a b)) (in_text_order a ++ in_text_order b)
      (λ m h. elim (of_either a b m (held_from (set.union a b) m h)) as (λ _. Contains (in_text_order a ++ in_text_order b) m) [
        | inl p ↦ Contains-append_left (in_text_order a) (in_text_order b) m (held_told a m p)
        | inr p ↦ Contains-append_right (in_text_order a) (in_text_order b) m (held_told b m p)
      ])
      (λ m h. in_items (set.union a b) m (elim (Contains-append_cases (in_text_order a) (in_text_order b) m h) as (λ _. set.contains (set.union a b) m ≡ true) [
        | inl p ↦ of_first a b m (told_held a m p)
        | inr p ↦ of_second a b m (told_held b m p)
      ]))

  text_of_both : archive_text_of (set.union a b) ≡ flat_map line_of (ascending line_order (in_text_order a ++ in_text_order b))
  unfolding archive_text_of
  text_of_both = ap (flat_map line_of) order_of_both

  module _ (m : Draft) (none : has_identity b (identity_of m) ≡ false) where
    same_held : set.contains (set.union a b) m ≡ set.contains a m
    same_held =
        contains-union message_total a b m
        ∙ ap (λ (x : Bool). set.contains a m || x) (false_from_ne_true _ (λ held. false≢true (sym none ∙ has_it b m (identity_of m) held refl)))
        ∙ or_false (set.contains a m)

    same_has : has_identity (set.union a b) (identity_of m) ≡ has_identity a (identity_of m)
    same_has = any_union _ a b ∙ ap (λ (x : Bool). has_identity a (identity_of m) || x) none ∙ or_false (has_identity a (identity_of m))

    same_answer : added_of (set.union a b) m ≡ added_of a m
    unfolding added_of
    same_answer = λ i. if same_held i then added.Repeat else added_where (same_has i)

pub archive_of_parts : ArchiveIsThatOfTheParts
archive_of_parts = record { lines = text_of_both; answer = same_answer }
