-- Contradicted identities of parts that are apart. Proof plumbing.
use Rattle.std.specs.FinSet as set
use Rattle.std.specs.Prelude.{◌⊎◌, Contains}
use Rattle.std.proofs.Common.{◌≡◌, ◌∙◌, sym, inl, inr, true, ◌++◌}
use Rattle.std.proofs.lemmas.List.Elements.{Contains-append_cases, Contains-append_left, Contains-append_right}
use Rattle.sct_message.specs.Ascending.{ascending}
use Rattle.sct_message.specs.Order.{identity_order}
use Rattle.sct_message.specs.OrderLaws.{identity_total, identities_same}
use Rattle.sct_message.specs.Sets.{MessageSet}
use Rattle.sct_message.specs.declared.draft.Draft.{Draft}
use Rattle.sct_message.specs.declared.keys.Identity.{Identity}
use Rattle.sct_message.proofs.AscendingLemmas.{ascending-sorted}
use Rattle.sct_set.specs.Contradictions.{IsContradicted, contradicted_identities}
use Rattle.sct_set.proofs.LawLemmas.{contradictions_told, told_in_order}
use Rattle.sct_parts.specs.PartsLaws.{ContradictionsAreThoseOfTheParts}
use Rattle.sct_parts.specs.Parts.{ShareNothing}
use Rattle.sct_parts.proofs.Members.{same_members, of_either, of_first, of_second}
use Rattle.sct_parts.proofs.ApartLemmas.{by_messages}

module _ (a b : MessageSet) (apart : ShareNothing a b) (i : Identity) where
  pub in_part : IsContradicted (set.union a b) i → IsContradicted a i ⊎ IsContradicted b i
  in_part c =
      let same = c.one_has_it ∙ sym c.other_has_it in
      elim (of_either a b c.one c.one_held) as (λ _. IsContradicted a i ⊎ IsContradicted b i) [
        | inl p ↦ elim (of_either a b c.other c.other_held) as (λ _. IsContradicted a i ⊎ IsContradicted b i) [
          | inl q ↦ inl (record { one = c.one; other = c.other; one_held = p; other_held = q; different = c.different; one_has_it = c.one_has_it; other_has_it = c.other_has_it })
          | inr q ↦ absurd ((apart c.one c.other p q).identities same)
        ]
        | inr p ↦ elim (of_either a b c.other c.other_held) as (λ _. IsContradicted a i ⊎ IsContradicted b i) [
          | inl q ↦ absurd ((apart c.other c.one q p).identities (sym same))
          | inr q ↦ inr (record { one = c.one; other = c.other; one_held = p; other_held = q; different = c.different; one_has_it = c.one_has_it; other_has_it = c.other_has_it })
        ]
      ]

-- a larger set contradicts as much
still : (s u : MessageSet) → ((m : Draft) → set.contains s m ≡ true → set.contains u m ≡ true) → (i : Identity) → IsContradicted s i → IsContradicted u i
still s u within i c = record {
  one = c.one;
  other = c.other;
  one_held = within c.one c.one_held;
  other_held = within c.other c.other_held;
  different = c.different;
  one_has_it = c.one_has_it;
  other_has_it = c.other_has_it;
}

pub from_part : (a b : MessageSet) (i : Identity) → IsContradicted a i ⊎ IsContradicted b i → IsContradicted (set.union a b) i
from_part a b i (inl c) = still a (set.union a b) (of_first a b) i c
from_part a b i (inr c) = still b (set.union a b) (of_second a b) i c

module _ (a b : MessageSet) (apart : ShareNothing a b) where
  told_by_part : (i : Identity) → IsContradicted a i ⊎ IsContradicted b i → Contains (contradicted_identities a ++ contradicted_identities b) i
  told_by_part i (inl c) = Contains-append_left (contradicted_identities a) (contradicted_identities b) i ((contradictions_told a i).1 c)
  told_by_part i (inr c) = Contains-append_right (contradicted_identities a) (contradicted_identities b) i ((contradictions_told b i).1 c)

  by_part : (i : Identity) → Contains (contradicted_identities a) i ⊎ Contains (contradicted_identities b) i → IsContradicted a i ⊎ IsContradicted b i
  by_part i (inl h) = inl ((contradictions_told a i).0 h)
  by_part i (inr h) = inr ((contradictions_told b i).0 h)

  all_told : contradicted_identities (set.union a b) ≡ ascending identity_order (contradicted_identities a ++ contradicted_identities b)
  all_told =
      let u = set.union a b in
      sym (ascending-sorted identity_total identities_same (contradicted_identities u) (told_in_order u))
      ∙ same_members identity_total identities_same (contradicted_identities u) (contradicted_identities a ++ contradicted_identities b)
      (λ i h. told_by_part i (in_part a b apart i ((contradictions_told u i).0 h)))
      (λ i h. (contradictions_told u i).1 (from_part a b i (by_part i (Contains-append_cases (contradicted_identities a) (contradicted_identities b) i h))))

pub contradictions_of_parts : ContradictionsAreThoseOfTheParts
contradictions_of_parts = record {
  each = λ a b apart i. (in_part a b (by_messages a b apart) i, from_part a b i);
  listed = λ a b apart. all_told a b (by_messages a b apart);
}
