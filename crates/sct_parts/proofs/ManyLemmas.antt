-- Many parts that are apart. Proof plumbing.
use Rattle.std.specs.FinSet as set
use Rattle.std.specs.FinSet.{contains-empty}
use Rattle.std.specs.Prelude.{◌⊎◌, Contains, if◌then◌else◌}
use Rattle.std.specs.Cmp.{both_ways}
use Rattle.std.proofs.Common.{◌≡◌, ◌∙◌, refl, sym, ap, subst, inl, inr, ℕ, true, List, [], ◌∷◌}
use Rattle.std.proofs.lemmas.Bool.{false_from_ne_true, false≢true}
use Rattle.sct_message.specs.Order.{message_order}
use Rattle.sct_message.specs.Sets.{MessageSet}
use Rattle.sct_message.specs.Transfers.{keys_of}
use Rattle.sct_message.specs.declared.draft.Draft.{Draft}
use Rattle.sct_message.specs.declared.keys.Identity.{Identity}
use Rattle.sct_message.specs.declared.keys.TransferKey.{TransferKey}
use Rattle.sct_case.proofs.Membership.{first_or_later, flat_mapped_in, in_flat_map, here, later, nothing as not_there}
use Rattle.sct_set.specs.Contradictions.{IsContradicted}
use Rattle.sct_view.specs.Totals.{nothing, plus, share_of, totals_of}
use Rattle.sct_view.proofs.BankLemmas.{number_of}
use Rattle.sct_view.proofs.SumLemmas.{sum_none}
use Rattle.sct_view.proofs.TotalsLemmas.{by_numbers}
use Rattle.std.specs.List.{flat_map}
use Rattle.std.proofs.Common.{◌++◌}
use Rattle.std.proofs.lemmas.List.Elements.{Contains-append_cases, Contains-append_left, Contains-append_right}
use Rattle.sct_message.specs.Ascending.{ascending}
use Rattle.sct_set.specs.Archive.{added_of, added_where, archive_text_of, has_identity, in_text_order, line_of, line_order}
use Rattle.sct_set.specs.declared.added.Added.TheVariants as added
use Rattle.sct_message.specs.Keys.{identity_of}
use Rattle.sct_message.proofs.SameValues.{identity_is}
use Rattle.sct_set.specs.LineOrder.{line_order_total}
use Rattle.sct_set.proofs.TextLemmas.{line_order_same}
use Rattle.sct_parts.specs.Parts.{AreApart, ShareNothing}
use Rattle.sct_parts.proofs.Members.{same_members, of_either, of_first, of_second, key_held, key_there, from_either, to_either, has_it, held_passing}
use Rattle.sct_case.proofs.Stays.{held_from, in_items}
use Rattle.sct_parts.proofs.ApartLemmas.{by_messages, from_both}
use Rattle.sct_parts.proofs.TransferLemmas.{of_first_part, of_second_part}
use Rattle.sct_parts.specs.PartsLaws.{IsOfThePart, ManyPartsAnswerTogether}
use Rattle.sct_parts.specs.Parts.{AreAllApart, totals_in, union_of}
use Rattle.sct_parts.proofs.ContradictionLemmas.{in_part, from_part}
use Rattle.sct_parts.proofs.SumsLemmas.{add_up, elsewhere}
use Rattle.sct_parts.proofs.ArchiveLemmas.{told_held, held_told}
use Rattle.sct_parts.proofs.RowLemmas.{row_alike, row_elsewhere, row_known}

-- ---- one part and the others

abbrev pub no_set : MessageSet
no_set = set.empty

pub none_held : (m : Draft) → set.contains no_set m ≡ true → ⊥
none_held m h = false≢true (sym (contains-empty message_order m) ∙ h)

-- a part that is apart from each of the others is apart from all of them together
pub apart_from_rest : (part : MessageSet) (parts : List MessageSet) → ((other : MessageSet) → Contains parts other → AreApart part other) → ShareNothing part (union_of parts)
apart_from_rest part [] each = λ one other held there. absurd (none_held other there)
apart_from_rest part (next ∷ parts) each =
    from_both part next (union_of parts) (by_messages part next (each next (here next parts))) (apart_from_rest part parts (λ other h. each other (later next parts other h)))

-- what is answered in a set as in its part, and in a larger set as in the set, is answered there as in the part
pub in_turn : (part some all : MessageSet) (t : TransferKey) → IsOfThePart part some t → IsOfThePart some all t → IsOfThePart part all t
in_turn part some all t first second = record {
  case = second.case ∙ first.case;
  answers = record {
    messages = second.answers.messages ∙ first.answers.messages;
    asides = second.answers.asides ∙ first.answers.asides;
    instruction = second.answers.instruction ∙ first.answers.instruction;
    status = second.answers.status ∙ first.answers.status;
    findings = second.answers.findings ∙ first.answers.findings;
    recalls = second.answers.recalls ∙ first.answers.recalls;
    recall = λ cxl. second.answers.recall cxl ∙ first.answers.recall cxl;
    shares = λ bank. second.answers.shares bank ∙ first.answers.shares bank;
  };
  lines = second.lines ∙ first.lines;
}

-- ---- contradictions

-- a part contradicts the identity
abbrev IsContradictedIn : List MessageSet → Identity → Type 0
IsContradictedIn parts i = (part : MessageSet) × Contains parts part × IsContradicted part i

in_a_part : (parts : List MessageSet) → AreAllApart parts → (i : Identity) → IsContradicted (union_of parts) i → IsContradictedIn parts i
in_a_part [] apart i c = absurd (none_held c.one c.one_held)
in_a_part (part ∷ parts) apart i c =
    elim (in_part part (union_of parts) (apart_from_rest part parts apart.0) i c) as (λ _. IsContradictedIn (part ∷ parts) i) [
      | inl h ↦ (part, here part parts, h)
      | inr h ↦ let r = in_a_part parts apart.1 i h in (r.0, later part parts r.0 r.1, r.2)
    ]

in_the_whole : (parts : List MessageSet) → AreAllApart parts → (i : Identity) (part : MessageSet) → Contains parts part → IsContradicted part i → IsContradicted (union_of parts) i
in_the_whole [] apart i part h c = absurd (not_there part h)
in_the_whole (next ∷ parts) apart i part h c =
    from_part next (union_of parts) i
    (elim (first_or_later next parts part h) as (λ _. IsContradicted next i ⊎ IsContradicted (union_of parts) i) [
      | inl e ↦ inl (subst (λ (s : MessageSet). IsContradicted s i) (sym e) c)
      | inr k ↦ inr (in_the_whole parts apart.1 i part k c)
    ])

-- ---- transfers

key_of_whole : (parts : List MessageSet) (part : MessageSet) (t : TransferKey) → Contains parts part → Contains (keys_of part) t → Contains (keys_of (union_of parts)) t
key_of_whole [] part t h key = absurd (not_there part h)
key_of_whole (next ∷ parts) part t h key =
    from_either next (union_of parts) t
    (elim (first_or_later next parts part h) as (λ _. Contains (keys_of next) t ⊎ Contains (keys_of (union_of parts)) t) [
      | inl e ↦ inl (subst (λ (s : MessageSet). Contains (keys_of s) t) (sym e) key)
      | inr k ↦ inr (key_of_whole parts part t k key)
    ])

pub key_in_a_part : (parts : List MessageSet) (t : TransferKey) → Contains (keys_of (union_of parts)) t
    → (part : MessageSet) × Contains parts part × Contains (keys_of part) t
key_in_a_part [] t key = let m = key_held no_set t key in absurd (none_held m.0 m.1)
key_in_a_part (next ∷ parts) t key =
    elim (Contains-append_cases (keys_of next) (keys_of (union_of parts)) t (to_either next (union_of parts) t key)) as (λ _. (part : MessageSet) × Contains (next ∷ parts) part × Contains (keys_of part) t) [
      | inl h ↦ (next, here next parts, h)
      | inr h ↦ let r = key_in_a_part parts t h in (r.0, later next parts r.0 r.1, r.2)
    ]

pub answered_in_whole : (parts : List MessageSet) → AreAllApart parts → (part : MessageSet) (t : TransferKey) → Contains parts part → Contains (keys_of part) t
    → IsOfThePart part (union_of parts) t
answered_in_whole [] apart part t h key = absurd (not_there part h)
answered_in_whole (next ∷ parts) apart part t h key =
    let rest = union_of parts in
    let away = apart_from_rest next parts apart.0 in
    elim (first_or_later next parts part h) as (λ _. IsOfThePart part (set.union next rest) t) [
      | inl e ↦ subst (λ (s : MessageSet). IsOfThePart s (set.union next rest) t) e
          (of_first_part next rest t away (subst (λ (s : MessageSet). Contains (keys_of s) t) (sym e) key))
      | inr k ↦ in_turn part rest (set.union next rest) t (answered_in_whole parts apart.1 part t k key)
          (of_second_part next rest t away (key_of_whole parts part t k key))
    ]

-- ---- totals

pub no_totals : (bank : List ℕ) → totals_of no_set bank ≡ nothing
no_totals bank =
    by_numbers (totals_of no_set bank) nothing (λ n is.
    number_of n is no_set bank
    ∙ sum_none (λ t. n (share_of no_set bank t))
    (λ t. ap n (elsewhere no_set bank t (false_from_ne_true _ (λ e. let m = key_held no_set t (key_there no_set t e) in none_held m.0 m.1))) ∙ is.none)
    (keys_of no_set)
    ∙ sym is.none)

pub all_add_up : (parts : List MessageSet) → AreAllApart parts → (bank : List ℕ) → totals_of (union_of parts) bank ≡ totals_in parts bank
all_add_up [] apart bank = no_totals bank
all_add_up (part ∷ parts) apart bank =
    add_up part (union_of parts) bank (apart_from_rest part parts apart.0)
    ∙ ap (plus (totals_of part bank)) (all_add_up parts apart.1 bank)

-- ---- the archive

in_parts : (parts : List MessageSet) (m : Draft) → set.contains (union_of parts) m ≡ true → Contains (flat_map in_text_order parts) m
in_parts [] m h = absurd (none_held m h)
in_parts (part ∷ parts) m h =
    elim (of_either part (union_of parts) m h) as (λ _. Contains (in_text_order part ++ flat_map in_text_order parts) m) [
      | inl p ↦ Contains-append_left (in_text_order part) (flat_map in_text_order parts) m (held_told part m p)
      | inr p ↦ Contains-append_right (in_text_order part) (flat_map in_text_order parts) m (in_parts parts m p)
    ]

in_union : (parts : List MessageSet) (m : Draft) → Contains (flat_map in_text_order parts) m → set.contains (union_of parts) m ≡ true
in_union [] m h = absurd (not_there m h)
in_union (part ∷ parts) m h =
    elim (Contains-append_cases (in_text_order part) (flat_map in_text_order parts) m h) as (λ _. set.contains (set.union part (union_of parts)) m ≡ true) [
      | inl p ↦ of_first part (union_of parts) m (told_held part m p)
      | inr p ↦ of_second part (union_of parts) m (in_union parts m p)
    ]

order_of_all : (parts : List MessageSet) → ascending line_order (set.items (union_of parts)) ≡ ascending line_order (flat_map in_text_order parts)
order_of_all parts =
    same_members line_order_total line_order_same (set.items (union_of parts)) (flat_map in_text_order parts)
    (λ m h. in_parts parts m (held_from (union_of parts) m h))
    (λ m h. in_items (union_of parts) m (in_union parts m h))

text_of_all : (parts : List MessageSet) → archive_text_of (union_of parts) ≡ flat_map line_of (ascending line_order (flat_map in_text_order parts))
unfolding archive_text_of in_text_order
text_of_all parts = ap (flat_map line_of) (order_of_all parts)

-- ---- the answer to a message

-- a message of the whole is of a part, and one of a part is of the whole
part_holding : (parts : List MessageSet) (m : Draft) → set.contains (union_of parts) m ≡ true → (part : MessageSet) × Contains parts part × (set.contains part m ≡ true)
part_holding parts m e = let r = in_flat_map in_text_order parts m (in_parts parts m e) in (r.0, r.1, told_held r.0 m r.2)

held_by_whole : (parts : List MessageSet) (part : MessageSet) (m : Draft) → Contains parts part → set.contains part m ≡ true → set.contains (union_of parts) m ≡ true
held_by_whole parts part m h e = in_union parts m (flat_mapped_in in_text_order parts part m h (held_told part m e))

module _ (parts : List MessageSet) (part : MessageSet) (m : Draft) (h : Contains parts part)
    (alone : (other : MessageSet) → Contains parts other → has_identity other (identity_of m) ≡ true → other ≡ part) where
  abbrev its : Identity
  its = identity_of m

  one_of_its : (other : MessageSet) (d : Draft) → Contains parts other → set.contains other d ≡ true → identity_of d ≡ its → set.contains part d ≡ true
  one_of_its other d k held is = subst (λ (s : MessageSet). set.contains s d ≡ true) (alone other k (has_it other d its held is)) held

  held_alike : set.contains (union_of parts) m ≡ set.contains part m
  held_alike = both_ways _ _ (λ e. let r = part_holding parts m e in one_of_its r.0 m r.1 r.2 refl) (held_by_whole parts part m h)

  had_alike : has_identity (union_of parts) its ≡ has_identity part its
  had_alike =
      both_ways _ _
      (λ e.
      let d = held_passing (union_of parts) _ e in
      let is = identity_is (identity_of d.0) its d.2 in
      let r = part_holding parts d.0 d.1 in
      has_it part d.0 its (one_of_its r.0 d.0 r.1 r.2 is) is)
      (λ e.
      let d = held_passing part _ e in
      has_it (union_of parts) d.0 its (held_by_whole parts part d.0 h d.1) (identity_is (identity_of d.0) its d.2))

  answered_alike : added_of (union_of parts) m ≡ added_of part m
  unfolding added_of
  answered_alike = λ i. if held_alike i then added.Repeat else added_where (had_alike i)

-- ---- the law

pub many_parts : ManyPartsAnswerTogether
many_parts = record {
  contradictions = λ parts apart i. (in_a_part parts apart i, λ c. in_the_whole parts apart i c.0 c.1 c.2);
  keys = λ parts t. (key_in_a_part parts t, λ k. key_of_whole parts k.0 t k.1 k.2);
  lines = answered_in_whole;
  totals = all_add_up;
  rows = λ parts apart part list t h key. row_alike part (union_of parts) list t (answered_in_whole parts apart part t h key).answers;
  own_rows = row_known;
  other_rows = row_elsewhere;
  archive = text_of_all;
  answer = answered_alike;
}
