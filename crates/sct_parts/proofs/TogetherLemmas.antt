-- What many parts that are apart list together: transfers, banks, texts and reports. Proof plumbing.
use Rattle.std.specs.FinSet as set
use Rattle.std.specs.FinSet.{IsAntisymmetric}
use Rattle.std.specs.Prelude.{◌⊎◌, Contains, if◌then◌else◌}
use Rattle.std.proofs.Common.{◌≡◌, ◌∙◌, refl, sym, ap, subst, inl, inr, ℕ, Bool, true, false, List, [], ◌∷◌, ◌++◌, map, Ordering}
use Rattle.std.specs.Cmp.{IsTotalOrder}
use Rattle.std.specs.Cmp.Lexicographic.{nat_list_cmp_total}
use Rattle.std.specs.List.{flat_map}
use Rattle.std.specs.List.Sorted.{IsStrictlySortedBy}
use Rattle.std.proofs.lemmas.Bool.{false_from_ne_true}
use Rattle.std.proofs.lemmas.List.Elements.{Contains-append_cases, Contains-append_left, Contains-append_right}
use Rattle.std.proofs.lemmas.List.Kept.{IsStrictlySortedBy-filter}
use Rattle.sct_message.specs.Ascending.{ascending}
use Rattle.sct_message.specs.CellsBack.{texts_same}
use Rattle.sct_message.specs.Order.{transfer_order}
use Rattle.sct_message.specs.OrderLaws.{identity_total, identities_same, transfer_total, transfers_same}
use Rattle.sct_message.specs.Sets.{MessageSet}
use Rattle.sct_message.specs.Transfers.{instruction_of, keys_of}
use Rattle.sct_message.specs.declared.keys.TransferKey.{TransferKey}
use Rattle.sct_message.proofs.AscendingLemmas.{ascending-sorted, ascending_in, in_ascending}
use Rattle.sct_case.proofs.Membership.{any_tie, empty, first_or_later, flat_mapped_in, here, in_filter, in_flat_map, in_map, later, mapped_in, nothing as not_there}
use Rattle.sct_set.specs.Contradictions.{contradicted_identities}
use Rattle.sct_set.proofs.LawLemmas.{contradictions_told}
use Rattle.sct_view.specs.Answers.{transfers_of_bank}
use Rattle.sct_view.specs.StatusText.{status_text_of}
use Rattle.sct_view.specs.Totals.{banks_of}
use Rattle.sct_view.specs.TotalsText.{totals_line, totals_text_of}
use Rattle.sct_view.proofs.BankLemmas.{banks_have_totals}
use Rattle.sct_reconcile.specs.Reports.{is_of_day, keys_reported, report_of, row_on, transfers_on_day}
use Rattle.sct_reconcile.specs.declared.rows.ListedRow.{ListedRow}
use Rattle.sct_reconcile.specs.declared.rows.ReportRow.{ReportRow}
use Rattle.sct_parts.specs.PartsLaws.{IsOfThePart, IsPutTogether, ManyPartsArePutTogether}
use Rattle.sct_parts.specs.Parts.{AreAllApart, AreApart, IsReportedBy, banks_of_all, has_key, keys_of_all, keys_reported_of_all, lines_in_its_part, part_with, row_in_its_part, totals_in, union_of}
use Rattle.sct_parts.proofs.ApartLemmas.{by_keys, by_messages}
use Rattle.sct_parts.proofs.ContradictionLemmas.{contradictions_of_parts}
use Rattle.sct_parts.proofs.ManyLemmas.{all_add_up, answered_in_whole, apart_from_rest, in_turn, key_in_a_part, no_set, no_totals, none_held}
use Rattle.sct_parts.proofs.Members.{key_away, key_held, key_there, keys_of_union, same_members}
use Rattle.sct_parts.proofs.RowLemmas.{on_day_either, on_day_from, row_alike, row_elsewhere}
use Rattle.sct_parts.proofs.SumsLemmas.{totals_add_up}
use Rattle.sct_parts.proofs.TransferLemmas.{bank_key_of, banks_keys_rise, of_first_part, of_part_swapped, transfers_of_parts}

-- ---- lists in order

module _ {K : Type 0} {R : K → K → Ordering} (o : IsTotalOrder R) (same : IsAntisymmetric R) where
  -- a list that is put in order with another one need not be in order before
  order_once : (ks js : List K) → ascending R (ks ++ ascending R js) ≡ ascending R (ks ++ js)
  order_once ks js =
      same_members o same (ks ++ ascending R js) (ks ++ js)
      (λ q h. elim (Contains-append_cases ks (ascending R js) q h) as (λ _. Contains (ks ++ js) q) [
        | inl p ↦ Contains-append_left ks js q p
        | inr p ↦ Contains-append_right ks js q (in_ascending o same js q p)
      ])
      (λ q h. elim (Contains-append_cases ks js q h) as (λ _. Contains (ks ++ ascending R js) q) [
        | inl p ↦ Contains-append_left ks (ascending R js) q p
        | inr p ↦ Contains-append_right ks (ascending R js) q (ascending_in o same js q p)
      ])

  -- what two parts list together in order, many parts list together
  from_two : (f : MessageSet → List K) → ((a b : MessageSet) → AreApart a b → f (set.union a b) ≡ ascending R (f a ++ f b)) → f no_set ≡ []
      → (parts : List MessageSet) → AreAllApart parts → f (union_of parts) ≡ ascending R (flat_map f parts)
  unfolding IsStrictlySortedBy
  from_two f two none [] apart = none ∙ sym (ascending-sorted o same [] tt)
  from_two f two none (part ∷ parts) apart =
      two part (union_of parts) (by_keys part (union_of parts) (apart_from_rest part parts apart.0))
      ∙ ap (λ ks. ascending R (f part ++ ks)) (from_two f two none parts apart.1)
      ∙ order_once (f part) (flat_map f parts)

-- ---- the empty set

no_contradictions : contradicted_identities no_set ≡ []
no_contradictions = empty (contradicted_identities no_set) (λ i h. let c = (contradictions_told no_set i).0 h in none_held c.one c.one_held)

not_a_key : (t : TransferKey) → Contains (keys_of no_set) t → ⊥
not_a_key t h = let m = key_held no_set t h in none_held m.0 m.1

no_keys : keys_of no_set ≡ []
no_keys = empty (keys_of no_set) not_a_key

no_transfers : (bank : List ℕ) → transfers_of_bank no_set bank ≡ []
no_transfers bank = empty (transfers_of_bank no_set bank) (λ t h. not_a_key t (bank_key_of no_set bank t h))

no_banks : banks_of no_set ≡ []
no_banks = empty (banks_of no_set) (λ bank h. (banks_have_totals no_set bank).0 h (no_totals bank))

-- ---- the transfers of a bank on a day

day_key : (s : MessageSet) (bank day : List ℕ) (t : TransferKey) → Contains (transfers_on_day s bank day) t → Contains (keys_of s) t
day_key s bank day t h = bank_key_of s bank t (in_filter (λ key. is_of_day day (instruction_of s key)) (transfers_of_bank s bank) t h).0

none_on_day : (bank day : List ℕ) → transfers_on_day no_set bank day ≡ []
none_on_day bank day = empty (transfers_on_day no_set bank day) (λ t h. not_a_key t (day_key no_set bank day t h))

days_rise : (s : MessageSet) (bank day : List ℕ) → IsStrictlySortedBy transfer_order (transfers_on_day s bank day)
days_rise s bank day = IsStrictlySortedBy-filter transfer_order (λ key. is_of_day day (instruction_of s key)) (transfers_of_bank s bank) (banks_keys_rise s bank)

days_of_both : (bank day : List ℕ) (a b : MessageSet) → AreApart a b
    → transfers_on_day (set.union a b) bank day ≡ ascending transfer_order (transfers_on_day a bank day ++ transfers_on_day b bank day)
days_of_both bank day a b apart =
    let u = set.union a b in
    let shared = by_messages a b apart in
    let of_a = transfers_on_day a bank day in
    let of_b = transfers_on_day b bank day in
    sym (ascending-sorted transfer_total transfers_same (transfers_on_day u bank day) (days_rise u bank day))
    ∙ same_members transfer_total transfers_same (transfers_on_day u bank day) (of_a ++ of_b)
    (λ t h. elim (on_day_either a b shared bank day t h) as (λ _. Contains (of_a ++ of_b) t) [
      | inl p ↦ Contains-append_left of_a of_b t p
      | inr p ↦ Contains-append_right of_a of_b t p
    ])
    (λ t h. on_day_from a b shared bank day t (Contains-append_cases of_a of_b t h))

-- ---- the part that has a transfer

itself : (s : MessageSet) (t : TransferKey) → IsOfThePart s s t
itself s t = record {
  case = refl;
  answers = record {
    messages = refl;
    asides = refl;
    instruction = refl;
    status = refl;
    findings = refl;
    recalls = refl;
    recall = λ cxl. refl;
    shares = λ bank. refl;
  };
  lines = refl;
}

-- each transfer is answered as in the part that has it
as_in_its_part : (parts : List MessageSet) → AreAllApart parts → (t : TransferKey) → IsOfThePart (part_with parts t) (union_of parts) t
as_in_its_part [] apart t = itself no_set t
as_in_its_part (part ∷ parts) apart t =
    let rest = union_of parts in
    let away = apart_from_rest part parts apart.0 in
    elim (has_key part t) as (λ x. has_key part t ≡ x → IsOfThePart (if x then part else part_with parts t) (set.union part rest) t) [
      | true ↦ λ e. of_first_part part rest t away (key_there part t e)
      | false ↦ λ e. in_turn (part_with parts t) rest (set.union part rest) t (as_in_its_part parts apart.1 t)
          (of_part_swapped part rest away t (key_away part t e))
    ] refl

is_its_part : (parts : List MessageSet) → AreAllApart parts → (part : MessageSet) (t : TransferKey)
    → Contains parts part → Contains (keys_of part) t → part_with parts t ≡ part
is_its_part [] apart part t h key = absurd (not_there part h)
is_its_part (next ∷ parts) apart part t h key =
    let chosen = λ (x : Bool). if x then next else part_with parts t in
    elim (first_or_later next parts part h) as (λ _. part_with (next ∷ parts) t ≡ part) [
      | inl e ↦ ap chosen (any_tie transfer_total transfers_same (keys_of next) t (subst (λ (s : MessageSet). Contains (keys_of s) t) (sym e) key)) ∙ e
      | inr k ↦ ap chosen (false_from_ne_true _ (λ e. (apart.0 part k).transfers t (key_there next t e) key)) ∙ is_its_part parts apart.1 part t k key
    ]

of_no_part : (parts : List MessageSet) (t : TransferKey) → ((part : MessageSet) → Contains parts part → Contains (keys_of part) t → ⊥)
    → part_with parts t ≡ no_set
of_no_part [] t none = refl
of_no_part (next ∷ parts) t none =
    ap (λ (x : Bool). if x then next else part_with parts t) (false_from_ne_true _ (λ e. none next (here next parts) (key_there next t e)))
    ∙ of_no_part parts t (λ part h. none part (later next parts part h))

key_of_all : (parts : List MessageSet) (part : MessageSet) (t : TransferKey) → Contains parts part → Contains (keys_of part) t → Contains (keys_of_all parts) t
key_of_all parts part t h key = ascending_in transfer_total transfers_same (flat_map keys_of parts) t (flat_mapped_in keys_of parts part t h key)

-- ---- lists and texts

module _ (parts : List MessageSet) (apart : AreAllApart parts) where
  keys_together : keys_of (union_of parts) ≡ keys_of_all parts
  keys_together = from_two transfer_total transfers_same keys_of (λ a b _. keys_of_union a b) no_keys parts apart

  days_together : (bank day : List ℕ) → transfers_on_day (union_of parts) bank day ≡ ascending transfer_order (flat_map (λ part. transfers_on_day part bank day) parts)
  days_together bank day =
      from_two transfer_total transfers_same (λ part. transfers_on_day part bank day) (days_of_both bank day) (none_on_day bank day) parts apart

  banks_together : banks_of (union_of parts) ≡ banks_of_all parts
  banks_together = from_two nat_list_cmp_total texts_same banks_of totals_add_up.banks no_banks parts apart

  status_together : status_text_of (union_of parts) ≡ flat_map (lines_in_its_part parts) (keys_of_all parts)
  unfolding status_text_of
  status_together = λ i. flat_map (λ t. (as_in_its_part parts apart t).lines i) (keys_together i)

  totals_together : totals_text_of (union_of parts) ≡ flat_map (λ bank. totals_line bank (totals_in parts bank)) (banks_of_all parts)
  unfolding totals_text_of
  totals_together = λ i. flat_map (λ bank. totals_line bank (all_add_up parts apart bank i)) (banks_together i)

  keys_reported_together : (bank day : List ℕ) (list : List ListedRow) → keys_reported (union_of parts) bank day list ≡ keys_reported_of_all parts bank day list
  keys_reported_together bank day list =
      let listed = map (λ (row : ListedRow). row.key) list in
      ap (λ ks. ascending transfer_order (listed ++ ks)) (days_together bank day)
      ∙ order_once transfer_total transfers_same listed (flat_map (λ part. transfers_on_day part bank day) parts)

  report_together : (bank day : List ℕ) (list : List ListedRow)
      → report_of (union_of parts) bank day list ≡ map (row_in_its_part parts list) (keys_reported_of_all parts bank day list)
  unfolding report_of
  report_together bank day list = λ i.
      map (λ t. row_alike (part_with parts t) (union_of parts) list t (as_in_its_part parts apart t).answers i)
      (keys_reported_together bank day list i)

  pub all_together : IsPutTogether parts
  all_together = record {
    contradictions = from_two identity_total identities_same contradicted_identities contradictions_of_parts.listed no_contradictions parts apart;
    keys = keys_together;
    status_text = status_together;
    transfers = λ bank.
        from_two transfer_total transfers_same (λ part. transfers_of_bank part bank) (λ a b. transfers_of_parts a b bank) (no_transfers bank) parts apart;
    banks = banks_together;
    totals_text = totals_together;
    on_day = days_together;
    report = report_together;
  }

-- ---- the rows of a report

module _ (s : MessageSet) (bank day : List ℕ) (list : List ListedRow) where
  abbrev listed_keys : List TransferKey
  listed_keys = map (λ (row : ListedRow). row.key) list

  -- the row that is reported is that of its transfer
  its_row : (row : ReportRow) → Contains (report_of s bank day list) row → Contains (keys_reported s bank day list) row.key × (row_on s list row.key ≡ row)
  unfolding report_of
  its_row row h =
      let r = in_map (row_on s list) (keys_reported s bank day list) row h in
      let key_is = ap (λ (x : ReportRow). x.key) r.2 in
      (subst (Contains (keys_reported s bank day list)) key_is r.1, ap (row_on s list) (sym key_is) ∙ r.2)

  has_its_row : (row : ReportRow) → Contains (keys_reported s bank day list) row.key → row_on s list row.key ≡ row → Contains (report_of s bank day list) row
  unfolding report_of
  has_its_row row h e = subst (Contains (map (row_on s list) (keys_reported s bank day list))) e (mapped_in (row_on s list) (keys_reported s bank day list) row.key h)

  why_reported : (t : TransferKey) → Contains (keys_reported s bank day list) t → Contains listed_keys t ⊎ Contains (transfers_on_day s bank day) t
  why_reported t h = Contains-append_cases listed_keys (transfers_on_day s bank day) t (in_ascending transfer_total transfers_same (listed_keys ++ transfers_on_day s bank day) t h)

  if_listed : (t : TransferKey) → Contains listed_keys t → Contains (keys_reported s bank day list) t
  if_listed t h = ascending_in transfer_total transfers_same (listed_keys ++ transfers_on_day s bank day) t (Contains-append_left listed_keys (transfers_on_day s bank day) t h)

  if_on_day : (t : TransferKey) → Contains (transfers_on_day s bank day) t → Contains (keys_reported s bank day list) t
  if_on_day t h = ascending_in transfer_total transfers_same (listed_keys ++ transfers_on_day s bank day) t (Contains-append_right listed_keys (transfers_on_day s bank day) t h)

module _ (parts : List MessageSet) (apart : AreAllApart parts) (bank day : List ℕ) (list : List ListedRow) where
  abbrev whole : MessageSet
  whole = union_of parts

  abbrev IsReported : ReportRow → MessageSet → Type 0
  IsReported = IsReportedBy parts bank day list

  day_in_a_part : (t : TransferKey) → Contains (transfers_on_day whole bank day) t → (part : MessageSet) × Contains parts part × Contains (transfers_on_day part bank day) t
  day_in_a_part t h =
      in_flat_map (λ part. transfers_on_day part bank day) parts t
      (in_ascending transfer_total transfers_same _ t (subst (λ (ks : List TransferKey). Contains ks t) (days_together parts apart bank day) h))

  day_in_the_whole : (part : MessageSet) (t : TransferKey) → Contains parts part → Contains (transfers_on_day part bank day) t → Contains (transfers_on_day whole bank day) t
  day_in_the_whole part t h on =
      subst (λ (ks : List TransferKey). Contains ks t) (sym (days_together parts apart bank day))
      (ascending_in transfer_total transfers_same _ t (flat_mapped_in (λ p. transfers_on_day p bank day) parts part t h on))

  not_in_the_whole : (t : TransferKey) → (Contains (keys_of_all parts) t → ⊥) → Contains (keys_of whole) t → ⊥
  not_in_the_whole t none key = none (subst (λ (ks : List TransferKey). Contains ks t) (keys_together parts apart) key)

  same_row : (part : MessageSet) (t : TransferKey) → Contains parts part → Contains (keys_of part) t → row_on whole list t ≡ row_on part list t
  same_row part t h key = row_alike part whole list t (answered_in_whole parts apart part t h key).answers

  -- a transfer that no part has is reported alike by all parts
  no_row : (part : MessageSet) (t : TransferKey) → Contains parts part → (Contains (keys_of_all parts) t → ⊥) → row_on whole list t ≡ row_on part list t
  no_row part t h none =
      row_elsewhere whole list t (not_in_the_whole t none)
      ∙ sym (row_elsewhere part list t (λ key. none (key_of_all parts part t h key)))

  its_own_row : (row : ReportRow) (part : MessageSet) → Contains parts part → Contains (keys_of part) row.key
      → Contains (keys_reported part bank day list) row.key → row_on whole list row.key ≡ row → IsReported row part
  its_own_row row part h key reported e = record {
    one_of_them = h;
    reported = has_its_row part bank day list row reported (sym (same_row part row.key h key) ∙ e);
    its_own = inl key;
  }

  listed_row : (row : ReportRow) → (some : MessageSet) → Contains parts some → Contains (map (λ (r : ListedRow). r.key) list) row.key
      → row_on whole list row.key ≡ row → (part : MessageSet) × IsReported row part
  listed_row row some h listed e =
      elim (has_key whole row.key) as (λ x. has_key whole row.key ≡ x → (part : MessageSet) × IsReported row part) [
        | true ↦ λ has.
            let r = key_in_a_part parts row.key (key_there whole row.key has) in
            (r.0, its_own_row row r.0 r.1 r.2 (if_listed r.0 bank day list row.key listed) e)
        | false ↦ λ away.
            let none = λ (key : Contains (keys_of_all parts) row.key).
            key_away whole row.key away (subst (λ (ks : List TransferKey). Contains ks row.key) (sym (keys_together parts apart)) key) in (
              some,
              record {
                one_of_them = h;
                reported = has_its_row some bank day list row (if_listed some bank day list row.key listed) (sym (no_row some row.key h none) ∙ e);
                its_own = inr none;
              },
            )
      ] refl

  row_of_a_part : (row : ReportRow) (some : MessageSet) → Contains parts some → Contains (report_of whole bank day list) row → (part : MessageSet) × IsReported row part
  row_of_a_part row some h reported =
      let k = its_row whole bank day list row reported in
      elim (why_reported whole bank day list row.key k.0) as (λ _. (part : MessageSet) × IsReported row part) [
        | inl listed ↦ listed_row row some h listed k.1
        | inr on ↦
            let r = day_in_a_part row.key on in
            (r.0, its_own_row row r.0 r.1 (day_key r.0 bank day row.key r.2) (if_on_day r.0 bank day list row.key r.2) k.1)
      ]

  row_of_the_whole : (row : ReportRow) (part : MessageSet) → IsReported row part → Contains (report_of whole bank day list) row
  row_of_the_whole row part r =
      let k = its_row part bank day list row r.reported in
      let row_is = elim r.its_own as (λ _. row_on whole list row.key ≡ row_on part list row.key) [
        | inl key ↦ same_row part row.key r.one_of_them key
        | inr none ↦ no_row part row.key r.one_of_them none
      ] in
      has_its_row whole bank day list row
      (elim (why_reported part bank day list row.key k.0) as (λ _. Contains (keys_reported whole bank day list) row.key) [
        | inl listed ↦ if_listed whole bank day list row.key listed
        | inr on ↦ if_on_day whole bank day list row.key (day_in_the_whole part row.key r.one_of_them on)
      ])
      (row_is ∙ k.1)

-- ---- the law

pub put_together : ManyPartsArePutTogether
put_together = record {
  whole = all_together;
  its_part = is_its_part;
  no_part = λ parts t none. of_no_part parts t (λ part h key. none (key_of_all parts part t h key));
  rows = λ first others apart bank day list row. (
    row_of_a_part (first ∷ others) apart bank day list row first (here first others),
    λ r. row_of_the_whole (first ∷ others) apart bank day list row r.0 r.1,
  );
}
