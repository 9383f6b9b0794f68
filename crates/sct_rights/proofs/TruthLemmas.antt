-- What is told to banks of their transfers and in their totals is what the hub itself is told. Proof plumbing.
use Rattle.std.specs.FinSet as set
use Rattle.std.specs.Prelude.{Contains, if◌then◌else◌}
use Rattle.std.proofs.Common.{◌≡◌, ◌∙◌, refl, sym, ap, subst, inl, inr, ℕ, Bool, true, false, not, ◌&&◌, List, [], ◌∷◌, Option, None, Some, arith}
use Rattle.std.specs.List.{flat_map, sum_by}
use Rattle.std.specs.List.Sorted.{IsStrictlySortedBy}
use Rattle.std.proofs.lemmas.Bool.{and_from, and_parts, false_from_ne_true, false≢true}
use Rattle.sct_element.specs.Text.{is_text}
use Rattle.sct_message.specs.Keys.{transfers_of}
use Rattle.sct_message.specs.Order.{transfer_order}
use Rattle.sct_message.specs.OrderLaws.{message_total, message_same, transfer_total, transfers_same}
use Rattle.sct_message.specs.Sets.{MessageSet, clean_messages, in_order, is_contradicted}
use Rattle.sct_message.specs.Transfers.{instruction_of, is_instruction, is_on, keys_of, messages_on, sole}
use Rattle.sct_message.specs.declared.draft.Draft.{Draft}
use Rattle.sct_message.specs.declared.draft.Draft.TheVariants.{CreditTransfer}
use Rattle.sct_message.specs.declared.keys.TransferKey.{TransferKey}
use Rattle.sct_message.proofs.AscendingLemmas.{ascending_rises}
use Rattle.sct_message.proofs.SameValues.{text_is}
use Rattle.sct_case.specs.Statuses.{Standing}
use Rattle.sct_case.proofs.Membership.{here, in_ascending, in_filter}
use Rattle.sct_case.proofs.Stays.{held_from}
use Rattle.sct_view.specs.Answers.{is_beneficiary, is_originator}
use Rattle.sct_view.specs.StatusText.{lines_on}
use Rattle.sct_view.specs.Totals.{cents_in, nothing, plus, share, share_of, share_of_beneficiary, share_of_originator, totals_of}
use Rattle.sct_view.specs.TotalsText.{totals_line}
use Rattle.sct_view.specs.declared.totals.Totals.{Totals}
use Rattle.sct_view.proofs.BankLemmas.{number_of}
use Rattle.sct_view.proofs.ShareLemmas.{plus_nothing}
use Rattle.sct_view.proofs.SumLemmas.{sum_kept}
use Rattle.sct_view.proofs.TotalsLemmas.{IsNumber, by_numbers}
use Rattle.sct_view.proofs.TouchedLemmas.{found_held}
use Rattle.sct_rights.specs.Rights.{has_on, is_credit_to, is_one_of, is_theirs}
use Rattle.sct_rights.specs.Shown.{bank_line_for, lines_for, seen_on, visible}
use Rattle.sct_rights.specs.Laws.{TheTruthIsTold}
use Rattle.sct_parts.proofs.TransferLemmas.{lines_alike}
use Rattle.sct_parts.specs.Parts.{has_key}
use Rattle.sct_parts.proofs.Members.{from_either}
use Rattle.sct_parts.proofs.SumsLemmas.{elsewhere, picked}
use Rattle.sct_rights.proofs.VisibleLemmas.{told_alike, visible_held}

-- ---- the lines

-- what is seen of a transfer that is theirs
pub seen_theirs : (banks : List (List ℕ)) (s : MessageSet) (t : TransferKey) → is_theirs banks s t ≡ true → seen_on banks s t ≡ visible banks s
seen_theirs banks s t theirs = ap (λ (b : Bool). if b then visible banks s else set.empty) theirs

pub seen_foreign : (banks : List (List ℕ)) (s : MessageSet) (t : TransferKey) → is_theirs banks s t ≡ false → seen_on banks s t ≡ set.empty
seen_foreign banks s t foreign = ap (λ (b : Bool). if b then visible banks s else set.empty) foreign

pub lines_told : (banks : List (List ℕ)) (s : MessageSet) (t : TransferKey) → is_theirs banks s t ≡ true → lines_for banks s t ≡ lines_on s t
unfolding lines_for
lines_told banks s t theirs =
    ap (λ (held : MessageSet). lines_on held t) (seen_theirs banks s t theirs)
    ∙ lines_alike s (visible banks s) t (told_alike banks s t theirs)

-- a text that is of these lines
pub theirs_lines : (banks : List (List ℕ)) (s : MessageSet) (t : TransferKey) → is_theirs banks s t ≡ true → (text : List ℕ) → text ≡ lines_on s t
    → text ≡ lines_for banks s t
theirs_lines banks s t theirs text e = e ∙ sym (lines_told banks s t theirs)

pub foreign_lines : (banks : List (List ℕ)) (s : MessageSet) (t : TransferKey) → is_theirs banks s t ≡ false → (none : MessageSet) → none ≡ set.empty
    → (text : List ℕ) → text ≡ lines_on none t → text ≡ lines_for banks s t
unfolding lines_for
foreign_lines banks s t foreign none is text e =
    e ∙ ap (λ (held : MessageSet). lines_on held t) (is ∙ sym (seen_foreign banks s t foreign))

-- ---- totals

-- a number of a set, summed over more keys
over_more : (n : Totals → ℕ) → IsNumber n → (s : MessageSet) (bank : List ℕ) (ks : List TransferKey) → IsStrictlySortedBy transfer_order ks
    → ((t : TransferKey) → Contains (keys_of s) t → Contains ks t) → sum_by (λ t. n (share_of s bank t)) ks ≡ n (totals_of s bank)
over_more n is s bank ks rises within =
    sym (sum_kept (λ t. n (share_of s bank t)) (has_key s) (λ t e. ap n (elsewhere s bank t e) ∙ is.none) ks)
    ∙ ap (sum_by (λ t. n (share_of s bank t))) (picked s ks rises within)
    ∙ sym (number_of n is s bank)

-- sets in which a bank has the same share of each transfer have the same totals of it
pub same_totals : (a b : MessageSet) (bank : List ℕ) → ((t : TransferKey) → share_of a bank t ≡ share_of b bank t) → totals_of a bank ≡ totals_of b bank
same_totals a b bank same =
    let u = set.union a b in
    let rises = ascending_rises transfer_total transfers_same (flat_map transfers_of (set.items u)) in
    by_numbers (totals_of a bank) (totals_of b bank) (λ n is.
    sym (over_more n is a bank (keys_of u) rises (λ t h. from_either a b t (inl h)))
    ∙ (λ i. sum_by (λ t. n (same t i)) (keys_of u))
    ∙ over_more n is b bank (keys_of u) rises (λ t h. from_either a b t (inr h)))

-- ---- the share of a bank of theirs in a transfer that is not theirs

no_part : (bank : List ℕ) (t : TransferKey) (stands : Standing) (instruction : Option Draft)
    → is_originator bank t ≡ false → is_beneficiary bank instruction ≡ false → share bank t stands instruction ≡ nothing
unfolding share
no_part bank t stands instruction e f =
    (λ i. plus (if e i then share_of_originator stands (cents_in instruction) else nothing)
    (if f i then share_of_beneficiary stands (cents_in instruction) else nothing))
    ∙ plus_nothing nothing

abbrev pub is_some_item : {X : Type 0} → Option X → Bool
is_some_item None = false
is_some_item (Some x) = true

abbrev some_or : {X : Type 0} → X → Option X → X
some_or x None = x
some_or x (Some y) = y

pub Some≢None : {X : Type 0} (x : X) → Some x ≡ None → ⊥
Some≢None x e = false≢true (sym (ap is_some_item e))

in_sole : {X : Type 0} (xs : List X) (x : X) → sole xs ≡ Some x → Contains xs x
in_sole [] x e = absurd (Some≢None x (sym e))
in_sole (y ∷ []) x e = subst (Contains (y ∷ [])) (ap (λ (o : Option _). some_or y o) e) (here y [])
in_sole (y ∷ (z ∷ zs)) x e = absurd (Some≢None x (sym e))

-- the instruction of a transfer is a message of the set on it
pub instruction_held : (s : MessageSet) (t : TransferKey) (m : Draft) → instruction_of s t ≡ Some m → (set.contains s m ≡ true) × (is_on t m ≡ true)
instruction_held s t m e =
    let one = in_filter is_instruction (messages_on s t) m (in_sole _ m e) in
    let on = in_filter (is_on t) (clean_messages s) m one.0 in
    let clean = in_filter (λ d. not (is_contradicted s d)) (in_order s) m on.0 in
    (held_from s m (in_ascending message_total message_same (set.items s) m clean.0), on.1)

module _ (banks : List (List ℕ)) (s : MessageSet) (bank : List ℕ) (ours : is_one_of banks bank ≡ true) where
  -- a text that is that of the bank is one of the banks
  is_ours : (text : List ℕ) → is_text text bank ≡ true → is_one_of banks text ≡ true
  is_ours text e = ap (is_one_of banks) (text_is text bank e) ∙ ours

  paid_to_ours : (m : Draft) → is_beneficiary bank (Some m) ≡ true → is_credit_to banks m ≡ true
  paid_to_ours (CreditTransfer d) e = is_ours d.creditor_agent e
  paid_to_ours other e = absurd (false≢true e)

  module _ (t : TransferKey) (foreign : is_theirs banks s t ≡ false) where
    pub not_sent : is_originator bank t ≡ false
    unfolding is_theirs
    not_sent = false_from_ne_true _ (λ e. false≢true (sym (grind (arith, foreign)) ∙ is_ours t.debtor_agent e))

    not_credited : has_on s t (is_credit_to banks) ≡ false
    unfolding is_theirs
    not_credited = grind (arith, foreign)

    pub not_received : (part : MessageSet) → ((m : Draft) → set.contains part m ≡ true → set.contains s m ≡ true) → is_beneficiary bank (instruction_of part t) ≡ false
    not_received part within =
        elim (instruction_of part t) as (λ o. instruction_of part t ≡ o → is_beneficiary bank o ≡ false) [
          | None ↦ λ _. refl
          | Some m ↦ λ is. false_from_ne_true _ (λ e.
              let m_held = instruction_held part t m is in
              false≢true (sym not_credited ∙ found_held s (λ d. is_on t d && is_credit_to banks d) m (within m m_held.0) (and_from _ _ m_held.1 (paid_to_ours m e))))
        ] refl

    pub no_share_there : (part : MessageSet) → ((m : Draft) → set.contains part m ≡ true → set.contains s m ≡ true) → share_of part bank t ≡ nothing
    no_share_there part within = no_part bank t _ (instruction_of part t) not_sent (not_received part within)

  pub visible_within : (m : Draft) → set.contains (visible banks s) m ≡ true → set.contains s m ≡ true
  visible_within m e = (and_parts _ _ (sym (visible_held banks s m) ∙ e)).1

  same_share : (t : TransferKey) → share_of (visible banks s) bank t ≡ share_of s bank t
  same_share t =
      elim (is_theirs banks s t) as (λ b. is_theirs banks s t ≡ b → share_of (visible banks s) bank t ≡ share_of s bank t) [
        | true ↦ λ e. (told_alike banks s t e).shares bank
        | false ↦ λ e. no_share_there t e (visible banks s) visible_within ∙ sym (no_share_there t e s (λ m h. h))
      ] refl

  pub totals_told : totals_of (visible banks s) bank ≡ totals_of s bank
  totals_told = same_totals (visible banks s) s bank same_share

pub bank_told : (banks : List (List ℕ)) (s : MessageSet) (bank : List ℕ) → is_one_of banks bank ≡ true → (text : List ℕ)
    → text ≡ totals_line bank (totals_of s bank) → text ≡ bank_line_for banks s bank
unfolding bank_line_for
bank_told banks s bank ours text e = e ∙ ap (totals_line bank) (sym (totals_told banks s bank ours))

pub truth_told : TheTruthIsTold
truth_told = record {
  theirs = told_alike;
  lines = lines_told;
  totals = λ banks s bank ours. totals_told banks s bank ours;
}
