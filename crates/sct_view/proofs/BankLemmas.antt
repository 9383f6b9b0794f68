-- The banks of the transfers of a set, and which of them have totals. Proof plumbing.
use Rattle.std.proofs.Common.{◌≡◌, ℕ, Bool, true, false, not, ◌&&◌, List, ◌∷◌, refl, sym, ap, ◌∙◌, Option, Some, arith}
use Rattle.std.specs.List.{flat_map, list_any, sum_by}
use Rattle.std.specs.Cmp.Lexicographic.{nat_list_cmp_total, nat_list_eq_equiv}
use Rattle.std.proofs.lemmas.Bool.{false_from_ne_true, false≢true, not_from_false}
use Rattle.std.proofs.lemmas.Bool.Decides.{nat_tests}
use Rattle.std.proofs.lemmas.Map.Made.{is_member-filter}
use Rattle.std.proofs.lemmas.Map.Views.{Contains-from_any, list_any-from_Contains}
use Rattle.sct_element.specs.Text.{is_text}
use Rattle.sct_message.specs.Ascending.{ascending}
use Rattle.sct_message.specs.Order.{text_order}
use Rattle.sct_message.specs.Sets.{MessageSet}
use Rattle.sct_message.specs.Transfers.{instruction_of, keys_of}
use Rattle.sct_message.specs.declared.draft.Draft.{Draft}
use Rattle.sct_message.specs.declared.draft.Draft.TheVariants.{CreditTransfer}
use Rattle.sct_message.specs.declared.keys.TransferKey.{TransferKey}
use Rattle.sct_message.proofs.AscendingLemmas.{any_ascending}
use Rattle.sct_case.specs.Statuses.{Standing}
use Rattle.sct_view.specs.Answers.{status_of}
use Rattle.sct_view.specs.Laws.{BanksHaveTotals}
use Rattle.sct_view.specs.Totals.{banks_of, banks_on, beneficiary_in, is_nothing, nothing, share, share_of, totals_of}
use Rattle.sct_view.specs.declared.totals.Totals.{Totals}
use Rattle.sct_message.proofs.Tests.{any_flat_map}
use Rattle.sct_message.proofs.SameValues.{text_is}
use Rattle.sct_message.specs.CellsBack.{texts_same}
use Rattle.sct_view.proofs.SumLemmas.{sum_elsewhere, sum_none}
use Rattle.sct_view.proofs.TotalsLemmas.{IsNumber, by_numbers}

-- a number of the totals of a bank, as the sum over the transfers
pub number_of : (n : Totals → ℕ) → IsNumber n → (held : MessageSet) (bank : List ℕ)
    → n (totals_of held bank) ≡ sum_by (λ t. n (share_of held bank t)) (keys_of held)
unfolding totals_of
number_of n is held bank = is.over (share_of held bank) (keys_of held)

pub is_nothing-is : (t : Totals) → is_nothing t ≡ true → t ≡ nothing
is_nothing-is t h = grind (arith, nat_tests)

-- ---- the banks of the transfers

-- every bank of a transfer of the set, with or without totals, ascending
abbrev pub candidates : MessageSet → List (List ℕ)
candidates held = ascending text_order (flat_map (banks_on held) (keys_of held))

pub any_candidate : (p : List ℕ → Bool) (held : MessageSet)
    → list_any p (candidates held) ≡ list_any (λ t. list_any p (banks_on held t)) (keys_of held)
any_candidate p held =
    any_ascending nat_list_cmp_total texts_same p (flat_map (banks_on held) (keys_of held)) ∙ any_flat_map p (banks_on held) (keys_of held)

-- a bank that is none of a transfer's banks has no share in it
no_share : (bank : List ℕ) (t : TransferKey) (stands : Standing) (instruction : Option Draft)
    → list_any (is_text bank) (t.debtor_agent ∷ beneficiary_in instruction) ≡ false → share bank t stands instruction ≡ nothing
unfolding share
no_share bank t stands (Some (CreditTransfer d)) away =
    grind (arith, nat_list_eq_equiv.symm bank t.debtor_agent, nat_list_eq_equiv.symm bank d.creditor_agent)
no_share bank t stands other away = grind (arith, nat_list_eq_equiv.symm bank t.debtor_agent)

-- a bank that no transfer names has no totals
nothing_elsewhere : (held : MessageSet) (bank : List ℕ) → list_any (is_text bank) (candidates held) ≡ false
    → totals_of held bank ≡ nothing
nothing_elsewhere held bank away =
    by_numbers (totals_of held bank) nothing (λ n is.
    let none = λ (t : TransferKey) (e : list_any (is_text bank) (banks_on held t) ≡ false).
    ap n (no_share bank t (status_of held t) (instruction_of held t) e) ∙ is.none in
    number_of n is held bank
    ∙ sum_elsewhere (λ t. list_any (is_text bank) (banks_on held t)) (λ t. 0) (λ t. n (share_of held bank t)) none (keys_of held) (sym (any_candidate (is_text bank) held) ∙ away)
    ∙ sum_none (λ t. 0) (λ t. refl) (keys_of held)
    ∙ sym is.none)

-- ---- the banks told

abbrev pub has_totals_told : MessageSet → List ℕ → Bool
has_totals_told held bank = not (is_nothing (totals_of held bank))

-- a bank is told exactly where its totals are not all zero
pub told_where : (held : MessageSet) (bank : List ℕ) → list_any (is_text bank) (banks_of held) ≡ has_totals_told held bank
unfolding banks_of
told_where held bank =
    is_member-filter nat_list_eq_equiv (has_totals_told held) bank (λ other e. ap (has_totals_told held) (text_is bank other e)) (candidates held)
    ∙ elim (list_any (is_text bank) (candidates held)) as (λ b. list_any (is_text bank) (candidates held) ≡ b → (b && has_totals_told held bank) ≡ has_totals_told held bank) [
      | true ↦ λ _. refl
      | false ↦ λ away. ap (λ (t : Totals). not (is_nothing t)) (sym (nothing_elsewhere held bank away))
    ] refl

pub banks_have_totals : BanksHaveTotals
banks_have_totals held bank = (
  λ among e. false≢true (sym (ap (λ (t : Totals). not (is_nothing t)) e) ∙ sym (told_where held bank) ∙ list_any-from_Contains nat_list_eq_equiv bank (banks_of held) among),
  λ some. Contains-from_any text_is bank (banks_of held) (told_where held bank ∙ not_from_false _ (false_from_ne_true _ (λ e. some (is_nothing-is (totals_of held bank) e)))),
)
