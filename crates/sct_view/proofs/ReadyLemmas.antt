-- Places that are open stay open. Proof plumbing.
use Rattle.std.proofs.Common.{◌≡◌, ◌∙◌, refl, sym, ap, ℕ, ◌+◌, ◌<◌, Bool, true, ◌&&◌, List, [], ◌∷◌, ◌++◌, length, take, get_or}
use Rattle.std.specs.List.{list_all}
use Rattle.std.proofs.lemmas.Bool.{and_parts}
use Rattle.std.proofs.lemmas.Grind.{take_at_read}
use Rattle.std.proofs.lemmas.List.Folds.{list_all-append}
use Rattle.indexmap.specs.IndexMap.{IndexMap}
use Rattle.sct_message.specs.declared.keys.TransferKey.{TransferKey}
use Rattle.sct_view.specs.Changes.{are_ready, is_ready_for}
use Rattle.sct_view.specs.Kept.{has_case, has_totals, instruction_in, kept_in}
use Rattle.sct_view.specs.Totals.{beneficiary_in}
use Rattle.sct_view.specs.declared.case.Case.{Case}
use Rattle.sct_view.specs.declared.case.Planned.{Planned}
use Rattle.sct_view.specs.declared.totals.Totals.{Totals}

both_of : (a b : Bool) → a ≡ true → b ≡ true → (a && b) ≡ true
both_of a b e h = ap (λ (x : Bool). x && b) e ∙ h

-- a test that is passed where another one is, is passed by all that pass that one
all_wider : {X : Type 0} (p q : X → Bool) → ((x : X) → p x ≡ true → q x ≡ true) → (xs : List X) → list_all p xs ≡ true → list_all q xs ≡ true
all_wider p q wider [] e = refl
all_wider p q wider (x ∷ xs) e =
    both_of (q x) (list_all q xs) (wider x (and_parts (p x) (list_all p xs) e).0) (all_wider p q wider xs (and_parts (p x) (list_all p xs) e).1)

module _ {Y Z : Type 0} (cases later_cases : IndexMap TransferKey Case Y) (totals later_totals : IndexMap (List ℕ) Totals Z) where
  module _ (cases_stay : (t : TransferKey) → has_case cases t ≡ true → has_case later_cases t ≡ true)
      (totals_stay : (p : List ℕ) → has_totals totals p ≡ true → has_totals later_totals p ≡ true) where
    stays_ready : (one : Planned) → is_ready_for cases totals one ≡ true → is_ready_for later_cases later_totals one ≡ true
    stays_ready one e =
        let banks = list_all (has_totals totals) (beneficiary_in (instruction_in (kept_in one.case))) in
        let first = and_parts (has_case cases one.transfer) (has_totals totals one.transfer.debtor_agent && banks) e in
        let rest = and_parts (has_totals totals one.transfer.debtor_agent) banks first.1 in
        both_of _ _ (cases_stay one.transfer first.0)
        (both_of _ _ (totals_stay one.transfer.debtor_agent rest.0)
        (all_wider (has_totals totals) (has_totals later_totals) totals_stay (beneficiary_in (instruction_in (kept_in one.case))) rest.1))

    -- one place more is open, and the others still are
    pub ready_more : (planned : List Planned) (i : ℕ) (one : Planned) → i < length planned → one ≡ get_or planned i one
        → are_ready cases totals (take i planned) ≡ true → is_ready_for later_cases later_totals one ≡ true
        → are_ready later_cases later_totals (take (i + 1) planned) ≡ true
    ready_more planned i one below is before now =
        ap (list_all (is_ready_for later_cases later_totals)) ((take_at_read planned i one below).1 ∙ ap (λ x. take i planned ++ x ∷ []) (sym is))
        ∙ list_all-append (is_ready_for later_cases later_totals) (take i planned) (one ∷ [])
        ∙ both_of _ _ (all_wider (is_ready_for cases totals) (is_ready_for later_cases later_totals) stays_ready (take i planned) before)
        (both_of _ true now refl)

module _ {Y Z : Type 0} (all : List Planned) (one : Planned) (rest : List Planned) (cases later_cases : IndexMap TransferKey Case Y)
    (totals later_totals : IndexMap (List ℕ) Totals Z) (is : all ≡ one ∷ rest) (ready : are_ready cases totals all ≡ true) where
  -- once the first case is put in, the others have their places still
  pub others_ready : ((t : TransferKey) → has_case later_cases t ≡ has_case cases t) → ((p : List ℕ) → has_totals later_totals p ≡ has_totals totals p)
      → are_ready later_cases later_totals rest ≡ true
  others_ready cases_stay totals_stay =
      all_wider (is_ready_for cases totals) (is_ready_for later_cases later_totals)
      (stays_ready cases later_cases totals later_totals (λ t e. cases_stay t ∙ e) (λ p e. totals_stay p ∙ e)) rest
      (and_parts (is_ready_for cases totals one) (are_ready cases totals rest) (ap (are_ready cases totals) (sym is) ∙ ready)).1
