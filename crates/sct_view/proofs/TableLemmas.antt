-- What an insert does to a table whose absent keys are read as empty. Proof plumbing.
use Rattle.std.proofs.Common.{◌≡◌, ◌≤◌, ℕ, Bool, true, false, cond, List, [], ◌∷◌, length, take, Option, Some, None, is_some, refl, sym, ap, ◌∙◌}
use Rattle.std.proofs.lemmas.List.{take-append-le}
use Rattle.std.specs.Map.{lookup}
use Rattle.indexmap.specs.IndexMap.{IndexMap, get, insert_entry, Updates}
use Rattle.indexmap.proofs.CallerLemmas.{insert_entry-new}
use Rattle.sct_element.specs.Text.{is_text}
use Rattle.sct_message.specs.declared.keys.TransferKey.{TransferKey}
use Rattle.sct_view.specs.Kept.{case_at, kept_or_none, no_messages, same_key, totals_at, totals_or_none}
use Rattle.sct_view.specs.Totals.{nothing}
use Rattle.sct_view.specs.declared.case.Case.{Case}
use Rattle.sct_view.specs.declared.totals.Totals.{Totals}

pub none_is : {X : Type 0} (o : Option X) → is_some o ≡ false → o ≡ None
none_is None e = refl
none_is (Some x) e = cc

module _ {K X S : Type 0} (E : K → K → Bool) (old new : IndexMap K X S) (k : K) (v : X) where
  -- a place that is opened with an empty value shows nothing new
  pub opened : {W : Type 0} (read : Option X → W) → ((x y : K) → E x y ≡ true → x ≡ y) → Updates E old new k (Some v)
      → is_some (get E old k) ≡ false → read (Some v) ≡ read None → (t : K) → read (get E new t) ≡ read (get E old t)
  opened read apart updates absent empty t =
      ap read (updates.0 t)
      ∙ elim (E k t) as (λ b. E k t ≡ b → read (cond b (Some v) (get E old t)) ≡ read (get E old t)) [
        | true ↦ λ e. empty ∙ ap read (sym (none_is _ absent) ∙ ap (get E old) (apart k t e))
        | false ↦ λ _. refl
      ] refl

  -- and goes last
  pub front_stays : is_some (get E old k) ≡ false → new.entries ≡ insert_entry E old.entries k v
      → (n : ℕ) → n ≤ length old.entries → take n new.entries ≡ take n old.entries
  front_stays absent is n within =
      ap (take n) (is ∙ insert_entry-new E old k v (none_is _ absent)) ∙ take-append-le n old.entries ((k, v) ∷ []) within

-- tables without entries show nothing
pub no_case_in : {S : Type 0} (cases : IndexMap TransferKey Case S) → cases.entries ≡ [] → (t : TransferKey) → case_at cases t ≡ no_messages
no_case_in cases e t = ap (λ (es : List (TransferKey × Case)). kept_or_none (lookup (same_key t) es)) e

pub no_totals_in : {S : Type 0} (totals : IndexMap (List ℕ) Totals S) → totals.entries ≡ [] → (p : List ℕ) → totals_at totals p ≡ nothing
no_totals_in totals e p = ap (λ (es : List (List ℕ × Totals)). totals_or_none (lookup (is_text p) es)) e

-- tables with the same entries show the same
pub same_cases_in : {S : Type 0} (cases later : IndexMap TransferKey Case S) → later.entries ≡ cases.entries → (t : TransferKey) → case_at later t ≡ case_at cases t
same_cases_in cases later e t = ap (λ (es : List (TransferKey × Case)). kept_or_none (lookup (same_key t) es)) e

pub same_totals_in : {S : Type 0} (totals later : IndexMap (List ℕ) Totals S) → later.entries ≡ totals.entries → (p : List ℕ) → totals_at later p ≡ totals_at totals p
same_totals_in totals later e p = ap (λ (es : List (List ℕ × Totals)). totals_or_none (lookup (is_text p) es)) e
