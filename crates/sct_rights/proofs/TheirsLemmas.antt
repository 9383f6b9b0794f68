-- The messages on a transfer that pass a test, as they are filed. Proof plumbing.
use Rattle.std.specs.FinSet as set
use Rattle.std.proofs.Common.{◌≡◌, ◌∙◌, refl, sym, ap, arith, ℕ, ◌<◌, Bool, true, false, not, ◌&&◌, List, [], ◌∷◌, filter, get_or, length}
use Rattle.std.specs.Arc.{arc_value}
use Rattle.std.specs.Global.{Global}
use Rattle.std.specs.List.{list_all, list_any}
use Rattle.std.proofs.lemmas.Bool.{false≢true}
use Rattle.std.proofs.lemmas.List.Folds.{list_all_at}
use Rattle.std.specs.declared.sync.Arc.{Arc}
use Rattle.indexmap.specs.IndexMap.{IndexMap}
use Rattle.sct_message.specs.OrderLaws.{message_total, message_same}
use Rattle.sct_message.specs.Sets.{MessageSet, messages_in}
use Rattle.sct_message.specs.Transfers.{is_instruction, is_on}
use Rattle.sct_message.specs.declared.draft.Draft.{Draft}
use Rattle.sct_message.specs.declared.keys.TransferKey.{TransferKey}
use Rattle.sct_message.proofs.Members.{list_any-filter, list_any-map, same_any}
use Rattle.sct_set.proofs.ContentsLemmas.{any_items}
use Rattle.sct_view.specs.Filed.{HasThose, IsFiled, IsFiledBy}
use Rattle.sct_rights.specs.Rights.{has_credit_to, has_instruction, has_on, is_between, is_credit_to}

never : (t : TransferKey) (ms : List Draft) → list_any (λ m. is_on t m && not (is_on t m)) ms ≡ false
never t [] = refl
never t (m ∷ ms) = grind (arith, never t ms)

on_unless : (t : TransferKey) (found : List (Arc Draft Global)) → list_any (λ m. not (is_on t (arc_value m))) found ≡ false
    → list_all (λ m. is_on t (arc_value m)) found ≡ true
on_unless t [] e = refl
on_unless t (m ∷ ms) e = grind (arith, e, on_unless t ms)

-- a test that all pass, at one of them
pub passed_at : {X : Type 0} (p : X → Bool) (xs : List X) (i : ℕ) (x : X) → i < length xs → x ≡ get_or xs i x → list_all p xs ≡ true → p x ≡ true
passed_at p xs i x low is all =
    elim (p x) as (λ b. p x ≡ b → b ≡ true) [
      | true ↦ λ _. refl
      | false ↦ λ e. absurd (false≢true (sym (list_all_at p xs i x low (ap p (sym is) ∙ e)) ∙ all))
    ] refl

module _ {S : Type 0} (s : MessageSet) (t : TransferKey) (index : IndexMap TransferKey (List (Arc Draft Global)) S) (filed : IsFiled s index)
    (found : List (Arc Draft Global)) (those : (ms : List Draft) → IsFiledBy index ms → HasThose (messages_in found) (filter (is_on t) ms)) where
  -- a message that is filed under the transfer passes the test if a message of the set on it does
  pub has_on_filed : (p : Draft → Bool) → list_any p (messages_in found) ≡ has_on s t p
  has_on_filed p =
      let ms = filed.0 in
      same_any message_total message_same p (messages_in found) (filter (is_on t) ms) (those ms filed.2)
      ∙ list_any-filter p (is_on t) ms
      ∙ sym (any_items (λ m. is_on t m && p m) ms)
      ∙ ap (λ (held : MessageSet). list_any (λ m. is_on t m && p m) (set.items held)) filed.1

  has_on_shared : (p : Draft → Bool) (b : Bool) → b ≡ list_any (λ m. p (arc_value m)) found → b ≡ has_on s t p
  has_on_shared p b is = is ∙ sym (list_any-map p arc_value found) ∙ has_on_filed p

  pub has_instruction_filed : (b : Bool) → b ≡ list_any (λ m. is_instruction (arc_value m)) found → b ≡ has_instruction s t
  has_instruction_filed = has_on_shared is_instruction

  pub has_credit_filed : (banks : List (List ℕ)) (b : Bool) → b ≡ list_any (λ m. is_credit_to banks (arc_value m)) found → b ≡ has_credit_to banks s t
  has_credit_filed banks = has_on_shared (is_credit_to banks)

  pub has_between_filed : (banks : List (List ℕ)) (b : Bool) → b ≡ list_any (λ m. is_between banks (arc_value m)) found → b ≡ has_on s t (is_between banks)
  has_between_filed banks = has_on_shared (is_between banks)

  -- each message that is filed under the transfer is on it
  none_off : list_any (λ m. not (is_on t m)) (messages_in found) ≡ false
  none_off = has_on_filed (λ m. not (is_on t m)) ∙ never t (set.items s)

  pub all_on : list_all (λ m. is_on t (arc_value m)) found ≡ true
  all_on = on_unless t found (sym (list_any-map (λ m. not (is_on t m)) arc_value found) ∙ none_off)
