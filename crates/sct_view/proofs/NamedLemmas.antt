-- The recalls that a message names are of transfers that it is on. Proof plumbing.
use Rattle.std.proofs.Common.{◌≡◌, ◌∙◌, refl, sym, ◌≤◌, ℕ, Bool, true, false, List, [], ◌∷◌, map, length, arith}
use Rattle.std.specs.List.{flat_map, list_any}
use Rattle.std.proofs.lemmas.Bool.{false_from_ne_true, false≢true}
use Rattle.std.proofs.lemmas.List.{length-map, map-append}
use Rattle.sct_message.specs.Keys.{recalls_of, transfers_of}
use Rattle.sct_message.specs.Order.{same_transfer}
use Rattle.sct_message.specs.Recalls.{recall_in, transfer_in}
use Rattle.sct_message.specs.Sets.{MessageSet}
use Rattle.sct_message.specs.Transfers.{is_on}
use Rattle.sct_message.specs.declared.draft.Draft.TheVariants as draft
use Rattle.sct_message.specs.declared.draft.Draft.{Draft}
use Rattle.sct_message.specs.declared.keys.RecallKey.{RecallKey}
use Rattle.sct_message.specs.declared.keys.TransferKey.{TransferKey}
use Rattle.sct_message.proofs.Members.{list_any-map}
use Rattle.sct_case.specs.Said.{named_in}
use Rattle.sct_view.specs.Answers.{cxls_named_by, recall_of}
use Rattle.sct_view.specs.Listed.{cxls_in}
use Rattle.sct_view.specs.StatusText.{recall_line}

-- the R line of each of the recalls of a transfer of the set
abbrev pub lines_of_recalls : MessageSet → TransferKey → List (List ℕ) → List ℕ
lines_of_recalls held transfer cxls =
    flat_map (λ cxl. recall_line transfer cxl (recall_of held (record { transfer = transfer; cxl = cxl }))) cxls

-- there are no more of them than transfers of the message
pub few_recalls : (m : Draft) → length (recalls_of m) ≤ length (transfers_of m)
few_recalls (draft.CancellationRequest d) = omega (arith, length-map d.txs recall_in, length-map d.txs transfer_in)
few_recalls other = grind arith

module _ (t : TransferKey) where
  abbrev at : RecallKey → Bool
  at r = same_transfer r.transfer t

  -- each recall is of one of the message's transfers
  recalls_on : (m : Draft) → list_any at (recalls_of m) ≡ true → is_on t m ≡ true
  recalls_on (draft.CancellationRequest d) h = list_any-map (λ k. same_transfer k t) transfer_in d.txs ∙ sym (list_any-map at recall_in d.txs) ∙ h
  recalls_on other h = grind arith

  named_all : (rs : List RecallKey) → map (λ named. named.cxl) (flat_map (named_in t) rs) ≡ flat_map (cxls_in t) rs
  named_all [] = refl
  named_all (r ∷ rs) = grind (arith, named_all rs, map-append (λ named. named.cxl) (named_in t r) (flat_map (named_in t) rs))

  -- recall by recall
  pub named_one_by_one : (m : Draft) → cxls_named_by t m ≡ flat_map (cxls_in t) (recalls_of m)
  named_one_by_one m = named_all (recalls_of m)

  none_of : (rs : List RecallKey) → list_any at rs ≡ false → flat_map (cxls_in t) rs ≡ []
  none_of [] h = refl
  none_of (r ∷ rs) h = grind (arith, none_of rs)

  -- a message that is not on a transfer names no recall of it
  pub none_named : (m : Draft) → is_on t m ≡ false → cxls_named_by t m ≡ []
  none_named m off =
      named_one_by_one m ∙ none_of (recalls_of m) (false_from_ne_true _ (λ on. false≢true (sym off ∙ recalls_on m on)))
