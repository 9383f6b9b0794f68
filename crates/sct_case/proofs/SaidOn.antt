-- What messages say of one recall, together and in the order of the recalls. Proof plumbing.
use Rattle.std.proofs.Common.{◌≡◌, ◌∙◌, refl, sym, ap, ℕ, Bool, true, false, cond, ◌||◌, List, [], ◌∷◌, ◌++◌, map, find, Option, Some, None, option_map}
use Rattle.std.specs.Prelude.{is_some}
use Rattle.std.specs.List.{list_any, flat_map}
use Rattle.std.specs.Option.{option_or}
use Rattle.std.proofs.Math.Bool.{or-false}
use Rattle.std.proofs.lemmas.List.{flat_map_more}
use Rattle.std.proofs.lemmas.List.Folds.{find-append, list_any-append}
use Rattle.sct_reason.specs.declared.reasons.Reason.{Reason}
use Rattle.sct_element.specs.Text.{is_text}
use Rattle.sct_message.specs.Keys.{recalls_named, transfer_key}
use Rattle.sct_message.specs.Order.{same_transfer}
use Rattle.sct_message.specs.Recalls.{recall_in, transfer_in}
use Rattle.sct_message.specs.declared.draft.Draft.{Draft}
use Rattle.sct_message.specs.declared.draft.Draft.TheVariants as draft
use Rattle.sct_message.specs.declared.draft.RecallTx.{RecallTx}
use Rattle.sct_message.specs.declared.keys.TransferKey.{TransferKey}
use Rattle.sct_message.proofs.Tests.{or_between}
use Rattle.sct_case.specs.declared.recalls.RecallSaid.{RecallSaid}
use Rattle.sct_case.specs.declared.said.RecallAsked.{RecallAsked}
use Rattle.sct_case.specs.declared.said.RecallMade.{RecallMade}
use Rattle.sct_case.specs.declared.said.RefusalMade.{RefusalMade}
use Rattle.sct_case.specs.declared.said.ReturnMade.{ReturnMade}
use Rattle.sct_case.specs.Said.{cancellations_in, made_in, named_in, recalls_made_by, recalls_named_by, refusals_by, requests_by, returns_by, where_of}
use Rattle.sct_case.specs.Statuses.{amount_returned, is_made, is_named, named_of_it, reason_refused, recall_facts_of, recall_standing_by, recall_standing_of, request_of_it}
use Rattle.sct_case.specs.Told.{recall_of_it, refusal_of_it, return_of_it}
use Rattle.sct_case.specs.Inside.{IsOneMoreOn, IsSaidOn, SayAlike, recall_standing_said}
use Rattle.sct_case.proofs.OfOneRecall.{first_alike, some_alike}

-- ---- a message names a recall in one of four ways

or_fours : (a b c d x y z w : Bool) → ((((a || b) || c) || d) || (((x || y) || z) || w)) ≡ ((((a || x) || (b || y)) || (c || z)) || (d || w))
or_fours a b c d x y z w =
    or_between ((a || b) || c) d ((x || y) || z) w
    ∙ ap (λ v. v || (d || w)) (or_between (a || b) c (x || y) z ∙ ap (λ v. v || (c || z)) (or_between a b x y))

is_found : {X Y : Type 0} (f : X → Y) (p : X → Bool) (xs : List X) → is_some (option_map f (find p xs)) ≡ list_any p xs
is_found f p [] = refl
is_found f p (x ∷ xs) =
    elim (p x) as (λ b. is_some (option_map f (cond b (Some x) (find p xs))) ≡ (b || list_any p xs)) [
      | true ↦ refl
      | false ↦ is_found f p xs
    ]

module _ (t : TransferKey) (cxl : List ℕ) where
  by_txs : (txs : List RecallTx) → list_any (named_of_it cxl) (flat_map (named_in t) (map recall_in txs)) ≡ list_any (recall_of_it cxl) (flat_map (made_in t) txs)
  by_txs [] = refl
  by_txs (tx ∷ txs) =
      elim (same_transfer (transfer_in tx) t) as (λ b. list_any (named_of_it cxl) (cond b (record { cxl = tx.cancellation_id } ∷ []) [] ++ flat_map (named_in t) (map recall_in txs))
      ≡ list_any (recall_of_it cxl) (cond b (record { cxl = tx.cancellation_id; amount = tx.original_amount; reason = tx.reason } ∷ []) [] ++ flat_map (made_in t) txs)) [
        | true ↦ ap (λ b. is_text tx.cancellation_id cxl || b) (by_txs txs)
        | false ↦ by_txs txs
      ]

  by_request : (key : TransferKey) (o : Option (List ℕ)) → list_any (named_of_it cxl) (flat_map (named_in t) (recalls_named key o)) ≡ list_any (request_of_it cxl) (where_of t key (cancellations_in o))
  by_request key None = elim (same_transfer key t) as (λ b. false ≡ list_any (request_of_it cxl) (cond b [] [])) [ true ↦ refl | false ↦ refl ]
  by_request key (Some c) =
      elim (same_transfer key t) as (λ b. list_any (named_of_it cxl) (cond b (record { cxl = c } ∷ []) [] ++ []) ≡ list_any (request_of_it cxl) (cond b (record { cxl = c } ∷ []) [])) [
        | true ↦ refl
        | false ↦ refl
      ]

  by_answer : {X : Type 0} (p : X → Bool) (key : TransferKey) (c : List ℕ) (x : X) → p x ≡ is_text c cxl
      → list_any (named_of_it cxl) (flat_map (named_in t) (recalls_named key (Some c))) ≡ list_any p (where_of t key (x ∷ []))
  by_answer p key c x e =
      elim (same_transfer key t) as (λ b. list_any (named_of_it cxl) (cond b (record { cxl = c } ∷ []) [] ++ []) ≡ list_any p (cond b (x ∷ []) [])) [
        | true ↦ ap (λ b. b || false) (sym e)
        | false ↦ refl
      ]

  named_by : (m : Draft) → list_any (named_of_it cxl) (recalls_named_by t m)
      ≡ (list_any (recall_of_it cxl) (recalls_made_by t m) || list_any (return_of_it cxl) (returns_by t m)
      || list_any (refusal_of_it cxl) (refusals_by t m) || list_any (request_of_it cxl) (requests_by t m))
  named_by (draft.CreditTransfer d) = refl
  named_by (draft.StatusReport d) = refl
  named_by (draft.StatusRequest d) = by_request _ d.cancellation_id
  named_by (draft.CancellationRequest d) = by_txs d.txs ∙ sym (or-false _ ∙ or-false _ ∙ or-false _)
  named_by (draft.PaymentReturn d) =
      by_answer (return_of_it cxl) (transfer_key d.debtor_agent d.original.transaction_id) d.cancellation_id
      (record { return_id = d.return_id; cxl = d.cancellation_id; amount = d.returned_amount }) refl
      ∙ sym (or-false _ ∙ or-false _)
  named_by (draft.Resolution d) =
      by_answer (refusal_of_it cxl) (transfer_key d.debtor_agent d.original.transaction_id) d.cancellation_id
      (record { cxl = d.cancellation_id; reason = d.reason }) refl
      ∙ sym (or-false _)

  named : (ms : List Draft) → is_named t ms cxl
      ≡ (is_made t ms cxl || list_any (return_of_it cxl) (flat_map (returns_by t) ms)
      || list_any (refusal_of_it cxl) (flat_map (refusals_by t) ms) || list_any (request_of_it cxl) (flat_map (requests_by t) ms))
  named [] = refl
  named (m ∷ ms) =
      list_any-append (named_of_it cxl) (recalls_named_by t m) (flat_map (recalls_named_by t) ms)
      ∙ (λ i. named_by m i || named ms i)
      ∙ or_fours (list_any (recall_of_it cxl) (recalls_made_by t m)) (list_any (return_of_it cxl) (returns_by t m)) (list_any (refusal_of_it cxl) (refusals_by t m)) (list_any (request_of_it cxl) (requests_by t m)) _ _ _ _
      ∙ (λ i. sym (list_any-append (recall_of_it cxl) (recalls_made_by t m) (flat_map (recalls_made_by t) ms)) i
      || sym (list_any-append (return_of_it cxl) (returns_by t m) (flat_map (returns_by t) ms)) i
      || sym (list_any-append (refusal_of_it cxl) (refusals_by t m) (flat_map (refusals_by t) ms)) i
      || sym (list_any-append (request_of_it cxl) (requests_by t m) (flat_map (requests_by t) ms)) i)

  -- so these four give the status of the recall
  pub judged_is : (ms : List Draft)
      → recall_standing_said (record {
        made = is_made t ms cxl;
        returned = amount_returned cxl (flat_map (returns_by t) ms);
        refused = reason_refused cxl (flat_map (refusals_by t) ms);
        chased = list_any (request_of_it cxl) (flat_map (requests_by t) ms);
      }) ≡ recall_standing_of t ms cxl
  judged_is ms =
      let facts = recall_facts_of t ms cxl in
      ap (λ b. recall_standing_by (record { named = b; made = facts.made; returned = facts.returned; refused = facts.refused; chased = facts.chased }))
      ((λ i. is_made t ms cxl || is_found (λ r. r.amount) (return_of_it cxl) (flat_map (returns_by t) ms) i
      || is_found (λ r. r.reason) (refusal_of_it cxl) (flat_map (refusals_by t) ms) i || list_any (request_of_it cxl) (flat_map (requests_by t) ms))
      ∙ sym (named ms))

  -- ---- one more message

  any_more : {X : Type 0} (by : Draft → List X) (p : X → Bool) (ms : List Draft) (m : Draft)
      → (list_any p (flat_map by ms) || list_any p (by m)) ≡ list_any p (flat_map by (ms ++ m ∷ []))
  any_more by p ms m = sym (list_any-append p (flat_map by ms) (by m)) ∙ ap (list_any p) (flat_map_more by [] ms m)

  or_mapped : {X Y : Type 0} (f : X → Y) (a b : Option X) → option_or (option_map f a) (option_map f b) ≡ option_map f (option_or a b)
  or_mapped f None b = refl
  or_mapped f (Some x) b = refl

  first_more : {X Y : Type 0} (by : Draft → List X) (p : X → Bool) (f : X → Y) (ms : List Draft) (m : Draft)
      → option_or (option_map f (find p (flat_map by ms))) (option_map f (find p (by m))) ≡ option_map f (find p (flat_map by (ms ++ m ∷ [])))
  first_more by p f ms m =
      or_mapped f _ _
      ∙ ap (option_map f) (sym (find-append p (flat_map by ms) (by m)) ∙ ap (find p) (flat_map_more by [] ms m))

  pub more_on : (ms : List Draft) (m : Draft) (old new : RecallSaid) → IsSaidOn t ms cxl old → IsOneMoreOn t m cxl old new → IsSaidOn t (ms ++ m ∷ []) cxl new
  more_on ms m old new said more = record {
    made = more.made ∙ ap (λ b. b || list_any (recall_of_it cxl) (recalls_made_by t m)) said.made ∙ any_more (recalls_made_by t) (recall_of_it cxl) ms m;
    returned = more.returned ∙ ap (λ (o : Option ℕ). option_or o (amount_returned cxl (returns_by t m))) said.returned ∙ first_more (returns_by t) (return_of_it cxl) (λ r. r.amount) ms m;
    refused = more.refused ∙ ap (λ (o : Option Reason). option_or o (reason_refused cxl (refusals_by t m))) said.refused ∙ first_more (refusals_by t) (refusal_of_it cxl) (λ r. r.reason) ms m;
    chased = more.chased ∙ ap (λ b. b || list_any (request_of_it cxl) (requests_by t m)) said.chased ∙ any_more (requests_by t) (request_of_it cxl) ms m;
  }

-- ---- in the order of the recalls

module _ (made other_made : List RecallMade) (returns other_returns : List ReturnMade) (refusals other_refusals : List RefusalMade) (requests other_requests : List RecallAsked) where
  pub judged_alike : SayAlike (λ m. m.cxl) made other_made → SayAlike (λ m. m.cxl) returns other_returns
      → SayAlike (λ m. m.cxl) refusals other_refusals → SayAlike (λ m. m.cxl) requests other_requests
      → (cxl : List ℕ) → recall_standing_said (record {
        made = list_any (recall_of_it cxl) made;
        returned = amount_returned cxl returns;
        refused = reason_refused cxl refusals;
        chased = list_any (request_of_it cxl) requests;
      }) ≡ recall_standing_said (record {
        made = list_any (recall_of_it cxl) other_made;
        returned = amount_returned cxl other_returns;
        refused = reason_refused cxl other_refusals;
        chased = list_any (request_of_it cxl) other_requests;
      })
  judged_alike m r f q cxl = λ i. recall_standing_said (record {
    made = some_alike (recall_of_it cxl) made other_made (m cxl) i;
    returned = option_map (λ x. x.amount) (first_alike (return_of_it cxl) returns other_returns (r cxl) i);
    refused = option_map (λ x. x.reason) (first_alike (refusal_of_it cxl) refusals other_refusals (f cxl) i);
    chased = some_alike (request_of_it cxl) requests other_requests (q cxl) i;
  })
