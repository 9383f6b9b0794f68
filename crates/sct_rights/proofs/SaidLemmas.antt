-- A message as it is shown says of a transfer that is theirs what the message says. Proof plumbing.
use Rattle.std.proofs.Common.{◌≡◌, ◌∙◌, refl, sym, ap, ℕ, Bool, true, false, ◌&&◌, List, [], ◌∷◌, ◌++◌, map, filter, length, arith, option_map}
use Rattle.std.specs.Prelude.{◌==◌, nat_lt, if◌then◌else◌}
use Rattle.std.specs.List.{flat_map, list_any}
use Rattle.std.proofs.lemmas.Bool.{false_from_ne_true, false≢true}
use Rattle.std.proofs.lemmas.List.{length-map}
use Rattle.sct_message.specs.Keys.{identity_of}
use Rattle.sct_message.specs.Order.{same_transfer}
use Rattle.sct_message.specs.Recalls.{Recalls, recall_in, transfer_in}
use Rattle.sct_message.specs.Sets.{MessageSet}
use Rattle.sct_message.specs.Transfers.{is_instruction}
use Rattle.sct_message.specs.declared.draft.Draft.{Draft}
use Rattle.sct_message.specs.declared.draft.Draft.TheVariants.{CancellationRequest, CreditTransfer}
use Rattle.sct_message.specs.declared.draft.RecallTx.{RecallTx}
use Rattle.sct_message.specs.declared.keys.Identity.{Identity}
use Rattle.sct_message.specs.declared.keys.TransferKey.{TransferKey}
use Rattle.sct_message.proofs.Members.{list_any-map}
use Rattle.sct_message.proofs.SameValues.{transfer_is}
use Rattle.sct_case.specs.declared.finding.Finding.TheVariants as finding
use Rattle.sct_case.specs.Said.{amounts_by, instructions_by, is_acceptance, is_investigation, made_in, named_in, original_amount_in, recalls_made_by, recalls_named_by, refusals_by, rejections_by, requests_by, returns_by}
use Rattle.sct_case.specs.Statuses.{amount_returned, first, first_recall, first_standing, named_of_it, reason_refused, recall_standing_by, recall_status_of, request_of_it, standing_by, transfer_status_of}
use Rattle.sct_case.specs.Told.{answered_both_ways, differ, findings_of, findings_of_instruction, findings_of_recalls, has_some, names_another, recall_of_it, recalls_that_differ, refusals_that_differ, same_reason, same_return, where_found}
use Rattle.sct_rights.specs.Rights.{is_one_of, is_theirs}
use Rattle.sct_rights.specs.Shown.{shown_to, shown_txs}

-- ---- lists

-- items that give nothing can be left out
given_where : {X Y : Type 0} (g : X → List Y) (p : X → Bool) → ((x : X) → p x ≡ false → g x ≡ []) → (xs : List X) → flat_map g (filter p xs) ≡ flat_map g xs
given_where g p none [] = refl
given_where g p none (x ∷ xs) = grind (arith, none x, given_where g p none xs)

given_map : {X Y Z : Type 0} (g : Y → List Z) (h : X → Y) (xs : List X) → flat_map g (map h xs) ≡ flat_map (λ x. g (h x)) xs
given_map g h [] = refl
given_map g h (x ∷ xs) = ap (λ (zs : List _). g (h x) ++ zs) (given_map g h xs)

-- what each item says as it is changed, all of them say
pub said_alike : {X : Type 0} (f : Draft → Draft) (g : Draft → List X) → ((m : Draft) → g (f m) ≡ g m) → (ms : List Draft) → flat_map g (map f ms) ≡ flat_map g ms
said_alike f g same [] = refl
said_alike f g same (m ∷ ms) = λ i. same m i ++ said_alike f g same ms i

tested_alike : (f : Draft → Draft) (p : Draft → Bool) → ((m : Draft) → p (f m) ≡ p m) → (ms : List Draft) → list_any p (map f ms) ≡ list_any p ms
tested_alike f p same ms = list_any-map p f ms ∙ ap (λ (q : Draft → Bool). list_any q ms) (λ i m. same m i)

pub named_alike : {X : Type 0} (f : Draft → Draft) (g : Draft → X) → ((m : Draft) → g (f m) ≡ g m) → (ms : List Draft) → map g (map f ms) ≡ map g ms
named_alike f g same [] = refl
named_alike f g same (m ∷ ms) = λ i. same m i ∷ named_alike f g same ms i

module _ (banks : List (List ℕ)) (s : MessageSet) where
  pub same_identity_shown : (m : Draft) → identity_of (shown_to banks s m) ≡ identity_of m
  same_identity_shown (CancellationRequest d) = refl
  same_identity_shown other = refl

  -- the instructions are shown as they are
  pub instructions_kept : (ms : List Draft) → filter is_instruction (map (shown_to banks s) ms) ≡ filter is_instruction ms
  instructions_kept [] = refl
  instructions_kept (CreditTransfer d ∷ ms) = ap (λ (kept : List Draft). CreditTransfer d ∷ kept) (instructions_kept ms)
  instructions_kept (CancellationRequest d ∷ ms) = instructions_kept ms
  instructions_kept (other ∷ ms) = instructions_kept ms

module _ (banks : List (List ℕ)) (s : MessageSet) (t : TransferKey) (theirs : is_theirs banks s t ≡ true) where
  abbrev f : Draft → Draft
  f = shown_to banks s

  -- ---- one message

  not_it : (tx : RecallTx) → is_theirs banks s (transfer_in tx) ≡ false → same_transfer (transfer_in tx) t ≡ false
  not_it tx foreign = false_from_ne_true _ (λ e. false≢true (sym foreign ∙ ap (is_theirs banks s) (transfer_is _ _ e) ∙ theirs))

  -- the transactions that are left out say nothing of the transfer
  left_out : {X : Type 0} (g : RecallTx → List X) → ((tx : RecallTx) → same_transfer (transfer_in tx) t ≡ false → g tx ≡ []) → (d : Recalls)
      → flat_map g (shown_txs banks s d) ≡ flat_map g d.txs
  left_out g none d =
      elim (is_one_of banks d.head.instructing_agent) as (λ b. flat_map g (if b then d.txs else filter (λ tx. is_theirs banks s (transfer_in tx)) d.txs) ≡ flat_map g d.txs) [
        | true ↦ refl
        | false ↦ given_where g (λ tx. is_theirs banks s (transfer_in tx)) (λ tx foreign. none tx (not_it tx foreign)) d.txs
      ]

  nothing_where : {X : Type 0} (xs : List X) (b : Bool) → b ≡ false → (if b then xs else []) ≡ []
  nothing_where xs b e = ap (λ (c : Bool). if c then xs else []) e

  made_alike : (m : Draft) → recalls_made_by t (f m) ≡ recalls_made_by t m
  made_alike (CancellationRequest d) = left_out (made_in t) (λ tx e. nothing_where _ _ e) d
  made_alike other = refl

  amounts_alike : (m : Draft) → amounts_by t (f m) ≡ amounts_by t m
  amounts_alike (CancellationRequest d) = left_out (original_amount_in t) (λ tx e. nothing_where _ _ e) d
  amounts_alike other = refl

  pub recalls_alike : (m : Draft) → recalls_named_by t (f m) ≡ recalls_named_by t m
  recalls_alike (CancellationRequest d) =
      given_map (named_in t) recall_in (shown_txs banks s d)
      ∙ left_out (λ tx. named_in t (recall_in tx)) (λ tx e. nothing_where _ _ e) d
      ∙ sym (given_map (named_in t) recall_in d.txs)
  recalls_alike other = refl

  instructions_alike : (m : Draft) → instructions_by (f m) ≡ instructions_by m
  instructions_alike (CancellationRequest d) = refl
  instructions_alike other = refl

  rejections_alike : (m : Draft) → rejections_by (f m) ≡ rejections_by m
  rejections_alike (CancellationRequest d) = refl
  rejections_alike other = refl

  acceptance_alike : (m : Draft) → is_acceptance (f m) ≡ is_acceptance m
  acceptance_alike (CancellationRequest d) = refl
  acceptance_alike other = refl

  investigation_alike : (m : Draft) → is_investigation (f m) ≡ is_investigation m
  investigation_alike (CancellationRequest d) = refl
  investigation_alike other = refl

  returns_alike : (m : Draft) → returns_by t (f m) ≡ returns_by t m
  returns_alike (CancellationRequest d) = refl
  returns_alike other = refl

  refusals_alike : (m : Draft) → refusals_by t (f m) ≡ refusals_by t m
  refusals_alike (CancellationRequest d) = refl
  refusals_alike other = refl

  requests_alike : (m : Draft) → requests_by t (f m) ≡ requests_by t m
  requests_alike (CancellationRequest d) = refl
  requests_alike other = refl

  -- ---- all messages on the transfer

  module _ (ms : List Draft) (asides : List Identity) where
    ins : flat_map instructions_by (map f ms) ≡ flat_map instructions_by ms
    ins = said_alike f instructions_by instructions_alike ms

    rej : flat_map rejections_by (map f ms) ≡ flat_map rejections_by ms
    rej = said_alike f rejections_by rejections_alike ms

    acc : list_any is_acceptance (map f ms) ≡ list_any is_acceptance ms
    acc = tested_alike f is_acceptance acceptance_alike ms

    inv : list_any is_investigation (map f ms) ≡ list_any is_investigation ms
    inv = tested_alike f is_investigation investigation_alike ms

    amt : flat_map (amounts_by t) (map f ms) ≡ flat_map (amounts_by t) ms
    amt = said_alike f (amounts_by t) amounts_alike ms

    made : flat_map (recalls_made_by t) (map f ms) ≡ flat_map (recalls_made_by t) ms
    made = said_alike f (recalls_made_by t) made_alike ms

    ret : flat_map (returns_by t) (map f ms) ≡ flat_map (returns_by t) ms
    ret = said_alike f (returns_by t) returns_alike ms

    ref : flat_map (refusals_by t) (map f ms) ≡ flat_map (refusals_by t) ms
    ref = said_alike f (refusals_by t) refusals_alike ms

    req : flat_map (requests_by t) (map f ms) ≡ flat_map (requests_by t) ms
    req = said_alike f (requests_by t) requests_alike ms

    nam : flat_map (recalls_named_by t) (map f ms) ≡ flat_map (recalls_named_by t) ms
    nam = said_alike f (recalls_named_by t) recalls_alike ms

    pub found_shown : findings_of t (map f ms) asides ≡ findings_of t ms asides
    unfolding findings_of findings_of_instruction findings_of_recalls
    found_shown = λ i.
        (map (λ j. finding.Identity j) asides
        ++ where_found (nat_lt 1 (length (ins i))) finding.TwoInstructions
        ++ where_found (acc i && has_some (rej i)) finding.BothConfirmed
        ++ where_found (differ same_reason (rej i)) finding.ReasonsDiffer
        ++ where_found (names_another (ins i) (amt i)) finding.AmountDiffers)
        ++ (map (λ c. finding.RecallsDiffer c) (recalls_that_differ (made i))
        ++ map (λ c. finding.BothAnswers c) (answered_both_ways (ref i) (ret i))
        ++ map (λ c. finding.RefusalsDiffer c) (refusals_that_differ (ref i))
        ++ where_found (differ same_return (ret i)) finding.TwoReturns
        ++ where_found (has_some (ret i) && has_some (rej i)) finding.ReturnOfRejected)

    pub status_shown : transfer_status_of t (map f ms) asides ≡ transfer_status_of t ms asides
    unfolding transfer_status_of
    status_shown = λ i.
        first_standing (found_shown i) ((length-map ms f i == 0) && (length asides == 0)) (standing_by (record {
          instructed = has_some (ins i);
          rejected = option_map (λ r. r.reason) (first (rej i));
          accepted = acc i;
          returned = option_map (λ r. r.amount) (first (ret i));
          investigated = inv i;
        }))

    pub recall_shown : (cxl : List ℕ) → recall_status_of t (map f ms) asides cxl ≡ recall_status_of t ms asides cxl
    unfolding recall_status_of
    recall_shown cxl = λ i.
        first_recall (found_shown i) (recall_standing_by (record {
          named = list_any (named_of_it cxl) (nam i);
          made = list_any (recall_of_it cxl) (made i);
          returned = amount_returned cxl (ret i);
          refused = reason_refused cxl (ref i);
          chased = list_any (request_of_it cxl) (req i);
        }))
