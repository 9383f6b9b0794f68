-- Each status of a recall is returned exactly if its sentence holds.
use Rattle.std.proofs.Common.{◌≡◌, ◌∙◌, refl, sym, ap, subst, ℕ, Bool, true, false, List, [], ◌∷◌, Option, Some, None}
use Rattle.std.specs.Prelude.{◌≢◌}
use Rattle.std.specs.Bool.{Decides}
use Rattle.std.specs.List.{list_any, flat_map}
use Rattle.std.specs.Cmp.Lexicographic.{bytes_decides}
use Rattle.std.proofs.lemmas.Bool.{false_from_ne_true}
use Rattle.std.proofs.lemmas.Bool.Decides.{Decides-like, not_from_Decides}
use Rattle.sct_reason.specs.declared.reasons.Reason.{Reason}
use Rattle.sct_message.specs.declared.draft.Draft.{Draft}
use Rattle.sct_message.specs.declared.keys.Identity.{Identity}
use Rattle.sct_message.specs.declared.keys.TransferKey.{TransferKey}
use Rattle.sct_case.specs.declared.finding.Finding.{Finding}
use Rattle.sct_case.specs.declared.status.RecallStatus.{RecallStatus}
use Rattle.sct_case.specs.declared.status.RecallStatus.TheVariants as recall
use Rattle.sct_case.specs.declared.said.RefusalMade.{RefusalMade}
use Rattle.sct_case.specs.Said.{IsSaid, recalls_made_by, returns_by, refusals_by, requests_by, recalls_named_by}
use Rattle.sct_case.specs.Told.{findings_of, recall_of_it, return_of_it, refusal_of_it}
use Rattle.sct_case.specs.Statuses.{named_of_it, request_of_it, amount_returned, reason_refused, is_named, is_made, first_recall, recall_facts_of, recall_standing_by, recall_status_of}
use Rattle.sct_case.specs.Sentences.{IsConsistent}
use Rattle.sct_case.specs.RecallSentences.{IsNamed, IsMade, IsReturnedAfter, IsRefusedFor, IsChased, RecallGoes, IsUnanswered, IsRecallStatus, TellsEachRecallStatus}
use Rattle.sct_case.specs.Laws.{HaveDistinctIdentities}
use Rattle.sct_case.proofs.Membership.{Picks, any_said-Decides, picks_like, picks_none, picks_some, said_picks}
use Rattle.sct_case.proofs.Stays.{consistent_say_one_thing}

-- ---- what decides each part of a status

module _ (t : TransferKey) (clean : List Draft) (c : List ℕ) where
  named-Decides : Decides (is_named t clean c) (IsNamed t clean c)
  named-Decides = Decides-like _
      (λ s. let same : s.0 ≡ record { cxl = c } = λ i. record { cxl = s.2 i } in subst (IsSaid (recalls_named_by t) clean) same s.1)
      (λ s. (record { cxl = c }, s, refl)) (any_said-Decides (recalls_named_by t) clean (named_of_it c) (λ m. m.cxl ≡ c) (λ m. bytes_decides m.cxl c))

  made-Decides : Decides (is_made t clean c) (IsMade t clean c)
  made-Decides = any_said-Decides (recalls_made_by t) clean (recall_of_it c) (λ m. m.cxl ≡ c) (λ m. bytes_decides m.cxl c)

  chased-Decides : Decides (list_any (request_of_it c) (flat_map (requests_by t) clean)) (IsChased t clean c)
  chased-Decides = Decides-like _
      (λ s. let same : s.0 ≡ record { cxl = c } = λ i. record { cxl = s.2 i } in subst (IsSaid (requests_by t) clean) same s.1)
      (λ s. (record { cxl = c }, s, refl)) (any_said-Decides (requests_by t) clean (request_of_it c) (λ m. m.cxl ≡ c) (λ m. bytes_decides m.cxl c))

  amount_picks : Picks (amount_returned c (flat_map (returns_by t) clean)) (IsReturnedAfter t clean c)
  amount_picks = said_picks (returns_by t) clean (return_of_it c) (λ m. m.cxl ≡ c) (λ m. bytes_decides m.cxl c) (λ r. r.amount)

  reason_picks : Picks (reason_refused c (flat_map (refusals_by t) clean)) (IsRefusedFor t clean c)
  reason_picks = picks_like (λ r. (m : RefusalMade) × IsSaid (refusals_by t) clean m × (m.cxl ≡ c) × (m.reason ≡ r)) (IsRefusedFor t clean c) _
      (λ r s. let same : s.0 ≡ record { cxl = c; reason = r } = λ i. record { cxl = s.2 i; reason = s.3 i } in subst (IsSaid (refusals_by t) clean) same s.1)
      (λ r s. (record { cxl = c; reason = r }, s, refl, refl)) (said_picks (refusals_by t) clean (refusal_of_it c) (λ m. m.cxl ≡ c) (λ m. bytes_decides m.cxl c) (λ r. r.reason))

-- the status of a recall by its facts in their order
abbrev stands_by : Bool → Bool → Option ℕ → Option Reason → Bool → RecallStatus
stands_by n m a r q = recall_standing_by (record { named = n; made = m; returned = a; refused = r; chased = q })

module _ (t : TransferKey) (clean : List Draft) (asides : List Identity) (c : List ℕ) where
  holds : (found : List Finding) → findings_of t clean asides ≡ found → (n : Bool) → Decides n (IsNamed t clean c) → (m : Bool) → Decides m (IsMade t clean c)
      → (a : Option ℕ) → Picks a (IsReturnedAfter t clean c) → (r : Option Reason) → Picks r (IsRefusedFor t clean c) → (q : Bool) → Decides q (IsChased t clean c)
      → IsRecallStatus t clean asides c (first_recall found (stands_by n m a r q))
  holds (f ∷ fs) e n N m M a A r R q Q = λ k. cc
  holds [] e false N m M a A r R q Q = (e, not_from_Decides _ N refl)
  holds [] e true N false M a A r R q Q = (e, N.0 refl, not_from_Decides _ M refl)
  holds [] e true N true M (Some amount) A r R q Q = (record { consistent = e; named = N.0 refl; made = M.0 refl }, A)
  holds [] e true N true M None A (Some reason) R q Q = (record { consistent = e; named = N.0 refl; made = M.0 refl }, A, R)
  holds [] e true N true M None A None R true Q = (record { consistent = e; named = N.0 refl; made = M.0 refl }, record { not_returned = A; not_refused = R }, Q.0 refl)
  holds [] e true N true M None A None R false Q = (record { consistent = e; named = N.0 refl; made = M.0 refl }, record { not_returned = A; not_refused = R }, not_from_Decides _ Q refl)

  pub told_holds : IsRecallStatus t clean asides c (recall_status_of t clean asides c)
  unfolding recall_status_of
  told_holds = holds _ refl _ (named-Decides t clean c) _ (made-Decides t clean c) _ (amount_picks t clean c) _ (reason_picks t clean c) _ (chased-Decides t clean c)

  first_contradicted : (found : List Finding) (s : RecallStatus) → found ≢ [] → first_recall found s ≡ recall.Contradicted
  first_contradicted [] s some = absurd (some refl)
  first_contradicted (f ∷ fs) s some = refl

  pub contradicted : findings_of t clean asides ≢ [] → recall_status_of t clean asides c ≡ recall.Contradicted
  unfolding recall_status_of
  contradicted some = first_contradicted (findings_of t clean asides) _ some

  stands : IsConsistent t clean asides → (n m : Bool) → is_named t clean c ≡ n → is_made t clean c ≡ m
      → let facts = recall_facts_of t clean c in recall_status_of t clean asides c ≡ stands_by n m facts.returned facts.refused facts.chased
  unfolding recall_status_of
  stands e n m named made = λ i. let facts = recall_facts_of t clean c in first_recall (e i) (stands_by (named i) (made i) facts.returned facts.refused facts.chased)

  goes_on : RecallGoes t clean asides c
      → let facts = recall_facts_of t clean c in recall_status_of t clean asides c ≡ stands_by true true facts.returned facts.refused facts.chased
  goes_on g = stands g.consistent true true ((named-Decides t clean c).1 g.named) ((made-Decides t clean c).1 g.made)

  unanswered : IsUnanswered t clean c → (q : Bool) → (recall_facts_of t clean c).chased ≡ q
      → let facts = recall_facts_of t clean c in stands_by true true facts.returned facts.refused facts.chased ≡ stands_by true true None None q
  unanswered u q asked = λ i. stands_by true true
      (picks_none (IsReturnedAfter t clean c) _ (amount_picks t clean c) u.not_returned i)
      (picks_none (IsRefusedFor t clean c) _ (reason_picks t clean c) u.not_refused i) (asked i)

  pub holds_told : HaveDistinctIdentities clean → (s : RecallStatus) → IsRecallStatus t clean asides c s → recall_status_of t clean asides c ≡ s
  holds_told apart recall.Contradicted h = contradicted h
  holds_told apart recall.Unknown h = stands h.0 false _ (false_from_ne_true _ (λ n. h.1 ((named-Decides t clean c).0 n))) refl
  holds_told apart recall.Unasked h = stands h.0 true false ((named-Decides t clean c).1 h.1) (false_from_ne_true _ (λ m. h.2 ((made-Decides t clean c).0 m)))
  holds_told apart (recall.Returned a) h =
      let one = consistent_say_one_thing t clean asides apart h.0.consistent in
      let told = picks_some (IsReturnedAfter t clean c) _ (amount_picks t clean c) a h.1 (λ n s. sym s.3 ∙ ap (λ x. x.amount) (one.returns s.0 h.1.0 s.1 h.1.1) ∙ h.1.3) in
      goes_on h.0 ∙ ap (λ o. stands_by true true o (recall_facts_of t clean c).refused (recall_facts_of t clean c).chased) told
  holds_told apart (recall.Refused r) h =
      let one = consistent_say_one_thing t clean asides apart h.0.consistent in
      let none = picks_none (IsReturnedAfter t clean c) _ (amount_picks t clean c) h.1 in
      let told = picks_some (IsRefusedFor t clean c) _ (reason_picks t clean c) r h.2 (λ q s. ap (λ x. x.reason) (one.refusals (record { cxl = c; reason = q }) (record { cxl = c; reason = r }) s h.2 refl)) in
      goes_on h.0 ∙ (λ i. stands_by true true (none i) (told i) (recall_facts_of t clean c).chased)
  holds_told apart recall.Chased h = goes_on h.0 ∙ unanswered h.1 true ((chased-Decides t clean c).1 h.2)
  holds_told apart recall.Open h = goes_on h.0 ∙ unanswered h.1 false (false_from_ne_true _ (λ q. h.2 ((chased-Decides t clean c).0 q)))

pub tells_each_recall_status : TellsEachRecallStatus
tells_each_recall_status t clean asides c apart s =
    (λ e. subst (IsRecallStatus t clean asides c) e (told_holds t clean asides c), holds_told t clean asides c apart s)
