-- Cases that are built of the messages of a set, and what they tell. Proof plumbing.
use Rattle.std.specs.FinSet as set
use Rattle.std.proofs.Common.{◌≡◌, ◌∙◌, refl, sym, ap, ℕ, List, [], ◌∷◌, ◌++◌, map, filter}
use Rattle.std.specs.List.{flat_map, list_any}
use Rattle.std.specs.List.Sorted.{IsStrictlySortedBy}
use Rattle.std.specs.Ordering.{eq_by_cmp}
use Rattle.sct_message.specs.Ascending.{ascending}
use Rattle.sct_message.specs.Keys.{transfers_of}
use Rattle.sct_message.specs.Order.{message_order, same_transfer, transfer_order}
use Rattle.sct_message.specs.OrderLaws.{message_total, message_same, transfer_total, transfers_same}
use Rattle.sct_message.specs.Sets.{MessageSet, in_order}
use Rattle.sct_message.specs.Transfers.{is_on, keys_of, messages_on, asides_of}
use Rattle.sct_message.specs.declared.draft.Draft.{Draft}
use Rattle.sct_message.specs.declared.keys.TransferKey.{TransferKey}
use Rattle.sct_message.proofs.AscendingLemmas.{ascending-filter, ascending-same, ascending-sorted}
use Rattle.sct_message.specs.declared.keys.Identity.{Identity}
use Rattle.sct_message.specs.declared.keys.RecallKey.{RecallKey}
use Rattle.sct_case.specs.Statuses.{Unknown, recall_status_of, transfer_status_of}
use Rattle.sct_case.specs.declared.status.RecallStatus.{RecallStatus}
use Rattle.sct_case.specs.declared.status.RecallStatus.TheVariants as recall
use Rattle.sct_case.proofs.LookedUp.{recall_clear_by}
use Rattle.sct_set.proofs.ContentsLemmas.{any_items}
use Rattle.sct_set.specs.Contents.{contents_of}
use Rattle.sct_view.specs.Answers.{recall_of, status_of}
use Rattle.sct_view.specs.Filed.{HasThose}
use Rattle.sct_view.specs.StatusText.{recall_line}
use Rattle.sct_view.specs.Kept.{Kept, case_of, no_messages, same_key}
use Rattle.sct_view.proofs.ChangeLemmas.{nothing_kept}
use Rattle.sct_view.proofs.GatheredLemmas.{gathered_those}
use Rattle.sct_view.proofs.NamedLemmas.{lines_of_recalls}
use Rattle.sct_message.proofs.Tests.{any_flat_map}

-- ---- the messages of a set, filed

-- a list of a set's messages in order is the set's messages in order
pub in_order-contents : (s : MessageSet) (ds : List Draft) → contents_of ds ≡ s → ascending message_order ds ≡ in_order s
in_order-contents s ds e =
    ascending-same message_total message_same ds (set.items (contents_of ds)) (λ q. sym (any_items (eq_by_cmp message_order q) ds))
    ∙ ap in_order e

-- those on a transfer, put in order, are the set's messages on it
pub filed-contents : (s : MessageSet) (t : TransferKey) (ds found : List Draft) → contents_of ds ≡ s → HasThose found (filter (is_on t) ds)
    → ascending message_order found ≡ filter (is_on t) (in_order s)
filed-contents s t ds found e those =
    ascending-same message_total message_same found (filter (is_on t) ds) those
    ∙ ascending-filter message_total message_same (is_on t) ds
    ∙ ap (filter (is_on t)) (in_order-contents s ds e)

-- the transfers of a list of a set's messages are the set's keys
pub keys-contents : (s : MessageSet) (ds : List Draft) → contents_of ds ≡ s → ascending transfer_order (flat_map transfers_of ds) ≡ keys_of s
keys-contents s ds e =
    ascending-same transfer_total transfers_same _ _ (λ q.
    any_flat_map (same_transfer q) transfers_of ds
    ∙ sym (any_items (λ d. list_any (same_transfer q) (transfers_of d)) ds)
    ∙ sym (any_flat_map (same_transfer q) transfers_of (set.items (contents_of ds))))
    ∙ ap keys_of e

-- ---- what a table tells of a set

-- nothing is kept of any transfer where there are no messages
pub none_of_empty : (s : MessageSet) → s ≡ set.empty → (t : TransferKey) → no_messages ≡ case_of s t
unfolding IsStrictlySortedBy
none_of_empty s e t =
    let no_keys : [] ≡ keys_of s = sym (ascending-sorted transfer_total transfers_same [] tt) ∙ keys-contents s [] (sym e) in
    sym (nothing_kept s t (ap (λ (ks : List TransferKey). list_any (same_key t) ks) (sym no_keys)))

-- the status of a recall by the case of its transfer
pub recall_told : (s : MessageSet) (r : RecallKey) (kept : Kept) → kept ≡ case_of s r.transfer → (stands : RecallStatus)
    → ((asides : List Identity) → kept.stands ≡ transfer_status_of r.transfer kept.clean asides
    → stands ≡ recall_status_of r.transfer kept.clean asides r.cxl)
    → stands ≡ recall_of s r
unfolding case_of status_of recall_of
recall_told s r kept e stands told_by =
    let t = r.transfer in
    let clean : kept.clean ≡ messages_on s t = ap (λ (k : Kept). k.clean) e in
    let status : kept.stands ≡ transfer_status_of t kept.clean (asides_of s t) =
    ap (λ (k : Kept). k.stands) e ∙ sym (ap (λ (ms : List Draft). transfer_status_of t ms (asides_of s t)) clean) in
    told_by (asides_of s t) status
    ∙ ap (λ (ms : List Draft). recall_status_of t ms (asides_of s t) r.cxl) clean

-- the lines of some recalls by the case of their transfer
each_made : {X Y : Type 0} (line : Y → List ℕ) (made : X → Y) (xs : List X) → flat_map line (map made xs) ≡ flat_map (λ x. line (made x)) xs
each_made line made [] = refl
each_made line made (x ∷ xs) = ap (λ (l : List ℕ). line (made x) ++ l) (each_made line made xs)

-- the statuses of some recalls by a case are those in the set
pub statuses_told : (s : MessageSet) (t : TransferKey) (kept : Kept) → kept ≡ case_of s t → (cxls : List (List ℕ)) (found : List (List ℕ × RecallStatus))
    → ((asides : List Identity) → kept.stands ≡ transfer_status_of t kept.clean asides
    → found ≡ map (λ cxl. (cxl, recall_status_of t kept.clean asides cxl)) cxls)
    → found ≡ map (λ cxl. (cxl, recall_of s (record { transfer = t; cxl = cxl }))) cxls
unfolding case_of status_of recall_of
statuses_told s t kept e cxls found told_by =
    let clean : kept.clean ≡ messages_on s t = ap (λ (k : Kept). k.clean) e in
    let status : kept.stands ≡ transfer_status_of t kept.clean (asides_of s t) =
    ap (λ (k : Kept). k.stands) e ∙ sym (ap (λ (ms : List Draft). transfer_status_of t ms (asides_of s t)) clean) in
    told_by (asides_of s t) status
    ∙ ap (λ (ms : List Draft). map (λ cxl. (cxl, recall_status_of t ms (asides_of s t) cxl)) cxls) clean

pub lines_told : (s : MessageSet) (t : TransferKey) (kept : Kept) → kept ≡ case_of s t → (cxls : List (List ℕ)) (found : List (List ℕ × RecallStatus))
    → ((asides : List Identity) → kept.stands ≡ transfer_status_of t kept.clean asides
    → found ≡ map (λ cxl. (cxl, recall_status_of t kept.clean asides cxl)) cxls)
    → flat_map (λ recall. recall_line t recall.0 recall.1) found ≡ lines_of_recalls s t cxls
lines_told s t kept e cxls found told_by =
    ap (λ (rs : List (List ℕ × RecallStatus)). flat_map (λ recall. recall_line t recall.0 recall.1) rs)
    (statuses_told s t kept e cxls found told_by)
    ∙ each_made (λ recall. recall_line t recall.0 recall.1) (λ cxl. (cxl, recall_of s (record { transfer = t; cxl = cxl }))) cxls

-- of a transfer without messages nothing is recalled
pub nothing_recalled : (t : TransferKey) (cxl : List ℕ) (asides : List Identity) → Unknown ≡ transfer_status_of t [] asides
    → recall.Unknown ≡ recall_status_of t [] asides cxl
nothing_recalled t cxl asides stands = recall_clear_by t [] asides cxl Unknown stands (λ h. h)

-- what is kept of a transfer, and what some fresh messages have on it, are in order all messages on it
pub gathered_kept : (s f : MessageSet) (t : TransferKey) (kept : Kept) (ns on_it : List Draft) → kept ≡ case_of s t → contents_of ns ≡ f
    → HasThose on_it (filter (is_on t) ns)
    → ascending message_order (kept.clean ++ kept.contradicted ++ on_it) ≡ filter (is_on t) (in_order (set.union s f))
unfolding case_of
gathered_kept s f t kept ns on_it e is those =
    ap (λ (k : Kept). ascending message_order (k.clean ++ k.contradicted ++ on_it)) e
    ∙ gathered_those s ns t on_it those
    ∙ ap (λ (v : MessageSet). filter (is_on t) (in_order (set.union s v))) is
