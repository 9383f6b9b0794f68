-- Proof plumbing: the orders of messages and of keys are total, and different values never compare Equal.
use Rattle.std.proofs.Common.{◌≡◌, ◌∙◌, refl, ap, sym, subst, Option, Some, None, option_map, ◌&&◌, Bool, true, nat_eq}
use Rattle.std.specs.Ordering.{ordering_then, is_eq, eq_by_cmp}
use Rattle.std.specs.declared.cmp.Ordering.{Ordering}
use Rattle.std.specs.declared.cmp.Ordering.TheVariants.{Less, Equal, Greater}
use Rattle.std.specs.Option.{option_cmp}
use Rattle.std.specs.Cmp.{IsTotalOrder, on_total, then_total}
use Rattle.std.specs.Cmp.Lexicographic.{nat_list_cmp_total, pointwise, texts_ties}
use Rattle.std.specs.FinSet.{IsAntisymmetric}
use Rattle.std.proofs.lemmas.Cmp.{tied_itself}
use Rattle.sct_reason.specs.declared.reasons.Reason.{Reason}
use Rattle.sct_reason.specs.Codes.{reason_text}
use Rattle.sct_reason.specs.Reasons.{reason_order}
use Rattle.sct_message.specs.declared.draft.Draft.{Draft}
use Rattle.sct_message.specs.declared.kinds.Kind.{Kind}
use Rattle.sct_message.specs.declared.kinds.Kind.TheVariants.{Camt029, Camt056, Pacs002, Pacs004, Pacs008, Pacs028}
use Rattle.sct_message.specs.Kinds.{kind_text, kind_named}
use Rattle.sct_message.specs.CellsBack.{texts_same, elements_same}
pub use Rattle.sct_message.specs.RecallOrders.{both_tie}
use Rattle.sct_message.specs.RecallOrders.{elements_total, txs_total, txs_same, is_eq_Equal}
use Rattle.sct_message.specs.Ranks.{message_from, message_back}
use Rattle.sct_message.specs.declared.keys.Identity.{Identity}
use Rattle.sct_message.specs.declared.keys.TransferKey.{TransferKey}
use Rattle.sct_message.specs.declared.keys.RecallKey.{RecallKey}
use Rattle.sct_message.specs.Keys.{identity_of}
use Rattle.sct_message.specs.Order.{text_order, elements_of, transactions_of, message_order, kind_order, identity_order, transfer_order, recall_order, same_identity, same_transfer, same_message}

pub then_assoc : (a b c : Ordering) → ordering_then (ordering_then a b) c ≡ ordering_then a (ordering_then b c)
then_assoc Less b c = refl
then_assoc Equal b c = refl
then_assoc Greater b c = refl

pub then_equal : (a : Ordering) → ordering_then a Equal ≡ a
then_equal Less = refl
then_equal Equal = refl
then_equal Greater = refl

-- reasons compare by their codes
pub reasons_by_code : (r s : Option Reason)
    → option_cmp reason_order r s ≡ option_cmp text_order (option_map reason_text r) (option_map reason_text s)
reasons_by_code None None = refl
reasons_by_code None (Some s) = refl
reasons_by_code (Some r) None = refl
reasons_by_code (Some r) (Some s) = refl

-- a kind is found by its text
pub named_by_text : (k : Kind) → kind_named (kind_text k) ≡ Some k
named_by_text Camt029 = refl
named_by_text Camt056 = refl
named_by_text Pacs002 = refl
named_by_text Pacs004 = refl
named_by_text Pacs008 = refl
named_by_text Pacs028 = refl

kinds_inside : {j k : Kind} → Some j ≡ Some k → j ≡ k
kinds_inside e = cc

-- kinds with the same text are the same kind
pub kinds_same : (j k : Kind) → kind_text j ≡ kind_text k → j ≡ k
kinds_same j k e = kinds_inside (sym (named_by_text j) ∙ ap kind_named e ∙ named_by_text k)

-- ---- the orders of keys

pub identity_total : IsTotalOrder identity_order
identity_total = then_total (on_total (λ (i : Identity). i.sender) nat_list_cmp_total)
    (then_total (on_total (λ (i : Identity). kind_text i.kind) nat_list_cmp_total)
    (on_total (λ (i : Identity). i.msg_id) nat_list_cmp_total))

pub transfer_total : IsTotalOrder transfer_order
transfer_total = then_total (on_total (λ (t : TransferKey). t.debtor_agent) nat_list_cmp_total)
    (on_total (λ (t : TransferKey). t.tx) nat_list_cmp_total)

pub recall_total : IsTotalOrder recall_order
recall_total = then_total (on_total (λ (r : RecallKey). r.transfer) transfer_total)
    (on_total (λ (r : RecallKey). r.cxl) nat_list_cmp_total)

pub identities_same : IsAntisymmetric identity_order
identities_same i j e =
    let first : (text_order i.sender j.sender ≡ Equal)
    × (ordering_then (kind_order i.kind j.kind) (text_order i.msg_id j.msg_id) ≡ Equal) = both_tie _ _ e in
    let rest : (kind_order i.kind j.kind ≡ Equal) × (text_order i.msg_id j.msg_id ≡ Equal) = both_tie _ _ first.1 in
    let sender : i.sender ≡ j.sender = texts_same _ _ first.0 in
    let kind : i.kind ≡ j.kind = kinds_same _ _ (texts_same _ _ rest.0) in
    let msg_id : i.msg_id ≡ j.msg_id = texts_same _ _ rest.1 in
    λ n. record { sender = sender n; kind = kind n; msg_id = msg_id n }

pub transfers_same : IsAntisymmetric transfer_order
transfers_same s t e =
    let parts : (text_order s.debtor_agent t.debtor_agent ≡ Equal) × (text_order s.tx t.tx ≡ Equal) = both_tie _ _ e in
    let debtor_agent : s.debtor_agent ≡ t.debtor_agent = texts_same _ _ parts.0 in
    let tx : s.tx ≡ t.tx = texts_same _ _ parts.1 in
    λ n. record { debtor_agent = debtor_agent n; tx = tx n }

pub recalls_same : IsAntisymmetric recall_order
recalls_same q r e =
    let parts : (transfer_order q.transfer r.transfer ≡ Equal) × (text_order q.cxl r.cxl ≡ Equal) = both_tie _ _ e in
    let transfer : q.transfer ≡ r.transfer = transfers_same _ _ parts.0 in
    let cxl : q.cxl ≡ r.cxl = texts_same _ _ parts.1 in
    λ n. record { transfer = transfer n; cxl = cxl n }

-- ---- the order of messages

pub message_total : IsTotalOrder message_order
unfolding message_order
message_total = then_total (on_total identity_of identity_total)
    (then_total (on_total elements_of elements_total) (on_total transactions_of txs_total))

-- messages of one identity with equal elements and equal transactions are equal
pub message_same : (a b : Draft) → message_order a b ≡ Equal → a ≡ b
unfolding message_order
message_same a b e =
    let parts = both_tie _ _ e in
    let rest = both_tie _ _ parts.1 in
    let identity = identities_same (identity_of a) (identity_of b) parts.0 in
    let elements = elements_same (elements_of a) (elements_of b) rest.0 in
    let txs = txs_same (transactions_of a) (transactions_of b) rest.1 in
    sym (message_back a) ∙ (λ n. message_from (identity n).kind (elements n) (txs n)) ∙ message_back b

pub message_itself : (a b : Draft) → a ≡ b → message_order a b ≡ Equal
message_itself a b e = subst (λ (d : Draft). message_order a d ≡ Equal) e (tied_itself message_total a)

-- a function of messages has equal values for two that compare Equal
pub same_input : {X : Type 0} (told : Draft → X) (a b : Draft) → same_message a b ≡ true → told a ≡ told b
same_input told a b e = ap told (message_same a b (is_eq_Equal (message_order a b) e))

-- ---- equality by parts is equality by order

and_ties : (a b : Ordering) → (is_eq a && is_eq b) ≡ is_eq (ordering_then a b)
and_ties Less b = refl
and_ties Equal b = refl
and_ties Greater b = refl

pub transfer_ties : (s t : TransferKey)
    → (pointwise nat_eq s.debtor_agent t.debtor_agent && pointwise nat_eq s.tx t.tx) ≡ same_transfer s t
transfer_ties s t = (λ i. texts_ties s.debtor_agent t.debtor_agent i && texts_ties s.tx t.tx i) ∙ and_ties _ _

pub identity_ties : (kinds : Bool) (i j : Identity) → kinds ≡ eq_by_cmp kind_order i.kind j.kind
    → (pointwise nat_eq i.sender j.sender && (kinds && pointwise nat_eq i.msg_id j.msg_id)) ≡ same_identity i j
identity_ties kinds i j e =
    (λ n. texts_ties i.sender j.sender n && (e n && texts_ties i.msg_id j.msg_id n))
    ∙ ap (λ (b : Bool). is_eq (text_order i.sender j.sender) && b)
    (and_ties (kind_order i.kind j.kind) (text_order i.msg_id j.msg_id))
    ∙ and_ties _ _
