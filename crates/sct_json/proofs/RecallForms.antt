-- The two forms of a camt.056: what is read of an object it holds, and what it holds is read.
use Rattle.std.proofs.Common.{◌≡◌, ◌∙◌, ap, sym, subst, refl, inl, inr, ℕ, ◌+◌, Bool, true, false, cond, List, [], ◌∷◌, length, Option, Some, None, is_some, Result, Ok, Err}
use Rattle.std.specs.Prelude.{ok_or, ⊤}
use Rattle.serde_json.specs.Data.{Data, null, boolean, number, string, array, object, Items, Members}
use Rattle.serde_json.specs.Find.{get, as_object}
use Rattle.sct_message.specs.declared.draft.RecallTx.{RecallTx}
use Rattle.sct_message.specs.Recalls.{Recalls}
use Rattle.sct_message.specs.Rules.{is_right_count}
use Rattle.sct_json.specs.declared.keys.Key.TheVariants as key
use Rattle.sct_json.specs.declared.keys.Shape.TheVariants.{Transaction}
use Rattle.sct_json.specs.declared.faults.JsonFault.{JsonFault}
use Rattle.sct_json.specs.declared.faults.JsonFault.TheVariants as fault
use Rattle.sct_json.specs.Keys.{key_text, is_key_in}
use Rattle.sct_json.specs.Reading.{head_in, transaction_in, names_of, first_extra, passes_unless, items_list, items_of_list, counted, first_no_object, are_objects, element_in, at_place, elements_in, list_in, flat_recall_in, listed_recalls_in, recalls_by, cancellation_request_in}
use Rattle.sct_json.specs.Form.{IsTransaction, AreTransactions, HoldsOne, HoldsList, HoldsRecalls}
use Rattle.sct_json.proofs.TableForms.{bind_then, bind_from, ok_or_ok, ok_same, ok_then, head_holds, holds_head, transaction_holds, holds_transaction, is_object, all_pass, none_fails, passes_none}

-- ---- an element of a list

pub element_holds : (d : Data) (m : RecallTx) → element_in d ≡ Ok m → IsTransaction d m
unfolding element_in
element_holds d m e0 =
    bind_then (ok_or (as_object d) fault.NotObject) _ _ e0 (λ ms r1 e1.
    bind_then (transaction_in d) _ _ e1 (λ tx r2 e2.
    bind_then (passes_unless (first_extra Transaction ms)) _ _ e2 (λ t r3 e3. record {
      keys = (ms, is_object d ms (ok_or_ok _ _ _ r1), all_pass (is_key_in Transaction) (names_of ms) (passes_none _ t r3));
      elements = transaction_holds d m (r2 ∙ e3);
    })))

pub holds_element : (d : Data) (m : RecallTx) → IsTransaction d m → element_in d ≡ Ok m
unfolding element_in
holds_element d m h =
    bind_from _ _ h.keys.0 _ (ap (λ (o : Option Members). ok_or o fault.NotObject) (ap as_object h.keys.1))
    (bind_from _ _ m _ (holds_transaction d m h.elements)
    (bind_from _ _ tt _ (ap passes_unless (none_fails (is_key_in Transaction) (names_of h.keys.0) h.keys.2))
    refl))

-- ---- the elements, one after another

at_ok : {X : Type 0} (place : ℕ) (r : Result X JsonFault) (x : X) → at_place place r ≡ Ok x → r ≡ Ok x
at_ok place (Ok y) x e = e
at_ok place (Err told) x e = cc

elements_hold : (place : ℕ) (ds : List Data) (txs : List RecallTx) → elements_in place ds ≡ Ok txs → AreTransactions ds txs
elements_hold place [] [] e = tt
elements_hold place [] (tx ∷ txs) e = cc
elements_hold place (d ∷ ds) txs e0 =
    bind_then (at_place place (element_in d)) _ _ e0 (λ tx r1 e1.
    bind_then (elements_in (place + 1) ds) _ _ e1 (λ more r2 e2.
    subst (λ (all : List RecallTx). AreTransactions (d ∷ ds) all) (ok_same _ _ e2)
    (element_holds d tx (at_ok place (element_in d) tx r1), elements_hold (place + 1) ds more r2)))

hold_elements : (place : ℕ) (ds : List Data) (txs : List RecallTx) → AreTransactions ds txs → elements_in place ds ≡ Ok txs
hold_elements place [] [] each = refl
hold_elements place [] (tx ∷ txs) each = absurd each
hold_elements place (d ∷ ds) [] each = absurd each
hold_elements place (d ∷ ds) (tx ∷ txs) each =
    bind_from _ _ tx _ (ap (at_place place) (holds_element d tx each.0))
    (bind_from _ _ txs _ (hold_elements (place + 1) ds txs each.1) refl)

all_objects : (place : ℕ) (ds : List Data) (txs : List RecallTx) → AreTransactions ds txs → first_no_object place ds ≡ None
all_objects place [] txs each = refl
all_objects place (d ∷ ds) [] each = absurd each
all_objects place (d ∷ ds) (tx ∷ txs) each =
    ap (λ (v : Data). cond (is_some (as_object v)) (first_no_object (place + 1) ds) (Some place)) each.0.keys.1
    ∙ all_objects (place + 1) ds txs each.1

-- ---- the list

pub counted_at : (b : Bool) (t : ⊤) → ◌≡◌ {A = Result ⊤ JsonFault} (cond b (Ok tt) (Err (fault.BadTransactions 0))) (Ok t) → b ≡ true
counted_at true t e = refl
counted_at false t e = cc

pub record IsListOf (d : Data) (ds : List Data) : Type 0 where
  pub items : Items
  pub is_array : d ≡ array items
  pub same : items_list items ≡ ds

pub its_items : (d : Data) (ds : List Data) → items_of_list d ≡ Some ds → IsListOf d ds
its_items null ds e = cc
its_items (boolean b) ds e = cc
its_items (number n) ds e = cc
its_items (string s) ds e = cc
its_items (array items) ds e = record { items = items; is_array = refl; same = cc }
its_items (object ms) ds e = cc

record IsRightList (d : Data) (txs : List RecallTx) : Type 0 where
  items : Items
  is_array : d ≡ array items
  few : is_right_count (length (items_list items)) ≡ true
  each : AreTransactions (items_list items) txs

list_holds : (d : Data) (txs : List RecallTx) → list_in d ≡ Ok txs → IsRightList d txs
unfolding list_in
list_holds d txs e0 =
    bind_then (ok_or (items_of_list d) (fault.BadTransactions 0)) _ _ e0 (λ ds r1 e1.
    bind_then (counted ds) _ _ e1 (λ t r2 e2.
    bind_then (are_objects (first_no_object 1 ds)) _ _ e2 (λ u r3 e3.
    let its : IsListOf d ds = its_items d ds (ok_or_ok _ _ _ r1) in record {
      items = its.items;
      is_array = its.is_array;
      few = ap (λ (all : List Data). is_right_count (length all)) its.same ∙ counted_at _ t r2;
      each = subst (λ (all : List Data). AreTransactions all txs) (sym its.same) (elements_hold 1 ds txs e3);
    })))

holds_list : (d : Data) (txs : List RecallTx) → IsRightList d txs → list_in d ≡ Ok txs
unfolding list_in
holds_list d txs h =
    let ds : List Data = items_list h.items in
    bind_from _ _ ds _ (ap (λ (v : Data). ok_or (items_of_list v) (fault.BadTransactions 0)) h.is_array)
    (bind_from _ _ tt _ (ap (λ (b : Bool). let read : Result ⊤ JsonFault = cond b (Ok tt) (Err (fault.BadTransactions 0)) in read) h.few)
    (bind_from _ _ tt _ (ap are_objects (all_objects 1 ds txs h.each))
    (hold_elements 1 ds txs h.each)))

-- ---- the two forms

flat_holds : (d : Data) (m : Recalls) → get (key_text key.TxInf) d ≡ None → flat_recall_in d ≡ Ok m → HoldsOne d m
unfolding flat_recall_in
flat_holds d m flat e0 =
    bind_then (head_in d) _ _ e0 (λ head r1 e1.
    bind_then (transaction_in d) _ _ e1 (λ tx r2 e2.
    ok_then _ _ e2 (λ same. record {
      head = head_holds d m.head (r1 ∙ ap (λ (m : Recalls). Ok m.head) same);
      flat = flat;
      one = tx;
      holds = transaction_holds d tx r2;
      only = sym (ap (λ (m : Recalls). m.txs) same);
    })))

listed_holds : (list d : Data) (m : Recalls) → get (key_text key.TxInf) d ≡ Some list → listed_recalls_in list d ≡ Ok m → HoldsList d m
unfolding listed_recalls_in
listed_holds list d m at e0 =
    bind_then (head_in d) _ _ e0 (λ head r1 e1.
    bind_then (list_in list) _ _ e1 (λ txs r2 e2.
    ok_then _ _ e2 (λ same.
    let right : IsRightList list m.txs = list_holds list m.txs (r2 ∙ ap (λ (m : Recalls). Ok m.txs) same) in record {
      head = head_holds d m.head (r1 ∙ ap (λ (m : Recalls). Ok m.head) same);
      items = right.items;
      list = at ∙ ap (λ (v : Data). Some v) right.is_array;
      few = right.few;
      each = right.each;
    })))

recalls_hold_by : (o : Option Data) (d : Data) (m : Recalls) → get (key_text key.TxInf) d ≡ o → recalls_by o d ≡ Ok m → HoldsRecalls d m
recalls_hold_by None d m at e = inl (flat_holds d m at e)
recalls_hold_by (Some list) d m at e = inr (listed_holds list d m at e)

pub recalls_hold : (d : Data) (m : Recalls) → cancellation_request_in d ≡ Ok m → HoldsRecalls d m
unfolding cancellation_request_in
recalls_hold d m e = recalls_hold_by (get (key_text key.TxInf) d) d m refl e

holds_flat : (d : Data) (m : Recalls) → HoldsOne d m → flat_recall_in d ≡ Ok m
unfolding flat_recall_in
holds_flat d m h =
    bind_from _ _ m.head _ (holds_head d m.head h.head)
    (bind_from _ _ h.one _ (holds_transaction d h.one h.holds)
    (ap (λ (txs : List RecallTx). let made : Recalls = record { head = m.head; txs = txs } in Ok made) (sym h.only)))

holds_listed : (d : Data) (m : Recalls) (h : HoldsList d m) → listed_recalls_in (array h.items) d ≡ Ok m
unfolding listed_recalls_in
holds_listed d m h =
    bind_from _ _ m.head _ (holds_head d m.head h.head)
    (bind_from _ _ m.txs _ (holds_list (array h.items) m.txs (record { items = h.items; is_array = refl; few = h.few; each = h.each }))
    refl)

pub holds_recalls : (d : Data) (m : Recalls) → HoldsRecalls d m → cancellation_request_in d ≡ Ok m
unfolding cancellation_request_in
holds_recalls d m h = elim h [
  | inl one ↦ ap (λ (o : Option Data). recalls_by o d) one.flat ∙ holds_flat d m one
  | inr list ↦ ap (λ (o : Option Data). recalls_by o d) list.list ∙ holds_listed d m list
]
