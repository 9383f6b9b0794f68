-- What an object is refused with: each fault, with what it says of the object.
use Rattle.std.proofs.Common.{◌≡◌, ◌≢◌, ◌∙◌, ap, sym, subst, refl, arith, inl, inr, ℕ, zero, suc, ◌+◌, List, length, Option, Some, None, Result, Ok, Err, Bool, true, false, cond, Ordering, Less, Equal, Greater, nat_cmp}
use Rattle.std.specs.Prelude.{ok_or, ◌⊎◌, ⊤}
use Rattle.std.specs.Ordering.{match_ordering}
use Rattle.std.specs.Cmp.Lexicographic.{slice_cmp}
use Rattle.std.specs.Str.{is_utf8}
use Rattle.std.proofs.lemmas.Bool.{false≢true}
use Rattle.std.proofs.lemmas.Str.{IsUtf8-from_is_utf8}
use Rattle.serde_json.specs.Data.{Data, null, boolean, number, string, array, object, Items, no_items, item, Members, no_members, member}
use Rattle.serde_json.specs.Read.{read}
use Rattle.serde_json.specs.Find.{get, get_member, get_item, as_object}
use Rattle.sct_element.specs.declared.faults.ElementFault.{ElementFault}
use Rattle.sct_message.specs.declared.kinds.Kind.{Kind}
use Rattle.sct_message.specs.declared.kinds.Kind.TheVariants.{Camt029, Camt056, Pacs002, Pacs004, Pacs008, Pacs028}
use Rattle.sct_message.specs.declared.draft.Draft.{Draft}
use Rattle.sct_message.specs.declared.draft.RecallTx.{RecallTx}
use Rattle.sct_message.specs.declared.rules.RuleFault.{RuleFault}
use Rattle.sct_message.specs.declared.rules.RuleFault.TheVariants as rule
use Rattle.sct_message.specs.Drafts.{kind_of, head_of}
use Rattle.sct_message.specs.Kinds.{is_name_of}
use Rattle.sct_message.specs.Rules.{first_broken_rule, is_right_count}
use Rattle.sct_json.specs.declared.keys.Key.{Key}
use Rattle.sct_json.specs.declared.keys.Key.TheVariants as key
use Rattle.sct_json.specs.declared.keys.Shape.TheVariants.{Transaction}
use Rattle.sct_json.specs.declared.faults.JsonFault.{JsonFault}
use Rattle.sct_json.specs.declared.faults.JsonFault.TheVariants as fault
use Rattle.sct_json.specs.declared.faults.KeyFault.{KeyFault}
use Rattle.sct_json.specs.declared.faults.KeyFault.TheVariants as key_fault
use Rattle.sct_json.specs.Faults.{placed}
use Rattle.sct_json.specs.Keys.{key_text}
use Rattle.sct_json.specs.Reading.{◌>>=◌, required_as, optional_as, required, optional, head_in, original_in, credit_transfer_in, status_report_in, status_request_in, transaction_in, payment_return_in, resolution_in, first_extra, passes_unless, items_list, items_of_list, counted, first_no_object, are_objects, element_in, elements_in, list_in, flat_recall_in, listed_recalls_in, recalls_by, cancellation_request_in, draft_in, shape_in, kind_in, follows_unless, object_in, value_in, message_in}
use Rattle.sct_json.specs.Form.{StandsFor, HoldsElements}
use Rattle.sct_json.specs.Places.{HasList, IsFirstWithout, IsNoListOfObjects, IsNoListOfTransactions, IsObject, IsRightList, IsSomeTransaction}
use Rattle.sct_json.specs.Names.{NamesAscend, NamesAscendInItems, NamesAscendInMembers, HasLeastExtraKey, HasLeastExtraKeyAt}
use Rattle.sct_json.proofs.Forms.{draft_holds, named_as_its_kind}
use Rattle.sct_json.proofs.NameRule.{named_is_not_told}
use Rattle.sct_json.proofs.Names.{names_read, first_is_least}
use Rattle.sct_json.proofs.Places.{IsFirstFrom, IsRefusedAt, each_is_object, first_is_no_object, first_is_refused}
use Rattle.sct_json.proofs.RecallForms.{IsListOf, counted_at, holds_element, its_items}
use Rattle.sct_json.proofs.TableForms.{ok_or_ok, is_object}

-- ---- what is told, one step after another

abbrev Tells : {X : Type 0} → (JsonFault → Type 0) → Result X JsonFault → Type 0
Tells P (Ok x) = Unit {0}
Tells P (Err e) = P e

none_or_some : {X : Type 0} (x : X) → ◌≡◌ {A = Option X} None (Some x) → ⊥
none_or_some x e = cc

then_told : {X Y : Type 0} (P : JsonFault → Type 0) (r : Result X JsonFault) (f : X → Result Y JsonFault) → Tells P r → ((x : X) → r ≡ Ok x → Tells P (f x)) → Tells P (r >>= f)
then_told P (Ok x) f first next = next x refl
then_told P (Err e) f first next = first

or_told : {X : Type 0} (P : JsonFault → Type 0) (o : Option X) (e : JsonFault) → P e → Tells P (ok_or o e)
or_told P None e told = told
or_told P (Some x) e told = tt

are_all : (o : Option ℕ) (u : ⊤) → are_objects o ≡ Ok u → o ≡ None
are_all None u e = refl
are_all (Some place) u e = cc

-- ---- the key tables tell 34 to 36

-- so much is said of a fault that it may be one of any key
record IsOfKeys (P : JsonFault → Type 0) : Type 0 where
  missing : (key : Key) → P (fault.Missing key)
  not_text : (key : Key) → P (fault.NotText key)
  element : (key : Key) (e : ElementFault) → P (fault.Element key e)

module _ (P : JsonFault → Type 0) (keyed : IsOfKeys P) where
  then_tells : {X Y : Type 0} (r : Result X JsonFault) (f : X → Result Y JsonFault) → Tells P r → ((x : X) → r ≡ Ok x → Tells P (f x)) → Tells P (r >>= f)
  then_tells r f first next = then_told P r f first next

  required_tells_at : {X : Type 0} (reads : List ℕ → Option X) (e : ElementFault) (k : Key) (o : Option Data) → Tells P (required_as reads e k o)
  required_tells_at reads e k None = keyed.missing k
  required_tells_at reads e k (Some null) = keyed.not_text k
  required_tells_at reads e k (Some (boolean b)) = keyed.not_text k
  required_tells_at reads e k (Some (number n)) = keyed.not_text k
  required_tells_at reads e k (Some (string s)) = or_told P (reads s) (fault.Element k e) (keyed.element k e)
  required_tells_at reads e k (Some (array ds)) = keyed.not_text k
  required_tells_at reads e k (Some (object ms)) = keyed.not_text k

  required_tells : {X : Type 0} (reads : List ℕ → Option X) (e : ElementFault) (k : Key) (d : Data) → Tells P (required reads e k d)
  unfolding required
  required_tells reads e k d = required_tells_at reads e k (get (key_text k) d)

  optional_tells_at : {X : Type 0} (reads : List ℕ → Option X) (e : ElementFault) (k : Key) (o : Option Data) → Tells P (optional_as reads e k o)
  optional_tells_at reads e k None = tt
  optional_tells_at reads e k (Some v) = then_tells _ _ (required_tells_at reads e k (Some v)) (λ x r. tt)

  optional_tells : {X : Type 0} (reads : List ℕ → Option X) (e : ElementFault) (k : Key) (d : Data) → Tells P (optional reads e k d)
  unfolding optional
  optional_tells reads e k d = optional_tells_at reads e k (get (key_text k) d)

  head_tells : (d : Data) → Tells P (head_in d)
  unfolding head_in
  head_tells d =
      then_tells _ _ (required_tells _ _ _ d) (λ x1 r1.
      then_tells _ _ (required_tells _ _ _ d) (λ x2 r2.
      then_tells _ _ (required_tells _ _ _ d) (λ x3 r3.
      then_tells _ _ (required_tells _ _ _ d) (λ x4 r4.
      then_tells _ _ (optional_tells _ _ _ d) (λ x5 r5.
      tt)))))

  original_tells : (d : Data) → Tells P (original_in d)
  unfolding original_in
  original_tells d =
      then_tells _ _ (required_tells _ _ _ d) (λ x1 r1.
      then_tells _ _ (required_tells _ _ _ d) (λ x2 r2.
      then_tells _ _ (optional_tells _ _ _ d) (λ x3 r3.
      then_tells _ _ (required_tells _ _ _ d) (λ x4 r4.
      tt))))

  credit_transfer_tells : (d : Data) → Tells P (credit_transfer_in d)
  unfolding credit_transfer_in
  credit_transfer_tells d =
      then_tells _ _ (head_tells d) (λ x1 r1.
      then_tells _ _ (required_tells _ _ _ d) (λ x2 r2.
      then_tells _ _ (required_tells _ _ _ d) (λ x3 r3.
      then_tells _ _ (required_tells _ _ _ d) (λ x4 r4.
      then_tells _ _ (optional_tells _ _ _ d) (λ x5 r5.
      then_tells _ _ (required_tells _ _ _ d) (λ x6 r6.
      then_tells _ _ (required_tells _ _ _ d) (λ x7 r7.
      then_tells _ _ (required_tells _ _ _ d) (λ x8 r8.
      then_tells _ _ (required_tells _ _ _ d) (λ x9 r9.
      then_tells _ _ (required_tells _ _ _ d) (λ x10 r10.
      then_tells _ _ (optional_tells _ _ _ d) (λ x11 r11.
      then_tells _ _ (required_tells _ _ _ d) (λ x12 r12.
      then_tells _ _ (required_tells _ _ _ d) (λ x13 r13.
      then_tells _ _ (required_tells _ _ _ d) (λ x14 r14.
      then_tells _ _ (required_tells _ _ _ d) (λ x15 r15.
      then_tells _ _ (required_tells _ _ _ d) (λ x16 r16.
      then_tells _ _ (required_tells _ _ _ d) (λ x17 r17.
      then_tells _ _ (optional_tells _ _ _ d) (λ x18 r18.
      tt))))))))))))))))))

  status_report_tells : (d : Data) → Tells P (status_report_in d)
  unfolding status_report_in
  status_report_tells d =
      then_tells _ _ (head_tells d) (λ x1 r1.
      then_tells _ _ (original_tells d) (λ x2 r2.
      then_tells _ _ (required_tells _ _ _ d) (λ x3 r3.
      then_tells _ _ (optional_tells _ _ _ d) (λ x4 r4.
      then_tells _ _ (required_tells _ _ _ d) (λ x5 r5.
      tt)))))

  status_request_tells : (d : Data) → Tells P (status_request_in d)
  unfolding status_request_in
  status_request_tells d =
      then_tells _ _ (head_tells d) (λ x1 r1.
      then_tells _ _ (original_tells d) (λ x2 r2.
      then_tells _ _ (optional_tells _ _ _ d) (λ x3 r3.
      then_tells _ _ (required_tells _ _ _ d) (λ x4 r4.
      tt))))

  transaction_tells : (d : Data) → Tells P (transaction_in d)
  unfolding transaction_in
  transaction_tells d =
      then_tells _ _ (required_tells _ _ _ d) (λ x1 r1.
      then_tells _ _ (original_tells d) (λ x2 r2.
      then_tells _ _ (required_tells _ _ _ d) (λ x3 r3.
      then_tells _ _ (required_tells _ _ _ d) (λ x4 r4.
      then_tells _ _ (optional_tells _ _ _ d) (λ x5 r5.
      then_tells _ _ (required_tells _ _ _ d) (λ x6 r6.
      then_tells _ _ (required_tells _ _ _ d) (λ x7 r7.
      tt)))))))

  payment_return_tells : (d : Data) → Tells P (payment_return_in d)
  unfolding payment_return_in
  payment_return_tells d =
      then_tells _ _ (head_tells d) (λ x1 r1.
      then_tells _ _ (required_tells _ _ _ d) (λ x2 r2.
      then_tells _ _ (required_tells _ _ _ d) (λ x3 r3.
      then_tells _ _ (original_tells d) (λ x4 r4.
      then_tells _ _ (required_tells _ _ _ d) (λ x5 r5.
      then_tells _ _ (required_tells _ _ _ d) (λ x6 r6.
      then_tells _ _ (required_tells _ _ _ d) (λ x7 r7.
      then_tells _ _ (required_tells _ _ _ d) (λ x8 r8.
      then_tells _ _ (required_tells _ _ _ d) (λ x9 r9.
      then_tells _ _ (required_tells _ _ _ d) (λ x10 r10.
      tt))))))))))

  resolution_tells : (d : Data) → Tells P (resolution_in d)
  unfolding resolution_in
  resolution_tells d =
      then_tells _ _ (head_tells d) (λ x1 r1.
      then_tells _ _ (required_tells _ _ _ d) (λ x2 r2.
      then_tells _ _ (required_tells _ _ _ d) (λ x3 r3.
      then_tells _ _ (original_tells d) (λ x4 r4.
      then_tells _ _ (required_tells _ _ _ d) (λ x5 r5.
      then_tells _ _ (required_tells _ _ _ d) (λ x6 r6.
      then_tells _ _ (required_tells _ _ _ d) (λ x7 r7.
      tt)))))))

-- ---- the elements of a list

-- what is told of the element at no place yet
abbrev IsOfElement : Data → JsonFault → Type 0
IsOfElement d fault.NotObject = Unit {0}
IsOfElement d (fault.Missing key) = Unit {0}
IsOfElement d (fault.NotText key) = Unit {0}
IsOfElement d (fault.Element key e) = Unit {0}
IsOfElement d (fault.Extra name) = (ms : Members) × (d ≡ object ms) × (first_extra Transaction ms ≡ Some name)
IsOfElement d other = ⊥

element_keyed : (d : Data) → IsOfKeys (IsOfElement d)
element_keyed d = record { missing = λ key. tt; not_text = λ key. tt; element = λ key e. tt }

extra_tells : (d : Data) (ms : Members) (o : Option (List ℕ)) → first_extra Transaction ms ≡ o → d ≡ object ms → Tells (IsOfElement d) (passes_unless o)
extra_tells d ms None first is_object = tt
extra_tells d ms (Some name) first is_object = (ms, is_object, first)

element_tells : (d : Data) → Tells (IsOfElement d) (element_in d)
unfolding element_in
element_tells d =
    let P : JsonFault → Type 0 = IsOfElement d in
    then_told P (ok_or (as_object d) fault.NotObject) _ (or_told P (as_object d) _ tt) (λ ms r1.
    then_told P (transaction_in d) _ (transaction_tells P (element_keyed d) d) (λ tx r2.
    then_told P (passes_unless (first_extra Transaction ms)) _ (extra_tells d ms (first_extra Transaction ms) refl (is_object d ms (ok_or_ok _ _ _ r1))) (λ t r3.
    tt)))

-- ---- the list of a camt.056

-- the object is a camt.056, and the value at its TxInf has the property
record HasListOf (d : Data) (Has : Data → Type 0) : Type 0 where
  is_of_kind : kind_in d ≡ Some Camt056
  list : Data
  is_at_key : get (key_text key.TxInf) d ≡ Some list
  has : Has list

-- the value is a list of objects, and the fault is that of its first element that is no transaction
record IsRefusedList (e : JsonFault) (list : Data) : Type 0 where
  items : Items
  is_right : IsRightList list items
  are_objects : (n : ℕ) (element : Data) → get_item n items ≡ Some element → IsObject element
  refused : IsRefusedAt items 1 e

-- what is told of an object
abbrev IsTold : Data → JsonFault → Type 0
IsTold d fault.Memory = ⊥
IsTold d fault.NotJson = ⊥
IsTold d fault.NotObject = Unit {0}
IsTold d fault.UnknownKind = Unit {0}
IsTold d (fault.Missing key) = Unit {0}
IsTold d (fault.NotText key) = Unit {0}
IsTold d (fault.Element key e) = Unit {0}
IsTold d (fault.Extra name) = (kind : Kind) × (ms : Members) × (d ≡ object ms) × (kind_in d ≡ Some kind) × (first_extra (shape_in kind d) ms ≡ Some name)
IsTold d (fault.Rule broken) = (m : Draft) × (first_broken_rule m ≡ Some broken) × (is_name_of (kind_of m) (head_of m).message_name ≡ true)
IsTold d (fault.BadTransactions place) = HasListOf d (λ list. IsNoListOfObjects list place)
IsTold d (fault.At place why) = HasListOf d (IsRefusedList (fault.At place why))

told_keyed : (d : Data) → IsOfKeys (IsTold d)
told_keyed d = record { missing = λ key. tt; not_text = λ key. tt; element = λ key e. tt }

module _ (d list : Data) (at : kind_in d ≡ Some Camt056) (stands : get (key_text key.TxInf) d ≡ Some list) where
  list_told : (Has : Data → Type 0) → Has list → HasListOf d Has
  list_told Has has = record { is_of_kind = at; list = list; is_at_key = stands; has = has }

  told_at : (e : JsonFault) (place : ℕ) (why : KeyFault) → e ≡ fault.At place why → IsRefusedList e list → IsTold d e
  told_at e place why same h = subst (IsTold d) (sym same) (list_told (IsRefusedList (fault.At place why)) (subst (λ (f : JsonFault). IsRefusedList f list) same h))

  told_by : (place : ℕ) (element : Data) (e why : JsonFault) → IsOfElement element why → e ≡ placed place why → IsRefusedList e list → IsTold d e
  told_by place element e fault.Memory told same h = absurd told
  told_by place element e fault.NotJson told same h = absurd told
  told_by place element e fault.NotObject told same h = subst (IsTold d) (sym same) tt
  told_by place element e fault.UnknownKind told same h = absurd told
  told_by place element e (fault.Missing key) told same h = told_at e place (key_fault.Missing key) same h
  told_by place element e (fault.NotText key) told same h = told_at e place (key_fault.NotText key) same h
  told_by place element e (fault.Element key f) told same h = told_at e place (key_fault.Element key f) same h
  told_by place element e (fault.Extra name) told same h = told_at e place (key_fault.Extra name) same h
  told_by place element e (fault.Rule broken) told same h = absurd told
  told_by place element e (fault.BadTransactions other) told same h = absurd told
  told_by place element e (fault.At other f) told same h = absurd told

  elements_tell : (items : Items) (r : Result (List RecallTx) JsonFault) → IsRightList list items → first_no_object 1 (items_list items) ≡ None → elements_in 1 (items_list items) ≡ r → Tells (IsTold d) r
  elements_tell items (Ok txs) right objects read = tt
  elements_tell items (Err e) right objects read =
      let at_element : IsRefusedAt items 1 e = first_is_refused 1 items e read in
      told_by (at_element.before + 1) at_element.element e at_element.why
      (subst (λ (r : Result RecallTx JsonFault). Tells (IsOfElement at_element.element) r) at_element.refused (element_tells at_element.element)) at_element.is_placed
      (record { items = items; is_right = right; are_objects = each_is_object 1 items objects; refused = at_element })

  place_told : (items : Items) (place : ℕ) → IsRightList list items → IsFirstFrom IsObject items 1 place → IsNoListOfObjects list place
  place_told items zero right first = let at_place = first.is_place in absurd (omega (arith, at_place))
  place_told items (suc n) right first = (
    items,
    right,
    record {
      before = first.before;
      is_place = first.is_place;
      element = first.element;
      stands = first.stands;
      lacks = first.lacks;
      earlier = first.earlier;
    },
  )

  objects_tell : (items : Items) (o : Option ℕ) → IsRightList list items → first_no_object 1 (items_list items) ≡ o → Tells (IsTold d) (are_objects o)
  objects_tell items None right first = tt
  objects_tell items (Some place) right first = list_told (λ (v : Data). IsNoListOfObjects v place) (place_told items place right (first_is_no_object 1 items place first))

  same_items : (left right : Items) → array left ≡ array right → left ≡ right
  same_items left right e = cc

  counted_tells : (items : Items) (b : Bool) → list ≡ array items → is_right_count (length (items_list items)) ≡ b → Tells {X = ⊤} (IsTold d) (cond b (Ok tt) (Err (fault.BadTransactions 0)))
  counted_tells items true is_list e = tt
  counted_tells items false is_list e = list_told (λ (v : Data). IsNoListOfObjects v 0) (λ others right.
      let same : items ≡ others = same_items items others (sym is_list ∙ right.is_list) in
      false≢true (sym e ∙ ap (λ (all : Items). is_right_count (length (items_list all))) same ∙ right.is_right))

  array_tells : (o : Option (List Data)) → items_of_list list ≡ o → Tells (IsTold d) (ok_or o (fault.BadTransactions 0))
  array_tells None none = list_told (λ (v : Data). IsNoListOfObjects v 0) (λ items right.
      let some : items_of_list list ≡ Some (items_list items) = ap items_of_list right.is_list in
      none_or_some (items_list items) (sym none ∙ some))
  array_tells (Some ds) some = tt

  list_tells : Tells (IsTold d) (list_in list)
  unfolding list_in
  list_tells =
      let P : JsonFault → Type 0 = IsTold d in
      then_told P (ok_or (items_of_list list) (fault.BadTransactions 0)) _ (array_tells (items_of_list list) refl) (λ ds r1.
      let its : IsListOf list ds = its_items list ds (ok_or_ok _ _ _ r1) in
      subst (λ (all : List Data). Tells P (counted all >>= λ few. are_objects (first_no_object 1 all) >>= λ objects. elements_in 1 all)) its.same
      (then_told P (counted (items_list its.items)) _ (counted_tells its.items (is_right_count (length (items_list its.items))) its.is_array refl) (λ t r2.
      let right : IsRightList list its.items = record { is_list = its.is_array; is_right = counted_at (is_right_count (length (items_list its.items))) t r2 } in
      then_told P (are_objects (first_no_object 1 (items_list its.items))) _ (objects_tell its.items (first_no_object 1 (items_list its.items)) right refl) (λ u r3.
      elements_tell its.items (elements_in 1 (items_list its.items)) right (are_all (first_no_object 1 (items_list its.items)) u r3) refl))))

flat_tells : (d : Data) → Tells (IsTold d) (flat_recall_in d)
unfolding flat_recall_in
flat_tells d =
    let P : JsonFault → Type 0 = IsTold d in
    then_told P (head_in d) _ (head_tells P (told_keyed d) d) (λ head r1.
    then_told P (transaction_in d) _ (transaction_tells P (told_keyed d) d) (λ tx r2.
    tt))

listed_tells : (d list : Data) → kind_in d ≡ Some Camt056 → get (key_text key.TxInf) d ≡ Some list → Tells (IsTold d) (listed_recalls_in list d)
unfolding listed_recalls_in
listed_tells d list at stands =
    let P : JsonFault → Type 0 = IsTold d in
    then_told P (head_in d) _ (head_tells P (told_keyed d) d) (λ head r1.
    then_told P (list_in list) _ (list_tells d list at stands) (λ txs r2.
    tt))

recalls_tell_by : (d : Data) (o : Option Data) → kind_in d ≡ Some Camt056 → get (key_text key.TxInf) d ≡ o → Tells (IsTold d) (recalls_by o d)
recalls_tell_by d None at stands = flat_tells d
recalls_tell_by d (Some list) at stands = listed_tells d list at stands

recalls_tell : (d : Data) → kind_in d ≡ Some Camt056 → Tells (IsTold d) (cancellation_request_in d)
unfolding cancellation_request_in
recalls_tell d at = recalls_tell_by d (get (key_text key.TxInf) d) at refl

-- ---- every kind

draft_tells : (kind : Kind) (d : Data) → kind_in d ≡ Some kind → Tells (IsTold d) (draft_in kind d)
draft_tells Camt029 d at = then_told (IsTold d) _ _ (resolution_tells (IsTold d) (told_keyed d) d) (λ m r. tt)
draft_tells Camt056 d at = then_told (IsTold d) _ _ (recalls_tell d at) (λ m r. tt)
draft_tells Pacs002 d at = then_told (IsTold d) _ _ (status_report_tells (IsTold d) (told_keyed d) d) (λ m r. tt)
draft_tells Pacs004 d at = then_told (IsTold d) _ _ (payment_return_tells (IsTold d) (told_keyed d) d) (λ m r. tt)
draft_tells Pacs008 d at = then_told (IsTold d) _ _ (credit_transfer_tells (IsTold d) (told_keyed d) d) (λ m r. tt)
draft_tells Pacs028 d at = then_told (IsTold d) _ _ (status_request_tells (IsTold d) (told_keyed d) d) (λ m r. tt)

-- ---- the whole object

passes_tells : (d : Data) (kind : Kind) (ms : Members) (o : Option (List ℕ)) → first_extra (shape_in kind d) ms ≡ o → d ≡ object ms → kind_in d ≡ Some kind → Tells (IsTold d) (passes_unless o)
passes_tells d kind ms None first is_object named = tt
passes_tells d kind ms (Some name) first is_object named = (kind, ms, is_object, named, first)

follows_tells : (d : Data) (m : Draft) (o : Option RuleFault) → first_broken_rule m ≡ o → is_name_of (kind_of m) (head_of m).message_name ≡ true → Tells (IsTold d) (follows_unless o m)
follows_tells d m None first named = tt
follows_tells d m (Some broken) first named = (m, first, named)

named : (d : Data) (kind : Kind) (m : Draft) → kind_in d ≡ Some kind → (kind ≡ kind_of m) × HoldsElements d m → is_name_of (kind_of m) (head_of m).message_name ≡ true
named d kind m at drafted = named_as_its_kind d m drafted.1 (at ∙ ap (λ (k : Kind). Some k) drafted.0)

object_tells : (d : Data) → Tells (IsTold d) (object_in d)
unfolding object_in
object_tells d =
    let P : JsonFault → Type 0 = IsTold d in
    then_told P (ok_or (as_object d) fault.NotObject) _ (or_told P (as_object d) _ tt) (λ ms r1.
    then_told P (ok_or (kind_in d) fault.UnknownKind) _ (or_told P (kind_in d) _ tt) (λ kind r2.
    let at : kind_in d ≡ Some kind = ok_or_ok _ _ _ r2 in
    then_told P (draft_in kind d) _ (draft_tells kind d at) (λ m r3.
    then_told P (passes_unless (first_extra (shape_in kind d) ms)) _ (passes_tells d kind ms (first_extra (shape_in kind d) ms) refl (is_object d ms (ok_or_ok _ _ _ r1)) at) (λ t r4.
    follows_tells d m (first_broken_rule m) refl (named d kind m at (draft_holds kind d m r3))))))

-- ---- the whole text

abbrev IsToldOf : List ℕ → JsonFault → Type 0
IsToldOf bytes e = (e ≡ fault.NotJson) ⊎ ((d : Data) × StandsFor bytes d × IsTold d e)

same_fault : (e f : JsonFault) → ◌≡◌ {A = Result Draft JsonFault} (Err e) (Err f) → e ≡ f
same_fault e f same = cc

value_refused : (bytes : List ℕ) (o : Option Data) (e : JsonFault) → is_utf8 bytes ≡ true → read bytes ≡ o → value_in o ≡ Err e → IsToldOf bytes e
value_refused bytes None e text value refused = inl (sym (same_fault _ _ refused))
value_refused bytes (Some d) e text value refused =
    inr (d, record { text = IsUtf8-from_is_utf8 bytes text; value = value }, subst (λ (r : Result Draft JsonFault). Tells (IsTold d) r) refused (object_tells d))

text_refused : (bytes : List ℕ) (b : Bool) (e : JsonFault) → is_utf8 bytes ≡ b → cond b (value_in (read bytes)) (Err fault.NotJson) ≡ Err e → IsToldOf bytes e
text_refused bytes true e text refused = value_refused bytes (read bytes) e text refl refused
text_refused bytes false e text refused = inl (sym (same_fault _ _ refused))

refused : (bytes : List ℕ) (e : JsonFault) → message_in bytes ≡ Err e → IsToldOf bytes e
unfolding message_in
refused bytes e h = text_refused bytes (is_utf8 bytes) e refl h

-- ---- the laws

-- reading never reports out of memory: that fault is of the call alone
pub memory_is_not_told : (bytes : List ℕ) → message_in bytes ≢ Err fault.Memory
memory_is_not_told bytes h = elim (refused bytes _ h) [ inl other ↦ cc | inr told ↦ told.2 ]

-- the extra key told is the least
pub extra_key_is_least : (bytes name : List ℕ) → message_in bytes ≡ Err (fault.Extra name) → HasLeastExtraKey bytes name
extra_key_is_least bytes name h = elim (refused bytes _ h) [
  | inl other ↦ cc
  | inr (d, stands, (kind, ms, is, at, first)) ↦
      let whole : StandsFor bytes (object ms) = subst (λ (v : Data). StandsFor bytes v) is stands in record {
        kind = kind;
        members = ms;
        stands = whole;
        is_of_kind = subst (λ (v : Data). kind_in v ≡ Some kind) is at;
        least = first_is_least (shape_in kind (object ms)) ms name (names_read bytes (object ms) whole.value).0 (subst (λ (v : Data). first_extra (shape_in kind v) ms ≡ Some name) is first);
      }
]

-- the names of a value that stands at a key, or at a place of a list, ascend as those of the whole
ascend_here : (o : Ordering) (v : Data) (later : Option Data) (d : Data) → match_ordering o later (Some v) later ≡ Some d → NamesAscend v → (later ≡ Some d → NamesAscend d) → NamesAscend d
ascend_here Less v later d e here next = next e
ascend_here Equal v later d e here next = let same : v ≡ d = cc in subst NamesAscend same here
ascend_here Greater v later d e here next = next e

ascend_at_key : (k : List ℕ) (ms : Members) (d : Data) → NamesAscendInMembers ms → get_member k ms ≡ Some d → NamesAscend d
ascend_at_key k no_members d all e = cc
ascend_at_key k (member l v ms) d all e = ascend_here (slice_cmp nat_cmp k l) v (get_member k ms) d e all.0 (λ later. ascend_at_key k ms d all.1 later)

ascend_in : (k : List ℕ) (whole d : Data) → NamesAscend whole → get k whole ≡ Some d → NamesAscend d
ascend_in k null d all e = cc
ascend_in k (boolean b) d all e = cc
ascend_in k (number n) d all e = cc
ascend_in k (string s) d all e = cc
ascend_in k (array ds) d all e = cc
ascend_in k (object ms) d all e = ascend_at_key k ms d all.1 e

ascend_at_place : (n : ℕ) (ds : Items) (d : Data) → NamesAscendInItems ds → get_item n ds ≡ Some d → NamesAscend d
ascend_at_place n no_items d all e = cc
ascend_at_place zero (item v ds) d all e = let same : v ≡ d = cc in subst NamesAscend same all.0
ascend_at_place (suc n) (item v ds) d all e = ascend_at_place n ds d all.1 e

-- the fault of an element at a place is that of its why
record IsExtraOf (element : Data) (place other : ℕ) (name : List ℕ) : Type 0 where
  members : Members
  is_object : element ≡ object members
  is_first : first_extra Transaction members ≡ Some name
  is_place : place ≡ other

same_place_name : (place other : ℕ) (name found : List ℕ) → fault.At place (key_fault.Extra name) ≡ fault.At other (key_fault.Extra found) → (place ≡ other) × (found ≡ name)
same_place_name place other name found e = (cc, cc)

extra_of : (element : Data) (place other : ℕ) (name : List ℕ) (why : JsonFault) → IsOfElement element why → fault.At place (key_fault.Extra name) ≡ placed other why → IsExtraOf element place other name
extra_of element place other name fault.Memory told e = absurd told
extra_of element place other name fault.NotJson told e = absurd told
extra_of element place other name fault.NotObject told e = cc
extra_of element place other name fault.UnknownKind told e = absurd told
extra_of element place other name (fault.Missing key) told e = cc
extra_of element place other name (fault.NotText key) told e = cc
extra_of element place other name (fault.Element key f) told e = cc
extra_of element place other name (fault.Extra found) (ms, is, first) e =
    let same : (place ≡ other) × (found ≡ name) = same_place_name place other name found e in record {
      members = ms;
      is_object = is;
      is_first = first ∙ ap (λ (k : List ℕ). Some k) same.1;
      is_place = same.0;
    }
extra_of element place other name (fault.Rule broken) told e = absurd told
extra_of element place other name (fault.BadTransactions count) told e = absurd told
extra_of element place other name (fault.At count f) told e = absurd told

-- and so is that of an element
pub element_key_is_least : (bytes : List ℕ) (place : ℕ) (name : List ℕ) → message_in bytes ≡ Err (fault.At place (key_fault.Extra name)) → HasLeastExtraKeyAt bytes place name
element_key_is_least bytes place name h = elim (refused bytes _ h) [
  | inl other ↦ cc
  | inr (d, stands, told) ↦
      let r : IsRefusedAt told.has.items 1 (fault.At place (key_fault.Extra name)) = told.has.refused in
      let extra : IsExtraOf r.element place (r.before + 1) name =
      extra_of r.element place (r.before + 1) name r.why (subst (λ (read : Result RecallTx JsonFault). Tells (IsOfElement r.element) read) r.refused (element_tells r.element)) r.is_placed in
      let list : get (key_text key.TxInf) d ≡ Some (array told.has.items) = told.is_at_key ∙ ap (λ (v : Data). Some v) told.has.is_right.is_list in
      let element : get_item r.before told.has.items ≡ Some (object extra.members) = r.stands ∙ ap (λ (v : Data). Some v) extra.is_object in
      let items_ascend : NamesAscend (array told.has.items) = ascend_in (key_text key.TxInf) d (array told.has.items) (names_read bytes d stands.value) list in
      let element_ascends : NamesAscend (object extra.members) = ascend_at_place r.before told.has.items (object extra.members) items_ascend element in
      record {
        whole = d;
        stands = stands;
        is_of_kind = told.is_of_kind;
        items = told.has.items;
        list = list;
        before = r.before;
        is_place = extra.is_place;
        members = extra.members;
        element = element;
        least = first_is_least Transaction extra.members name element_ascends.0 extra.is_first;
      }
]

-- the place of 46 is that of the first element that is no object
pub place_is_first_no_object : (bytes : List ℕ) (place : ℕ) → message_in bytes ≡ Err (fault.BadTransactions place) → HasList (λ list. IsNoListOfObjects list place) bytes
place_is_first_no_object bytes place h = elim (refused bytes _ h) [
  | inl other ↦ cc
  | inr (d, stands, told) ↦ record { whole = d; stands = stands; is_of_kind = told.is_of_kind; list = told.list; is_at_key = told.is_at_key; has = told.has }
]

placed_there : (place other : ℕ) (why : KeyFault) (f : JsonFault) → fault.At place why ≡ placed other f → ((n : ℕ) (k : KeyFault) → f ≢ fault.At n k) → place ≡ other
placed_there place other why fault.Memory e none = cc
placed_there place other why fault.NotJson e none = cc
placed_there place other why fault.NotObject e none = cc
placed_there place other why fault.UnknownKind e none = cc
placed_there place other why (fault.Missing key) e none = cc
placed_there place other why (fault.NotText key) e none = cc
placed_there place other why (fault.Element key f) e none = cc
placed_there place other why (fault.Extra name) e none = cc
placed_there place other why (fault.Rule broken) e none = cc
placed_there place other why (fault.BadTransactions count) e none = cc
placed_there place other why (fault.At count f) e none = absurd (none count f refl)

no_place_yet : (element : Data) (why : JsonFault) → IsOfElement element why → (n : ℕ) (k : KeyFault) → why ≢ fault.At n k
no_place_yet element why told n k same = subst (IsOfElement element) same told

no_refused_transaction : (d : Data) (e : JsonFault) → element_in d ≡ Err e → IsSomeTransaction d → ⊥
no_refused_transaction d e refused (tx, is) = let read : element_in d ≡ Ok tx = holds_element d tx is in cc

first_refused_lacks : (items : Items) (place : ℕ) (why : KeyFault) → IsRefusedAt items 1 (fault.At place why) → IsFirstWithout IsSomeTransaction items place
first_refused_lacks items place why r =
    let told : IsOfElement r.element r.why = subst (λ (read : Result RecallTx JsonFault). Tells (IsOfElement r.element) read) r.refused (element_tells r.element) in record {
      before = r.before;
      is_place = placed_there place (r.before + 1) why r.why r.is_placed (no_place_yet r.element r.why told);
      element = r.element;
      stands = r.stands;
      lacks = no_refused_transaction r.element r.why r.refused;
      earlier = r.earlier;
    }

-- the place of 56 is that of the first element that is no transaction
pub place_is_first_no_transaction : (bytes : List ℕ) (place : ℕ) (why : KeyFault) → message_in bytes ≡ Err (fault.At place why) → HasList (λ list. IsNoListOfTransactions list place) bytes
place_is_first_no_transaction bytes place why h = elim (refused bytes _ h) [
  | inl other ↦ cc
  | inr (d, stands, told) ↦ record {
    whole = d;
    stands = stands;
    is_of_kind = told.is_of_kind;
    list = told.list;
    is_at_key = told.is_at_key;
    has = record {
      items = told.has.items;
      is_right = told.has.is_right;
      are_objects = told.has.are_objects;
      first = first_refused_lacks told.has.items place why told.has.refused;
    };
  }
]

-- no message is refused for its name
pub name_is_not_told : (bytes : List ℕ) → message_in bytes ≢ Err (fault.Rule rule.WrongName)
name_is_not_told bytes h = elim (refused bytes _ h) [
  | inl other ↦ cc
  | inr (d, stands, (m, first, named)) ↦ named_is_not_told m named first
]
