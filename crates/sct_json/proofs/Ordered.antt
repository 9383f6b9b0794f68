-- What is written in the order of the bytes of the keys is the text of the written object. Proof plumbing.
use Rattle.std.proofs.Common.{◌≡◌, ◌∙◌, ap, sym, refl, subst, arith, ℕ, ◌≤◌, List, [], ◌∷◌, ◌++◌, append_assoc, append-nil, Option, Some, None, option_map, option_and_then, Ordering, Less, Equal, Greater, nat_cmp}
use Rattle.std.specs.Prelude.{IsUtf8}
use Rattle.std.specs.Ordering.{match_ordering, ordering_reverse}
use Rattle.std.specs.Cmp.Lexicographic.{slice_cmp, nat_list_cmp_total}
use Rattle.json.specs.Json as json
use Rattle.json.specs.Lex.{tokens}
use Rattle.json.specs.Print.{print}
use Rattle.json.specs.Token.{Token, begin_object, end_object, begin_array, end_array}
use Rattle.json.specs.Tree as tree
use Rattle.json.specs.Written.{Written}
use Rattle.json.proofs.Printed.Trees.{value-json_tokens}
use Rattle.serde_json.specs.Data.{Data, string, array, object, Items, no_items, item, Members, no_members, member, put}
use Rattle.serde_json.specs.Read.{read, max_depth, of_json, of_items, of_members}
use Rattle.serde_json.specs.Written.{compact_text, outline, items_outline, members_outline}
use Rattle.serde_json.proofs.Texts.{print-outline}
use Rattle.sct_message.specs.CellsBack.{texts_same}
use Rattle.sct_message.specs.declared.draft.Head.{Head}
use Rattle.sct_message.specs.declared.draft.RecallTx.{RecallTx}
use Rattle.sct_message.specs.declared.draft.Draft.{Draft}
use Rattle.sct_message.specs.declared.draft.Draft.TheVariants as draft
use Rattle.sct_json.specs.declared.keys.Key.{Key}
use Rattle.sct_json.specs.declared.keys.Key.TheVariants as key
use Rattle.sct_json.specs.Form.{StandsFor}
use Rattle.sct_json.specs.Keys.{key_text}
use Rattle.sct_json.specs.Line.{Held, held, with_line, credit_transfer_line, status_report_line, status_request_line, head_line, transaction_line, one_recall_line, payment_return_line, resolution_line, with_object, with_objects, with_array, with_recalls, with_message}
use Rattle.sct_json.specs.Writing.{Row, with_text, with_rows, with_head, with_list, with_transactions, with_elements, transaction_objects, written_object, written_text, head_rows, original_rows, credit_transfer_rows, status_report_rows, status_request_rows, transaction_rows, payment_return_rows, resolution_rows}

abbrev by_bytes : List ℕ → List ℕ → Ordering
by_bytes = slice_cmp nat_cmp

-- ---- rows in the order of the bytes of their keys

-- the members of rows, as they stand, in front of others
abbrev members_onto : List Row → Members → Members
members_onto [] tail = tail
members_onto ((k, None) ∷ rs) tail = members_onto rs tail
members_onto ((k, Some s) ∷ rs) tail = member (key_text k) (string s) (members_onto rs tail)

abbrev members_of : List Row → Members
members_of rs = members_onto rs no_members

-- the later of two texts at one key
abbrev later_of : Option (List ℕ) → Option (List ℕ) → Option (List ℕ)
later_of t None = t
later_of t (Some s) = Some s

-- a row at its place among rows in order
abbrev insert : Row → List Row → List Row
insert r [] = r ∷ []
insert r (q ∷ rs) = match_ordering (by_bytes (key_text r.0) (key_text q.0)) (r ∷ q ∷ rs) ((q.0, later_of q.1 r.1) ∷ rs) (q ∷ insert r rs)

abbrev insert_all : List Row → List Row → List Row
insert_all [] rs = rs
insert_all (q ∷ qs) rs = insert_all qs (insert q rs)

-- each key of the rows stands behind one
abbrev AreBehind : List ℕ → List Row → Type 0
AreBehind k [] = Unit {0}
AreBehind k (r ∷ rs) = (by_bytes k (key_text r.0) ≡ Less) × AreBehind k rs

abbrev AreInOrder : List Row → Type 0
AreInOrder [] = Unit {0}
AreInOrder (r ∷ rs) = AreBehind (key_text r.0) rs × AreInOrder rs

behind_all : (k l : List ℕ) (rs : List Row) → by_bytes k l ≡ Less → AreBehind l rs → AreBehind k rs
behind_all k l [] before h = tt
behind_all k l (r ∷ rs) before h = (nat_list_cmp_total.trans k l (key_text r.0) before h.0, behind_all k l rs before h.1)

behind_insert_at : (o : Ordering) (k : List ℕ) (r q : Row) (rs : List Row) → by_bytes k (key_text r.0) ≡ Less → AreBehind k (q ∷ rs) → AreBehind k (insert r rs)
    → AreBehind k (match_ordering o (r ∷ q ∷ rs) ((q.0, later_of q.1 r.1) ∷ rs) (q ∷ insert r rs))
behind_insert_at Less k r q rs before h later = (before, h)
behind_insert_at Equal k r q rs before h later = h
behind_insert_at Greater k r q rs before h later = (h.0, later)

behind_insert : (k : List ℕ) (r : Row) (rs : List Row) → by_bytes k (key_text r.0) ≡ Less → AreBehind k rs → AreBehind k (insert r rs)
behind_insert k r [] before h = (before, tt)
behind_insert k r (q ∷ rs) before h = behind_insert_at (by_bytes (key_text r.0) (key_text q.0)) k r q rs before h (behind_insert k r rs before h.1)

in_order_at : (o : Ordering) (r q : Row) (rs : List Row) → by_bytes (key_text r.0) (key_text q.0) ≡ o → AreInOrder (q ∷ rs) → AreInOrder (insert r rs)
    → AreInOrder (match_ordering o (r ∷ q ∷ rs) ((q.0, later_of q.1 r.1) ∷ rs) (q ∷ insert r rs))
in_order_at Less r q rs is h later = ((is, behind_all _ _ rs is h.0), h)
in_order_at Equal r q rs is h later = h
in_order_at Greater r q rs is h later =
    let before : by_bytes (key_text q.0) (key_text r.0) ≡ Less = nat_list_cmp_total.antisymm (key_text q.0) (key_text r.0) ∙ ap ordering_reverse is in
    (behind_insert (key_text q.0) r rs before h.0, later)

in_order_insert : (r : Row) (rs : List Row) → AreInOrder rs → AreInOrder (insert r rs)
in_order_insert r [] h = (tt, tt)
in_order_insert r (q ∷ rs) h = in_order_at (by_bytes (key_text r.0) (key_text q.0)) r q rs refl h (in_order_insert r rs h.1)

-- ---- to insert a row is to put its text

-- a text whose key all others stand behind comes first
put_first : (k s : List ℕ) (rs : List Row) → AreBehind k rs → put k (string s) (members_of rs) ≡ member k (string s) (members_of rs)
put_first k s [] h = refl
put_first k s ((l, None) ∷ rs) h = put_first k s rs h.1
put_first k s ((l, Some t) ∷ rs) h =
    ap (λ (o : Ordering). match_ordering o (member k (string s) (member (key_text l) (string t) (members_of rs))) (member (key_text l) (string s) (members_of rs)) (member (key_text l) (string t) (put k (string s) (members_of rs)))) h.0

insert_at : (o : Ordering) (k : Key) (t : Option (List ℕ)) (l : Key) (u : Option (List ℕ)) (rs : List Row) → by_bytes (key_text k) (key_text l) ≡ o → AreInOrder ((l, u) ∷ rs)
    → members_of (insert (k, t) rs) ≡ with_text k t (members_of rs)
    → members_of (match_ordering o ((k, t) ∷ (l, u) ∷ rs) ((l, later_of u t) ∷ rs) ((l, u) ∷ insert (k, t) rs)) ≡ with_text k t (members_of ((l, u) ∷ rs))
insert_at Less k None l u rs is h later = refl
insert_at Less k (Some s) l u rs is h later = sym (put_first (key_text k) s ((l, u) ∷ rs) (is, behind_all _ _ rs is h.0))
insert_at Equal k None l u rs is h later = refl
insert_at Equal k (Some s) l None rs is h later =
    let same : key_text k ≡ key_text l = texts_same _ _ is in
    sym (ap (λ (n : List ℕ). put n (string s) (members_of rs)) same ∙ put_first (key_text l) s rs h.0)
insert_at Equal k (Some s) l (Some v) rs is h later =
    sym (ap (λ (o : Ordering). match_ordering o (member (key_text k) (string s) (member (key_text l) (string v) (members_of rs))) (member (key_text l) (string s) (members_of rs)) (member (key_text l) (string v) (put (key_text k) (string s) (members_of rs)))) is)
insert_at Greater k None l None rs is h later = later
insert_at Greater k None l (Some v) rs is h later = ap (λ (ms : Members). member (key_text l) (string v) ms) later
insert_at Greater k (Some s) l None rs is h later = later
insert_at Greater k (Some s) l (Some v) rs is h later =
    ap (λ (ms : Members). member (key_text l) (string v) ms) later
    ∙ sym (ap (λ (o : Ordering). match_ordering o (member (key_text k) (string s) (member (key_text l) (string v) (members_of rs))) (member (key_text l) (string s) (members_of rs)) (member (key_text l) (string v) (put (key_text k) (string s) (members_of rs)))) is)

insert_is : (r : Row) (rs : List Row) → AreInOrder rs → members_of (insert r rs) ≡ with_text r.0 r.1 (members_of rs)
insert_is (k, None) [] h = refl
insert_is (k, Some s) [] h = refl
insert_is (k, t) ((l, u) ∷ rs) h = insert_at (by_bytes (key_text k) (key_text l)) k t l u rs refl h (insert_is (k, t) rs h.1)

insert_all_is : (qs rs : List Row) → AreInOrder rs → members_of (insert_all qs rs) ≡ with_rows qs (members_of rs)
insert_all_is [] rs h = refl
insert_all_is (q ∷ qs) rs h = insert_all_is qs (insert q rs) (in_order_insert q rs h) ∙ ap (with_rows qs) (insert_is q rs h)

in_order_all : (qs rs : List Row) → AreInOrder rs → AreInOrder (insert_all qs rs)
in_order_all [] rs h = h
in_order_all (q ∷ qs) rs h = in_order_all qs (insert q rs) (in_order_insert q rs h)

abbrev ordered : List Row → List Row
ordered qs = insert_all qs []

ordered_is : (qs : List Row) → members_of (ordered qs) ≡ with_rows qs no_members
ordered_is qs = insert_all_is qs [] tt

-- two parts, and three
two_parts : (ps qs : List Row) → members_of (insert_all qs (ordered ps)) ≡ with_rows qs (with_rows ps no_members)
two_parts ps qs = insert_all_is qs (ordered ps) (in_order_all ps [] tt) ∙ ap (with_rows qs) (ordered_is ps)

three_parts : (ps qs rs : List Row) → members_of (insert_all rs (insert_all qs (ordered ps))) ≡ with_rows rs (with_rows qs (with_rows ps no_members))
three_parts ps qs rs =
    insert_all_is rs (insert_all qs (ordered ps)) (in_order_all qs (ordered ps) (in_order_all ps [] tt)) ∙ ap (with_rows rs) (two_parts ps qs)

-- ---- the list of a camt.056

abbrev element_objects : List RecallTx → Items
element_objects [] = no_items
element_objects (tx ∷ txs) = item (object (members_of (transaction_line tx))) (element_objects txs)

elements_are : (txs : List RecallTx) → element_objects txs ≡ transaction_objects txs
elements_are [] = refl
elements_are (tx ∷ txs) =
    ap (λ (ms : Members). item (object ms) (element_objects txs)) (ordered_is (transaction_rows tx))
    ∙ ap (λ (ds : Items). item (object (with_rows (transaction_rows tx) no_members)) ds) (elements_are txs)

-- the list stands behind the head's keys
abbrev list_member : List RecallTx → Members
list_member txs = member (key_text key.TxInf) (array (element_objects txs)) no_members

abbrev list_members : Head → List RecallTx → Members
list_members h txs = members_onto (head_line h) (list_member txs)

put_behind_at : (t a n m : List ℕ) (agent : Option (List ℕ)) (d : Data) → let rs : List Row = (key.CreDtTm, Some t) ∷ (key.InstdAgt, agent) ∷ (key.InstgAgt, Some a) ∷ (key.MsgId, Some n) ∷ (key.MsgNmId, Some m) ∷ [] in
    put (key_text key.TxInf) d (members_of rs) ≡ members_onto rs (member (key_text key.TxInf) d no_members)
put_behind_at t a n m None d = refl
put_behind_at t a n m (Some agent) d = refl

put_behind : (h : Head) (d : Data) → put (key_text key.TxInf) d (members_of (head_line h)) ≡ members_onto (head_line h) (member (key_text key.TxInf) d no_members)
put_behind h d = put_behind_at h.creation_time h.instructing_agent h.message_id h.message_name h.instructed_agent d

list_is : (h : Head) (txs : List RecallTx) → list_members h txs ≡ with_list txs (with_head h no_members)
list_is h txs =
    sym (put_behind h (array (element_objects txs)))
    ∙ ap (λ (ds : Items). put (key_text key.TxInf) (array ds) (members_of (head_line h))) (elements_are txs)
    ∙ ap (λ (ms : Members). with_list txs ms) (ordered_is (head_rows h))

-- ---- every kind

-- the members of a message, as they are written
abbrev recall_members : Head → List RecallTx → Members
recall_members h [] = list_members h []
recall_members h (tx ∷ []) = members_of (one_recall_line h tx)
recall_members h (tx ∷ (other ∷ more)) = list_members h (tx ∷ (other ∷ more))

abbrev line_members : Draft → Members
line_members (draft.CreditTransfer m) = members_of (credit_transfer_line m)
line_members (draft.StatusReport m) = members_of (status_report_line m)
line_members (draft.StatusRequest m) = members_of (status_request_line m)
line_members (draft.CancellationRequest m) = recall_members m.head m.txs
line_members (draft.PaymentReturn m) = members_of (payment_return_line m)
line_members (draft.Resolution m) = members_of (resolution_line m)

-- they are those of the written object
recalls_are : (h : Head) (txs : List RecallTx) → recall_members h txs ≡ with_transactions txs (with_head h no_members)
recalls_are h [] = list_is h []
recalls_are h (tx ∷ []) = two_parts (head_rows h) (transaction_rows tx)
recalls_are h (tx ∷ (other ∷ more)) = list_is h (tx ∷ (other ∷ more))

line_is : (m : Draft) → line_members m ≡ with_elements m no_members
line_is (draft.CreditTransfer m) = two_parts (head_rows m.head) (credit_transfer_rows m)
line_is (draft.StatusReport m) = three_parts (head_rows m.head) (original_rows m.original) (status_report_rows m)
line_is (draft.StatusRequest m) = three_parts (head_rows m.head) (original_rows m.original) (status_request_rows m)
line_is (draft.CancellationRequest m) = recalls_are m.head m.txs
line_is (draft.PaymentReturn m) = two_parts (head_rows m.head) (payment_return_rows m)
line_is (draft.Resolution m) = two_parts (head_rows m.head) (resolution_rows m)

-- the written object, with its members as they are written
line_object : (m : Draft) → object (line_members m) ≡ written_object m
line_object m = ap object (line_is m)

-- ---- read again, the members are the same

-- the rows go in one after another
members_again : (rs : List Row) (tail found : Members) → of_members (members_outline (members_onto rs tail)) found ≡ of_members (members_outline tail) (with_rows rs found)
members_again [] tail found = refl
members_again ((k, None) ∷ rs) tail found = members_again rs tail found
members_again ((k, Some s) ∷ rs) tail found = members_again rs tail (put (key_text k) (string s) found)

rows_again : (rs : List Row) → ordered rs ≡ rs → of_members (members_outline (members_of rs)) no_members ≡ Some (members_of rs)
rows_again rs in_order = members_again rs no_members no_members ∙ ap Some (sym (ordered_is rs) ∙ ap members_of in_order)

elements_again : (txs : List RecallTx) → of_items (items_outline (element_objects txs)) ≡ Some (element_objects txs)
elements_again [] = refl
elements_again (tx ∷ txs) =
    ap (λ (o : Option Members). option_and_then (λ d. option_map (item d) (of_items (items_outline (element_objects txs)))) (option_map object o)) (rows_again (transaction_line tx) refl)
    ∙ ap (λ (o : Option Items). option_map (item (object (members_of (transaction_line tx)))) o) (elements_again txs)

list_again : (h : Head) (txs : List RecallTx) → of_members (members_outline (list_members h txs)) no_members ≡ Some (list_members h txs)
list_again h txs =
    members_again (head_line h) (list_member txs) no_members
    ∙ ap (λ (o : Option Items). option_and_then (λ d. Some (put (key_text key.TxInf) d (with_rows (head_line h) no_members))) (option_map array o)) (elements_again txs)
    ∙ ap (λ (ms : Members). Some (put (key_text key.TxInf) (array (element_objects txs)) ms)) (sym (ordered_is (head_line h)))
    ∙ ap (λ (ms : Members). Some ms) (put_behind h (array (element_objects txs)))

recalls_again : (h : Head) (txs : List RecallTx) → of_members (members_outline (recall_members h txs)) no_members ≡ Some (recall_members h txs)
recalls_again h [] = list_again h []
recalls_again h (tx ∷ []) = rows_again (one_recall_line h tx) refl
recalls_again h (tx ∷ (other ∷ more)) = list_again h (tx ∷ (other ∷ more))

line_again : (m : Draft) → of_members (members_outline (line_members m)) no_members ≡ Some (line_members m)
line_again (draft.CreditTransfer m) = rows_again (credit_transfer_line m) refl
line_again (draft.StatusReport m) = rows_again (status_report_line m) refl
line_again (draft.StatusRequest m) = rows_again (status_request_line m) refl
line_again (draft.CancellationRequest m) = recalls_again m.head m.txs
line_again (draft.PaymentReturn m) = rows_again (payment_return_line m) refl
line_again (draft.Resolution m) = rows_again (resolution_line m) refl

object_again : (m : Draft) → of_json (outline (object (line_members m))) ≡ Some (object (line_members m))
object_again m = ap (option_map object) (line_again m)

-- ---- the tokens

tokens_onto : (rs : List Row) (tail : Members) (before : List ℕ) (ts : List Token)
    → (with_line rs (before, ts)).1 ++ tree.members_tokens (members_outline tail) ≡ ts ++ tree.members_tokens (members_outline (members_onto rs tail))
tokens_onto [] tail before ts = refl
tokens_onto ((k, None) ∷ rs) tail before ts = tokens_onto rs tail before ts
tokens_onto ((k, Some s) ∷ rs) tail before ts =
    tokens_onto rs tail before ((ts ++ Token.key (key_text k) ∷ []) ++ Token.string s ∷ [])
    ∙ append_assoc (ts ++ Token.key (key_text k) ∷ []) (Token.string s ∷ []) (tree.members_tokens (members_outline (members_onto rs tail)))
    ∙ append_assoc ts (Token.key (key_text k) ∷ []) (Token.string s ∷ tree.members_tokens (members_outline (members_onto rs tail)))

abbrev element_tokens : RecallTx → List Token
element_tokens tx = begin_object ∷ tree.members_tokens (members_outline (members_of (transaction_line tx)))

tokens_of_element : (tx : RecallTx) (h : Held) → (with_object tx h).1 ≡ h.1 ++ element_tokens tx
tokens_of_element tx h =
    tokens_onto (transaction_line tx) no_members h.0 (h.1 ++ begin_object ∷ [])
    ∙ append_assoc h.1 (begin_object ∷ []) (tree.members_tokens (members_outline (members_of (transaction_line tx))))

tokens_of_elements : (txs : List RecallTx) (h : Held) → (with_objects txs h).1 ++ end_array ∷ [] ≡ h.1 ++ tree.items_tokens (items_outline (element_objects txs))
tokens_of_elements [] h = refl
tokens_of_elements (tx ∷ txs) h =
    let rest : List Token = tree.items_tokens (items_outline (element_objects txs)) in
    tokens_of_elements txs (with_object tx h)
    ∙ ap (λ (ts : List Token). ts ++ rest) (tokens_of_element tx h)
    ∙ append_assoc h.1 (element_tokens tx) rest

tokens_of_list : (txs : List RecallTx) (h : Held) → (with_array txs h).1 ++ end_object ∷ [] ≡ h.1 ++ tree.members_tokens (members_outline (list_member txs))
tokens_of_list txs h =
    let items : List Token = tree.items_tokens (items_outline (element_objects txs)) in
    let opened : List Token = (h.1 ++ Token.key (key_text key.TxInf) ∷ []) ++ begin_array ∷ [] in
    ap (λ (ts : List Token). ts ++ end_object ∷ []) (tokens_of_elements txs (h.0, opened))
    ∙ append_assoc opened items (end_object ∷ [])
    ∙ append_assoc (h.1 ++ Token.key (key_text key.TxInf) ∷ []) (begin_array ∷ []) (items ++ end_object ∷ [])
    ∙ append_assoc h.1 (Token.key (key_text key.TxInf) ∷ []) (begin_array ∷ (items ++ end_object ∷ []))

tokens_with_list : (h : Head) (txs : List RecallTx) (before : List ℕ) (ts : List Token)
    → (with_array txs (with_line (head_line h) (before, ts))).1 ++ end_object ∷ [] ≡ ts ++ tree.members_tokens (members_outline (list_members h txs))
tokens_with_list h txs before ts = tokens_of_list txs (with_line (head_line h) (before, ts)) ∙ tokens_onto (head_line h) (list_member txs) before ts

tokens_of_recalls : (h : Head) (txs : List RecallTx) (before : List ℕ) (ts : List Token)
    → (with_recalls h txs (before, ts)).1 ++ end_object ∷ [] ≡ ts ++ tree.members_tokens (members_outline (recall_members h txs))
tokens_of_recalls h [] before ts = tokens_with_list h [] before ts
tokens_of_recalls h (tx ∷ []) before ts = tokens_onto (one_recall_line h tx) no_members before ts
tokens_of_recalls h (tx ∷ (other ∷ more)) before ts = tokens_with_list h (tx ∷ (other ∷ more)) before ts

tokens_of_message : (m : Draft) (before : List ℕ) (ts : List Token)
    → (with_message m (before, ts)).1 ++ end_object ∷ [] ≡ ts ++ tree.members_tokens (members_outline (line_members m))
tokens_of_message (draft.CreditTransfer m) before ts = tokens_onto (credit_transfer_line m) no_members before ts
tokens_of_message (draft.StatusReport m) before ts = tokens_onto (status_report_line m) no_members before ts
tokens_of_message (draft.StatusRequest m) before ts = tokens_onto (status_request_line m) no_members before ts
tokens_of_message (draft.CancellationRequest m) before ts = tokens_of_recalls m.head m.txs before ts
tokens_of_message (draft.PaymentReturn m) before ts = tokens_onto (payment_return_line m) no_members before ts
tokens_of_message (draft.Resolution m) before ts = tokens_onto (resolution_line m) no_members before ts

-- ---- what stood before the tokens stays

before_line : (rs : List Row) (before : List ℕ) (ts : List Token) → (with_line rs (before, ts)).0 ≡ before
before_line [] before ts = refl
before_line ((k, None) ∷ rs) before ts = before_line rs before ts
before_line ((k, Some s) ∷ rs) before ts = before_line rs before ((ts ++ Token.key (key_text k) ∷ []) ++ Token.string s ∷ [])

before_elements : (txs : List RecallTx) (h : Held) → (with_objects txs h).0 ≡ h.0
before_elements [] h = refl
before_elements (tx ∷ txs) h = before_elements txs (with_object tx h) ∙ before_line (transaction_line tx) h.0 (h.1 ++ begin_object ∷ [])

before_list : (txs : List RecallTx) (h : Held) → (with_array txs h).0 ≡ h.0
before_list txs h = before_elements txs (h.0, (h.1 ++ Token.key (key_text key.TxInf) ∷ []) ++ begin_array ∷ [])

before_recalls : (h : Head) (txs : List RecallTx) (before : List ℕ) (ts : List Token) → (with_recalls h txs (before, ts)).0 ≡ before
before_recalls h [] before ts = before_list [] (with_line (head_line h) (before, ts)) ∙ before_line (head_line h) before ts
before_recalls h (tx ∷ []) before ts = before_line (one_recall_line h tx) before ts
before_recalls h (tx ∷ (other ∷ more)) before ts = before_list (tx ∷ (other ∷ more)) (with_line (head_line h) (before, ts)) ∙ before_line (head_line h) before ts

before_message : (m : Draft) (before : List ℕ) (ts : List Token) → (with_message m (before, ts)).0 ≡ before
before_message (draft.CreditTransfer m) before ts = before_line (credit_transfer_line m) before ts
before_message (draft.StatusReport m) before ts = before_line (status_report_line m) before ts
before_message (draft.StatusRequest m) before ts = before_line (status_request_line m) before ts
before_message (draft.CancellationRequest m) before ts = before_recalls m.head m.txs before ts
before_message (draft.PaymentReturn m) before ts = before_line (payment_return_line m) before ts
before_message (draft.Resolution m) before ts = before_line (resolution_line m) before ts

-- ---- how deep the members nest

shallow_onto : (rs : List Row) (tail : Members) → tree.members_depth (members_outline (members_onto rs tail)) ≡ tree.members_depth (members_outline tail)
shallow_onto [] tail = refl
shallow_onto ((k, None) ∷ rs) tail = shallow_onto rs tail
shallow_onto ((k, Some s) ∷ rs) tail = let rest = shallow_onto rs tail in omega (arith, rest)

shallow_rows : (rs : List Row) → tree.members_depth (members_outline (members_of rs)) ≤ 2
shallow_rows rs = let rest = shallow_onto rs no_members in omega (arith, rest)

shallow_elements : (txs : List RecallTx) → tree.items_depth (items_outline (element_objects txs)) ≤ 1
shallow_elements [] = omega arith
shallow_elements (tx ∷ txs) =
    let here = shallow_onto (transaction_line tx) no_members in
    let rest = shallow_elements txs in
    omega (arith, here, rest)

shallow_list : (h : Head) (txs : List RecallTx) → tree.members_depth (members_outline (list_members h txs)) ≤ 2
shallow_list h txs =
    let front = shallow_onto (head_line h) (list_member txs) in
    let elements = shallow_elements txs in
    omega (arith, front, elements)

shallow_recalls : (h : Head) (txs : List RecallTx) → tree.members_depth (members_outline (recall_members h txs)) ≤ 2
shallow_recalls h [] = shallow_list h []
shallow_recalls h (tx ∷ []) = shallow_rows (one_recall_line h tx)
shallow_recalls h (tx ∷ (other ∷ more)) = shallow_list h (tx ∷ (other ∷ more))

shallow : (m : Draft) → tree.members_depth (members_outline (line_members m)) ≤ 2
shallow (draft.CreditTransfer m) = shallow_rows (credit_transfer_line m)
shallow (draft.StatusReport m) = shallow_rows (status_report_line m)
shallow (draft.StatusRequest m) = shallow_rows (status_request_line m)
shallow (draft.CancellationRequest m) = shallow_recalls m.head m.txs
shallow (draft.PaymentReturn m) = shallow_rows (payment_return_line m)
shallow (draft.Resolution m) = shallow_rows (resolution_line m)

-- ---- the text

-- the bytes are the text of the message, and stand for its object
pub record IsTextOf (m : Draft) (bytes : List ℕ) : Type 0 where
  pub text : bytes ≡ written_text m
  pub stands : StandsFor bytes (written_object m)

unfoldable line_tokens : Draft → List Token
line_tokens m = tree.json_tokens (outline (object (line_members m)))

-- what is read of tokens of which all are one value's
abbrev whole : Option (json.Json × List Token) → Option Data
whole found = option_and_then of_json (option_and_then (λ p. json.if_last p.0 p.1) found)

read_line : (m : Draft) (text : List ℕ) → tokens text ≡ line_tokens m → read text ≡ Some (written_object m)
unfolding line_tokens
read_line m text same =
    let line : json.Json = outline (object (line_members m)) in
    let low = shallow m in
    ap whole (ap (json.value max_depth) (same ∙ sym (append-nil (tree.json_tokens line))) ∙ value-json_tokens line max_depth [] (omega (arith, low)))
    ∙ object_again m
    ∙ ap Some (line_object m)

printed_line : (m : Draft) → print (line_tokens m) ≡ written_text m
unfolding line_tokens written_text
printed_line m = print-outline (object (line_members m)) ∙ ap compact_text (line_object m)

pub text_written : (m : Draft) (started opened filled ended : Written) (text : List ℕ)
    → started.before ≡ [] → started.tokens ≡ []
    → opened.before ≡ started.before → opened.tokens ≡ started.tokens ++ begin_object ∷ []
    → held filled ≡ with_message m (held opened)
    → ended.before ≡ filled.before → ended.tokens ≡ filled.tokens ++ end_object ∷ []
    → text ≡ ended.before ++ print ended.tokens → tokens (print ended.tokens) ≡ ended.tokens → IsUtf8 (print ended.tokens)
    → IsTextOf m text
unfolding line_tokens
text_written m started opened filled ended text no_bytes no_tokens same_before begun lined still closed given back utf8 =
    let all : ended.tokens ≡ line_tokens m =
    closed
    ∙ ap (λ (h : Held). h.1 ++ end_object ∷ []) lined
    ∙ tokens_of_message m opened.before opened.tokens
    ∙ ap (λ (ts : List Token). ts ++ tree.members_tokens (members_outline (line_members m))) (begun ∙ ap (λ (ts : List Token). ts ++ begin_object ∷ []) no_tokens) in
    let nothing : ended.before ≡ [] =
    still ∙ ap (λ (h : Held). h.0) lined ∙ before_message m opened.before opened.tokens ∙ same_before ∙ no_bytes in
    let printed : text ≡ print ended.tokens = given ∙ ap (λ (bs : List ℕ). bs ++ print ended.tokens) nothing in
    record {
      text = printed ∙ ap print all ∙ printed_line m;
      stands = record {
        text = subst IsUtf8 (sym printed) utf8;
        value = read_line m text (ap tokens printed ∙ back ∙ all);
      };
    }

-- ---- the written object and its outline

pub object_back : (m : Draft) → of_json (outline (written_object m)) ≡ Some (written_object m)
object_back m = subst (λ (d : Data). of_json (outline d) ≡ Some d) (line_object m) (object_again m)

pub written_shallow : (m : Draft) → tree.depth (outline (written_object m)) ≤ 3
written_shallow m =
    let low = shallow m in
    let line : tree.depth (outline (object (line_members m))) ≤ 3 = omega (arith, low) in
    subst (λ (d : Data). tree.depth (outline d) ≤ 3) (line_object m) line
