-- An object of texts, with a list of objects of texts.
use Rattle.std.proofs.Common.{◌≡◌, ◌∙◌, ap, sym, subst, refl, arith, ℕ, ◌+◌, ◌<◌, ◌≤◌, Bool, true, false, cond, List, [], ◌∷◌, ◌++◌, length, map, Option, Some, None, Result, Ok, Err}
use Rattle.std.specs.Prelude.{option_and_then, option_map, zero, suc, if◌then◌else◌, IfSome, ⊤}
use Rattle.std.specs.Bool.{OnTrue}
use Rattle.std.specs.Cmp.Lexicographic.{bytes_decides}
use Rattle.std.specs.List.{list_all}
use Rattle.std.specs.declared.alloc.Global.{Global}
use Rattle.std.specs.declared.vec.Vec.{Vec}
use Rattle.std.proofs.lemmas.List.{length-map}
use Rattle.json.specs.Token as json
use Rattle.json.specs.Lex.{tokens}
use Rattle.json.specs.Json as grammar
use Rattle.serde_json.specs.Data.{Data, string, array, object, Items, item, Members, no_members, put}
use Rattle.serde_json.specs.Read.{read, of_json, of_items, of_members, max_depth}
use Rattle.serde_json.specs.Find.{get_member, as_str}
use Rattle.serde_json.proofs.Views.{get_member-put, get_member-put_other}
use Rattle.sct_element.specs.Text.{is_text}
use Rattle.sct_message.specs.declared.draft.RecallTx.{RecallTx}
use Rattle.sct_message.specs.Rules.{is_right_count}
use Rattle.sct_json.specs.declared.faults.JsonFault.{JsonFault}
use Rattle.sct_json.specs.declared.faults.JsonFault.TheVariants.{BadTransactions}
use Rattle.sct_json.specs.declared.faults.JsonFault.TheVariants as fault
use Rattle.sct_json.specs.declared.keys.Key.{Key}
use Rattle.sct_json.specs.declared.keys.Key.TheVariants.{TxInf}
use Rattle.sct_json.specs.declared.keys.Shape.{Shape}
use Rattle.sct_json.specs.declared.keys.Shape.TheVariants.{Listed as listed_shape, Transaction}
use Rattle.sct_json.specs.declared.object.Found.{Found}
use Rattle.sct_json.specs.declared.plain_message.Listed.{Listed}
use Rattle.sct_json.specs.declared.plain_message.PlainMessage.{PlainMessage}
use Rattle.sct_json.specs.Keys.{key_text, is_key_among, is_key_in}
use Rattle.sct_json.specs.Objects.{IsFound, put_texts, object_of, objects_of, put_listed, members_of, last_text, tokens_before, objects_before, listed_before}
use Rattle.sct_json.specs.Reading.{◌>>=◌, GivesWithMemory, GivesWithoutMemory, GivesItems, names_of, passes_unless, items_list, counted, first_no_object, are_objects, element_in, elements_in, list_in, transaction_in}
use Rattle.sct_json.proofs.PlainTexts.{text_or, not_same, texts_found, text_at, json_members, AreMembers, texts_first, no_more, length_before, object_read, texts_put, names_of_texts}
use Rattle.sct_json.proofs.Rows.{names_put}
use Rattle.sct_json.proofs.TableForms.{none_fails}

-- ---- what is at a key

-- a text after the list
pub text_after : (name s : List ℕ) (l : Listed) (found : Members) → Some s ≡ last_text name l.after → get_member name (put_listed (Some l) found) ≡ Some (string s)
text_after name s l found last =
    texts_found name l.after (put (key_text TxInf) (array (objects_of l.list.items)) found)
    ∙ ap (λ o. text_or o (get_member name (put (key_text TxInf) (array (objects_of l.list.items)) found))) (sym last)

-- the list itself
pub list_at : (l : Listed) (found : Members) → None ≡ last_text (key_text TxInf) l.after → get_member (key_text TxInf) (put_listed (Some l) found) ≡ Some (array (objects_of l.list.items))
list_at l found none =
    texts_found (key_text TxInf) l.after (put (key_text TxInf) (array (objects_of l.list.items)) found)
    ∙ ap (λ o. text_or o (get_member (key_text TxInf) (put (key_text TxInf) (array (objects_of l.list.items)) found))) (sym none)
    ∙ get_member-put (key_text TxInf) (array (objects_of l.list.items)) found

-- what was there before the list
pub before_at : (name : List ℕ) (l : Listed) (found : Members) → None ≡ last_text name l.after → (name ≡ key_text TxInf → ⊥) → get_member name (put_listed (Some l) found) ≡ get_member name found
before_at name l found none other =
    texts_found name l.after (put (key_text TxInf) (array (objects_of l.list.items)) found)
    ∙ ap (λ o. text_or o (get_member name (put (key_text TxInf) (array (objects_of l.list.items)) found))) (sym none)
    ∙ get_member-put_other name (key_text TxInf) (array (objects_of l.list.items)) found other

-- the list is no text
pub list_found : (name : List ℕ) (l : Listed) (found : Members) → is_text (key_text TxInf) name ≡ true → None ≡ last_text name l.after
    → (d : Data) × (get_member name (put_listed (Some l) found) ≡ Some d) × (as_str d ≡ None)
list_found name l found same none =
    let e : key_text TxInf ≡ name = (bytes_decides (key_text TxInf) name).0 same in (
      array (objects_of l.list.items),
      subst (λ (s : List ℕ). get_member s (put_listed (Some l) found) ≡ Some (array (objects_of l.list.items))) e
          (list_at l found (subst (λ (s : List ℕ). None ≡ last_text s l.after) (sym e) none)),
      refl,
    )

-- another key has what it had before the list
pub other_found : (what : Found) (name : List ℕ) (l : Listed) (found : Members) → is_text (key_text TxInf) name ≡ false → None ≡ last_text name l.after
    → IsFound what (get_member name found) → IsFound what (get_member name (put_listed (Some l) found))
other_found what name l found other none before =
    subst (IsFound what) (sym (before_at name l found none (λ same. not_same (key_text TxInf) name other (sym same)))) before

-- ---- the list

IsRefused : Option Data → Type 0
IsRefused o = IfSome o (λ d. list_in d ≡ Err (BadTransactions 0))

text_is_refused : (s : List ℕ) → list_in (string s) ≡ Err (BadTransactions 0)
unfolding list_in
text_is_refused s = refl

-- a text is no list
pub text_refused : (s : List ℕ) (list : Data) → Some (string s) ≡ Some list → list_in list ≡ Err (BadTransactions 0)
unfolding IsRefused
text_refused s list e = subst IsRefused e (text_is_refused s)

some_refused : (o : Option (List ℕ)) (list : Data) → option_map string o ≡ Some list → list_in list ≡ Err (BadTransactions 0)
some_refused None list e = cc
some_refused (Some s) list e = text_refused s list e

-- texts have no list
pub texts_refused : (name : List ℕ) (ms : List (Key × List ℕ)) (list : Data) → get_member name (put_texts ms no_members) ≡ Some list → list_in list ≡ Err (BadTransactions 0)
texts_refused name ms list e = some_refused (last_text name ms) list (sym (text_at name ms) ∙ e)

all_objects : (txs : List (List (Key × List ℕ))) → items_list (objects_of txs) ≡ map object_of txs
all_objects [] = refl
all_objects (ms ∷ txs) = ap (λ (ds : List Data). object_of ms ∷ ds) (all_objects txs)

no_other : (place : ℕ) (txs : List (List (Key × List ℕ))) → first_no_object place (map object_of txs) ≡ None
no_other place [] = refl
no_other place (ms ∷ txs) = no_other (place + 1) txs

few_or_not : Bool → List (List (Key × List ℕ)) → Result (List RecallTx) JsonFault
few_or_not few txs = cond few (elements_in 1 (map object_of txs)) (Err (BadTransactions 0))

abbrev counted_by : Bool → Result ⊤ JsonFault
counted_by few = if few then Ok tt else Err (BadTransactions 0)

few_counted : (few : Bool) (place : Option ℕ) (ds : List Data) → place ≡ None
    → (counted_by few >>= λ few. are_objects place >>= λ objects. elements_in 1 ds) ≡ cond few (elements_in 1 ds) (Err (BadTransactions 0))
few_counted true place ds e = ap (λ (o : Option ℕ). are_objects o >>= λ objects. elements_in 1 ds) e
few_counted false place ds e = refl

list_of_objects : (few : Bool) (txs : List (List (Key × List ℕ))) → is_right_count (length txs) ≡ few → list_in (array (objects_of txs)) ≡ few_or_not few txs
unfolding list_in few_or_not
list_of_objects few txs e =
    ap (λ (ds : List Data). counted ds >>= λ few. are_objects (first_no_object 1 ds) >>= λ objects. elements_in 1 ds) (all_objects txs)
    ∙ few_counted (is_right_count (length (map object_of txs))) (first_no_object 1 (map object_of txs)) (map object_of txs) (no_other 1 txs)
    ∙ ap (λ (b : Bool). cond b (elements_in 1 (map object_of txs)) (Err (BadTransactions 0))) (ap is_right_count (length-map txs object_of) ∙ e)

pub list_refused : (txs : List (List (Key × List ℕ))) → is_right_count (length txs) ≡ false → list_in (array (objects_of txs)) ≡ Err (BadTransactions 0)
unfolding few_or_not
list_refused txs e = list_of_objects false txs e

pub list_read : (txs : List (List (Key × List ℕ))) → is_right_count (length txs) ≡ true → list_in (array (objects_of txs)) ≡ elements_in 1 (map object_of txs)
unfolding few_or_not
list_read txs e = list_of_objects true txs e

-- the value at TxInf is the list, and is read as it
pub list_given : (r : Result (Vec RecallTx Global) JsonFault) (l : Listed) (found : Members) (list : Data) → None ≡ last_text (key_text TxInf) l.after
    → get_member (key_text TxInf) (put_listed (Some l) found) ≡ Some list → GivesItems r (list_in (array (objects_of l.list.items))) → GivesItems r (list_in list)
list_given r l found list none e given = subst (λ (o : Option Data). IfSome o (λ d. GivesItems r (list_in d))) (sym (list_at l found none) ∙ e) given

same_step : (r : Result RecallTx JsonFault) → (r >>= λ tx. Ok tx) ≡ r
same_step (Ok tx) = refl
same_step (Err e) = refl

-- an element with keys of a transaction alone
element_of_texts : (ms : List (Key × List ℕ)) → list_all (λ m. is_key_in Transaction (key_text m.0)) ms ≡ true → element_in (object_of ms) ≡ transaction_in (object_of ms)
unfolding element_in
element_of_texts ms all =
    ap (λ (extra : Option (List ℕ)). transaction_in (object_of ms) >>= λ tx. passes_unless extra >>= λ alone. Ok tx)
    (none_fails (is_key_in Transaction) (names_of (put_texts ms no_members)) (names_of_texts (is_key_in Transaction) ms no_members all refl))
    ∙ same_step (transaction_in (object_of ms))

-- what takes no memory gives what may take it
gives_too : (r read : Result RecallTx JsonFault) → GivesWithoutMemory r read → GivesWithMemory r read
gives_too (Ok tx) read h = h
gives_too (Err fault.Memory) read h = refl
gives_too (Err fault.NotJson) read h = h
gives_too (Err fault.NotObject) read h = h
gives_too (Err fault.UnknownKind) read h = h
gives_too (Err (fault.Missing key)) read h = h
gives_too (Err (fault.NotText key)) read h = h
gives_too (Err (fault.Element key e)) read h = h
gives_too (Err (fault.Extra name)) read h = h
gives_too (Err (fault.Rule broken)) read h = h
gives_too (Err (fault.BadTransactions place)) read h = h
gives_too (Err (fault.At place e)) read h = h

pub element_given : (r : Result RecallTx JsonFault) (read ms : List (Key × List ℕ)) → read ≡ ms → list_all (λ m. is_key_in Transaction (key_text m.0)) read ≡ true
    → GivesWithoutMemory r (transaction_in (object_of read)) → GivesWithMemory r (element_in (object_of ms))
element_given r read ms same all given =
    subst (λ (texts : List (Key × List ℕ)). GivesWithMemory r (element_in (object_of texts))) same
    (subst (GivesWithMemory r) (sym (element_of_texts read all)) (gives_too r (transaction_in (object_of read)) given))

-- ---- no other key

names_listed : (l : Listed) (found : Members) → list_all (λ m. is_key_in listed_shape (key_text m.0)) l.after ≡ true → list_all (is_key_in listed_shape) (names_of found) ≡ true
    → list_all (is_key_in listed_shape) (names_of (put_listed (Some l) found)) ≡ true
unfolding is_key_among
names_listed l found all before =
    names_of_texts (is_key_in listed_shape) l.after (put (key_text TxInf) (array (objects_of l.list.items)) found) all
    (names_put (is_key_in listed_shape) (key_text TxInf) (array (objects_of l.list.items)) found refl before)

pub names_kept : (b : Bool) (shape : Shape) (l : Listed) (listed : Option Listed) → listed ≡ Some l → shape ≡ listed_shape → b ≡ list_all (λ m. is_key_in listed_shape (key_text m.0)) l.after
    → OnTrue b ((before : Members) → list_all (is_key_in shape) (names_of before) ≡ true → list_all (is_key_in shape) (names_of (put_listed listed before)) ≡ true)
names_kept true shape l listed there shaped all =
    subst (λ (o : Option Listed). (before : Members) → list_all (is_key_in shape) (names_of before) ≡ true → list_all (is_key_in shape) (names_of (put_listed o before)) ≡ true) (sym there)
    (subst (λ (s : Shape). (before : Members) → list_all (is_key_in s) (names_of before) ≡ true → list_all (is_key_in s) (names_of (put_listed (Some l) before)) ≡ true) (sym shaped)
    (λ before h. names_listed l before (sym all) h))
names_kept false shape l listed there shaped all = tt

pub names_whole : (b : Bool) (shape : Shape) (m : PlainMessage) → true ≡ list_all (λ text. is_key_in shape (key_text text.0)) m.before
    → OnTrue b ((before : Members) → list_all (is_key_in shape) (names_of before) ≡ true → list_all (is_key_in shape) (names_of (put_listed m.listed before)) ≡ true)
    → OnTrue b (list_all (is_key_in shape) (names_of (members_of m)) ≡ true)
names_whole true shape m all rest = rest (put_texts m.before no_members) (names_of_texts (is_key_in shape) m.before no_members (sym all) refl)
names_whole false shape m all rest = tt

-- ---- the tokens of the list

objects_before-append : (txs : List (List (Key × List ℕ))) (ms : List (Key × List ℕ)) (rest : List json.Token)
    → objects_before (txs ++ ms ∷ []) rest ≡ objects_before txs (json.begin_object ∷ tokens_before ms (json.end_object ∷ rest))
objects_before-append [] ms rest = refl
objects_before-append (next ∷ txs) ms rest = ap (λ (ts : List json.Token). json.begin_object ∷ tokens_before next (json.end_object ∷ ts)) (objects_before-append txs ms rest)

length_objects : (txs : List (List (Key × List ℕ))) (rest : List json.Token) → length txs + length rest ≤ length (objects_before txs rest)
length_objects [] rest = omega arith
length_objects (ms ∷ txs) rest =
    let later : length txs + length rest ≤ length (objects_before txs rest) = length_objects txs rest in
    let here : length ms + length (json.end_object ∷ objects_before txs rest) ≤ length (tokens_before ms (json.end_object ∷ objects_before txs rest)) = length_before ms (json.end_object ∷ objects_before txs rest) in
    omega (arith, later, here)

-- one object more is read
pub one_object : (first before left now : List json.Token) (txs : List (List (Key × List ℕ))) (ms : List (Key × List ℕ)) → first ≡ objects_before txs before → before ≡ json.begin_object ∷ left
    → left ≡ tokens_before ms (json.end_object ∷ now) → first ≡ objects_before (txs ++ ms ∷ []) now
one_object first before left now txs ms so_far next texts =
    so_far ∙ ap (objects_before txs) (next ∙ ap (λ (ts : List json.Token). json.begin_object ∷ ts) texts) ∙ sym (objects_before-append txs ms now)

pub fewer_left : (before left now : List json.Token) (ms : List (Key × List ℕ)) → before ≡ json.begin_object ∷ left → left ≡ tokens_before ms (json.end_object ∷ now) → length now < length before
fewer_left before left now ms next texts =
    let long : length ms + length (json.end_object ∷ now) ≤ length (tokens_before ms (json.end_object ∷ now)) = length_before ms (json.end_object ∷ now) in
    omega (arith, long, ap length next, ap length texts)

-- ---- the value of the tokens

abbrev json_objects : List (List (Key × List ℕ)) → grammar.Items
json_objects [] = grammar.no_items
json_objects (ms ∷ txs) = grammar.item (grammar.object (json_members ms grammar.no_members)) (json_objects txs)

abbrev json_listed : Option Listed → grammar.Members
json_listed None = grammar.no_members
json_listed (Some l) = grammar.member (key_text TxInf) (grammar.array (json_objects l.list.items)) (json_members l.after grammar.no_members)

abbrev turns : Option Listed → ℕ
turns None = 0
turns (Some l) = suc (length l.after + 0)

objects_read : (d n : ℕ) (txs : List (List (Key × List ℕ))) (rest : List json.Token) → length txs < n
    → grammar.items (grammar.value (suc d)) n (objects_before txs (json.end_array ∷ rest)) ≡ Some (json_objects txs, rest)
unfolding grammar.items
objects_read d zero txs rest more = absurd (omega (arith, more))
objects_read d (suc n) [] rest more = refl
objects_read d (suc n) (ms ∷ txs) rest more =
    ap (option_and_then (λ p. grammar.parse_map (grammar.item p.0) (grammar.items (grammar.value (suc d)) n p.1))) (object_read d ms (objects_before txs (json.end_array ∷ rest)))
    ∙ ap (grammar.parse_map (grammar.item (grammar.object (json_members ms grammar.no_members)))) (objects_read d n txs rest (omega (arith, more)))

array_read : (d : ℕ) (txs : List (List (Key × List ℕ))) (rest : List json.Token)
    → grammar.value (suc (suc d)) (json.begin_array ∷ objects_before txs (json.end_array ∷ rest)) ≡ Some (grammar.array (json_objects txs), rest)
unfolding grammar.value
array_read d txs rest =
    let long : length txs + length (json.end_array ∷ rest) ≤ length (objects_before txs (json.end_array ∷ rest)) = length_objects txs (json.end_array ∷ rest) in
    ap (grammar.parse_map grammar.array) (objects_read d (length (objects_before txs (json.end_array ∷ rest))) txs rest (omega (arith, long)))

listed_read : (d : ℕ) (listed : Option Listed) (rest : List json.Token)
    → AreMembers (suc (suc d)) (turns listed) (listed_before listed (json.end_object ∷ rest)) (json_listed listed) rest
unfolding grammar.members
listed_read d None rest n more = no_more (suc (suc d)) rest n more
listed_read d (Some l) rest zero more = absurd (omega (arith, more))
listed_read d (Some l) rest (suc n) more =
    ap (option_and_then (λ p. grammar.parse_map (grammar.member (key_text TxInf) p.0) (grammar.members (grammar.value (suc (suc d))) n p.1)))
    (array_read d l.list.items (tokens_before l.after (json.end_object ∷ rest)))
    ∙ ap (grammar.parse_map (grammar.member (key_text TxInf) (grammar.array (json_objects l.list.items))))
    (texts_first (suc (suc d)) 0 l.after (json.end_object ∷ rest) grammar.no_members rest (no_more (suc (suc d)) rest) n (omega (arith, more)))

enough_turns : (listed : Option Listed) (rest : List json.Token) → turns listed < length (listed_before listed (json.end_object ∷ rest))
enough_turns None rest = omega arith
enough_turns (Some l) rest =
    let texts : length l.after + length (json.end_object ∷ rest) ≤ length (tokens_before l.after (json.end_object ∷ rest)) = length_before l.after (json.end_object ∷ rest) in
    let list : length l.list.items + length (json.end_array ∷ tokens_before l.after (json.end_object ∷ rest)) ≤ length (objects_before l.list.items (json.end_array ∷ tokens_before l.after (json.end_object ∷ rest))) =
    length_objects l.list.items (json.end_array ∷ tokens_before l.after (json.end_object ∷ rest)) in
    omega (arith, texts, list)

whole_read : (d : ℕ) (before : List (Key × List ℕ)) (listed : Option Listed)
    → grammar.value (suc (suc (suc d))) (json.begin_object ∷ tokens_before before (listed_before listed (json.end_object ∷ []))) ≡ Some (grammar.object (json_members before (json_listed listed)), [])
unfolding grammar.value
whole_read d before listed =
    let list : turns listed < length (listed_before listed (json.end_object ∷ [])) = enough_turns listed [] in
    let texts : length before + length (listed_before listed (json.end_object ∷ [])) ≤ length (tokens_before before (listed_before listed (json.end_object ∷ []))) = length_before before (listed_before listed (json.end_object ∷ [])) in
    ap (grammar.parse_map grammar.object)
    (texts_first (suc (suc d)) (turns listed) before (listed_before listed (json.end_object ∷ [])) (json_listed listed) [] (listed_read d listed []) (length (tokens_before before (listed_before listed (json.end_object ∷ [])))) (omega (arith, list, texts)))

objects_put : (txs : List (List (Key × List ℕ))) → of_items (json_objects txs) ≡ Some (objects_of txs)
objects_put [] = refl
objects_put (ms ∷ txs) =
    ap (λ (o : Option Members). option_and_then (λ d. option_map (item d) (of_items (json_objects txs))) (option_map object o)) (texts_put ms grammar.no_members no_members)
    ∙ ap (option_map (item (object_of ms))) (objects_put txs)

listed_put : (listed : Option Listed) (found : Members) → of_members (json_listed listed) found ≡ Some (put_listed listed found)
listed_put None found = refl
listed_put (Some l) found =
    ap (λ (o : Option Items). option_and_then (λ d. of_members (json_members l.after grammar.no_members) (put (key_text TxInf) d found)) (option_map array o)) (objects_put l.list.items)
    ∙ texts_put l.after grammar.no_members (put (key_text TxInf) (array (objects_of l.list.items)) found)

-- a text of these tokens is the object
pub message_read : (text : List ℕ) (before : List (Key × List ℕ)) (listed : Option Listed) → tokens text ≡ json.begin_object ∷ tokens_before before (listed_before listed (json.end_object ∷ []))
    → read text ≡ Some (object (put_listed listed (put_texts before no_members)))
message_read text before listed e =
    ap (λ (ts : List json.Token). option_and_then of_json (option_and_then (λ p. grammar.if_last p.0 p.1) (grammar.value max_depth ts))) e
    ∙ ap (λ r. option_and_then of_json (option_and_then (λ p. grammar.if_last p.0 p.1) r)) (whole_read 124 before listed)
    ∙ ap (option_map object) (texts_put before (json_listed listed) no_members ∙ listed_put listed (put_texts before no_members))
