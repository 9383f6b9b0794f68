-- An object whose members are all texts.
use Rattle.std.proofs.Common.{◌≡◌, ◌∙◌, ap, sym, subst, refl, arith, ℕ, ◌+◌, ◌-◌, ◌<◌, ◌≤◌, Bool, true, false, cond, List, [], ◌∷◌, ◌++◌, length, Option, Some, None, option_map, Result, Ok, take, get_or}
use Rattle.std.specs.Prelude.{option_and_then, zero, suc, ok_or}
use Rattle.std.specs.Cmp.Lexicographic.{bytes_decides}
use Rattle.std.specs.List.{list_all}
use Rattle.std.proofs.lemmas.Bool.{false≢true, and_parts, cond-true, cond-false}
use Rattle.std.proofs.lemmas.List.{take_all, take_more, map-append}
use Rattle.json.specs.Token as json
use Rattle.json.specs.Json as grammar
use Rattle.serde_json.specs.Data.{Data, string, object, Members, no_members, put}
use Rattle.serde_json.specs.Read.{of_members}
use Rattle.serde_json.specs.Find.{get_member}
use Rattle.serde_json.proofs.Views.{get_member-put, get_member-put_other}
use Rattle.sct_element.specs.Text.{is_text}
use Rattle.sct_message.specs.declared.draft.Draft.{Draft}
use Rattle.sct_message.specs.declared.kinds.Kind.{Kind}
use Rattle.sct_json.specs.declared.faults.JsonFault.{JsonFault}
use Rattle.sct_json.specs.declared.faults.JsonFault.TheVariants.{UnknownKind}
use Rattle.sct_message.specs.Rules.{first_broken_rule}
use Rattle.sct_json.specs.declared.keys.Key.{Key}
use Rattle.sct_json.specs.declared.keys.Key.TheVariants.{TxInf}
use Rattle.sct_json.specs.declared.keys.Shape.{Shape}
use Rattle.sct_json.specs.declared.plain.Member.{Member}
use Rattle.sct_json.specs.Keys.{key_text, is_key_in}
use Rattle.sct_json.specs.Members.{texts_of}
use Rattle.sct_json.specs.Objects.{put_texts, later_or, last_text, tokens_before}
use Rattle.sct_json.specs.Reading.{◌>>=◌, names_of, passes_unless, kind_in, draft_in, shape_in, follows_unless, message_in_whole, object_in}
use Rattle.sct_json.proofs.Rows.{names_put}
use Rattle.sct_json.proofs.TableForms.{none_fails}

-- ---- the last text at a key

-- the text, or else what was there
abbrev pub text_or : Option (List ℕ) → Option Data → Option Data
text_or None earlier = earlier
text_or (Some s) earlier = Some (string s)

pub not_same : (s t : List ℕ) → is_text s t ≡ false → s ≡ t → ⊥
not_same s t other same = false≢true (sym other ∙ (bytes_decides s t).1 same)

one_put : (b : Bool) (name : List ℕ) (m : Key × List ℕ) (later : Option (List ℕ)) (found : Members) → is_text name (key_text m.0) ≡ b
    → text_or later (get_member name (put (key_text m.0) (string m.1) found)) ≡ text_or (later_or later (cond b (Some m.1) None)) (get_member name found)
one_put b name m (Some s) found e = refl
one_put true name m None found e =
    subst (λ (s : List ℕ). get_member s (put (key_text m.0) (string m.1) found) ≡ Some (string m.1)) (sym ((bytes_decides name (key_text m.0)).0 e)) (get_member-put (key_text m.0) (string m.1) found)
one_put false name m None found e = get_member-put_other name (key_text m.0) (string m.1) found (not_same name (key_text m.0) e)

pub texts_found : (name : List ℕ) (ms : List (Key × List ℕ)) (found : Members) → get_member name (put_texts ms found) ≡ text_or (last_text name ms) (get_member name found)
texts_found name [] found = refl
texts_found name (m ∷ ms) found =
    texts_found name ms (put (key_text m.0) (string m.1) found) ∙ one_put (is_text name (key_text m.0)) name m (last_text name ms) found refl

only_text : (o : Option (List ℕ)) → text_or o None ≡ option_map string o
only_text None = refl
only_text (Some s) = refl

-- what is at a name is the last text there
pub text_at : (name : List ℕ) (ms : List (Key × List ℕ)) → get_member name (put_texts ms no_members) ≡ option_map string (last_text name ms)
text_at name ms = texts_found name ms no_members ∙ only_text (last_text name ms)

-- what was found as the last text at a name is what is there
pub text_seen : (found : Option (List ℕ)) (name : List ℕ) (ms : List (Key × List ℕ)) → found ≡ last_text name ms → get_member name (put_texts ms no_members) ≡ option_map string found
text_seen found name ms last = text_at name ms ∙ ap (option_map string) (sym last)

-- ---- members in front of another

last_in_front : (b : Bool) (later : Option (List ℕ)) (s : List ℕ) (before : Option (List ℕ))
    → later_or (cond b (Some s) later) before ≡ cond b (Some s) (later_or later before)
last_in_front true later s before = refl
last_in_front false later s before = refl

pub last_text-append : (name : List ℕ) (ms : List (Key × List ℕ)) (m : Key × List ℕ)
    → last_text name (ms ++ m ∷ []) ≡ cond (is_text name (key_text m.0)) (Some m.1) (last_text name ms)
last_text-append name [] m = refl
last_text-append name (n ∷ ms) m =
    ap (λ (later : Option (List ℕ)). later_or later (cond (is_text name (key_text n.0)) (Some n.1) None)) (last_text-append name ms m)
    ∙ last_in_front (is_text name (key_text m.0)) (last_text name ms) m.1 _

apart : {X : Type 0} (xs : List X) (d : X) → 0 < length xs → xs ≡ take (length xs - 1) xs ++ get_or xs (length xs - 1) d ∷ []
apart xs d some = sym (take_all (length xs - 1 + 1) xs (omega arith)) ∙ take_more xs (length xs - 1) d (omega arith)

last_text-last : (name : List ℕ) (xs : List Member) (d : Member) → 0 < length xs
    → last_text name (texts_of xs) ≡ cond (is_text name (key_text (get_or xs (length xs - 1) d).key)) (Some (get_or xs (length xs - 1) d).text.now) (last_text name (texts_of (take (length xs - 1) xs)))
last_text-last name xs d some =
    ap (λ (ms : List Member). last_text name (texts_of ms)) (apart xs d some)
    ∙ ap (last_text name) (map-append (λ (m : Member). (m.key, m.text.now)) (take (length xs - 1) xs) (get_or xs (length xs - 1) d ∷ []))
    ∙ last_text-append name (texts_of (take (length xs - 1) xs)) ((get_or xs (length xs - 1) d).key, (get_or xs (length xs - 1) d).text.now)

pub last_text_before : (name : List ℕ) (xs : List Member) (d : Member) → 0 < length xs → is_text name (key_text (get_or xs (length xs - 1) d).key) ≡ false
    → last_text name (texts_of (take (length xs - 1) xs)) ≡ last_text name (texts_of xs)
last_text_before name xs d some other = sym (last_text-last name xs d some ∙ cond-false _ _ _ other)

pub last_text_there : (name : List ℕ) (xs : List Member) (d : Member) → 0 < length xs → is_text name (key_text (get_or xs (length xs - 1) d).key) ≡ true
    → Some (get_or xs (length xs - 1) d).text.now ≡ last_text name (texts_of xs)
last_text_there name xs d some same = sym (last_text-last name xs d some ∙ cond-true _ _ _ same)

pub tokens_before-append : (ms : List (Key × List ℕ)) (m : Key × List ℕ) (rest : List json.Token)
    → tokens_before (ms ++ m ∷ []) rest ≡ tokens_before ms (json.key (key_text m.0) ∷ json.string m.1 ∷ rest)
tokens_before-append [] m rest = refl
tokens_before-append (n ∷ ms) m rest = ap (λ (ts : List json.Token). json.key (key_text n.0) ∷ json.string n.1 ∷ ts) (tokens_before-append ms m rest)

-- one member more is read
pub one_more : (first before left now : List json.Token) (name : List ℕ) (ms : List Member) (m : Member) → first ≡ tokens_before (texts_of ms) before → before ≡ json.key name ∷ left
    → key_text m.key ≡ name → left ≡ json.string m.text.now ∷ now → first ≡ tokens_before (texts_of (ms ++ m ∷ [])) now
one_more first before left now name ms m so_far next named text =
    so_far ∙ ap (tokens_before (texts_of ms)) (next ∙ ap (λ (s : List ℕ). json.key s ∷ left) (sym named) ∙ ap (λ (ts : List json.Token). json.key (key_text m.key) ∷ ts) text)
    ∙ sym (tokens_before-append (texts_of ms) (m.key, m.text.now) now)
    ∙ ap (λ (all : List (Key × List ℕ)). tokens_before all now) (sym (map-append (λ (other : Member). (other.key, other.text.now)) ms (m ∷ [])))

-- the list comes after the members
pub list_next : (first before left now : List json.Token) (name : List ℕ) (ms : List (Key × List ℕ)) → first ≡ tokens_before ms before → before ≡ json.key name ∷ left
    → name ≡ key_text TxInf → left ≡ json.begin_array ∷ now → first ≡ tokens_before ms (json.key (key_text TxInf) ∷ json.begin_array ∷ now)
list_next first before left now name ms so_far next named list =
    so_far ∙ ap (tokens_before ms) (next ∙ ap (λ (s : List ℕ). json.key s ∷ left) named ∙ ap (λ (ts : List json.Token). json.key (key_text TxInf) ∷ ts) list)

-- ---- the value of the tokens

-- texts, and the members after them
abbrev pub json_members : List (Key × List ℕ) → grammar.Members → grammar.Members
json_members [] js = js
json_members (m ∷ ms) js = grammar.member (key_text m.0) (grammar.string m.1) (json_members ms js)

value_string : (d : ℕ) (s : List ℕ) (ts : List json.Token) → grammar.value d (json.string s ∷ ts) ≡ Some (grammar.string s, ts)
unfolding grammar.value
value_string zero s ts = refl
value_string (suc d) s ts = refl

-- the tokens after the texts are members, for any number of turns above a bound
abbrev pub AreMembers : ℕ → ℕ → List json.Token → grammar.Members → List json.Token → Type 0
AreMembers d bound ts js rest = (n : ℕ) → bound < n → grammar.members (grammar.value d) n ts ≡ Some (js, rest)

pub texts_first : (d bound : ℕ) (ms : List (Key × List ℕ)) (ts : List json.Token) (js : grammar.Members) (rest : List json.Token) → AreMembers d bound ts js rest
    → AreMembers d (length ms + bound) (tokens_before ms ts) (json_members ms js) rest
unfolding grammar.members
texts_first d bound [] ts js rest after n more = after n (omega (arith, more))
texts_first d bound (m ∷ ms) ts js rest after zero more = absurd (omega arith)
texts_first d bound (m ∷ ms) ts js rest after (suc n) more =
    ap (option_and_then (λ p. grammar.parse_map (grammar.member (key_text m.0) p.0) (grammar.members (grammar.value d) n p.1))) (value_string d m.1 (tokens_before ms ts))
    ∙ ap (grammar.parse_map (grammar.member (key_text m.0) (grammar.string m.1))) (texts_first d bound ms ts js rest after n (omega (arith, more)))

pub no_more : (d : ℕ) (rest : List json.Token) → AreMembers d 0 (json.end_object ∷ rest) grammar.no_members rest
unfolding grammar.members
no_more d rest zero more = absurd (omega (arith, more))
no_more d rest (suc n) more = refl

pub length_before : (ms : List (Key × List ℕ)) (ts : List json.Token) → length ms + length ts ≤ length (tokens_before ms ts)
length_before [] ts = omega arith
length_before (m ∷ ms) ts = let later : length ms + length ts ≤ length (tokens_before ms ts) = length_before ms ts in omega (arith, later)

-- an object of texts
pub object_read : (d : ℕ) (ms : List (Key × List ℕ)) (rest : List json.Token)
    → grammar.value (suc d) (json.begin_object ∷ tokens_before ms (json.end_object ∷ rest)) ≡ Some (grammar.object (json_members ms grammar.no_members), rest)
unfolding grammar.value
object_read d ms rest =
    let long : length ms + length (json.end_object ∷ rest) ≤ length (tokens_before ms (json.end_object ∷ rest)) = length_before ms (json.end_object ∷ rest) in
    ap (grammar.parse_map grammar.object) (texts_first d 0 ms (json.end_object ∷ rest) grammar.no_members rest (no_more d rest) (length (tokens_before ms (json.end_object ∷ rest))) (omega (arith, long)))

pub texts_put : (ms : List (Key × List ℕ)) (js : grammar.Members) (found : Members) → of_members (json_members ms js) found ≡ of_members js (put_texts ms found)
texts_put [] js found = refl
texts_put (m ∷ ms) js found = texts_put ms js (put (key_text m.0) (string m.1) found)

-- ---- no other key

pub names_of_texts : (q : List ℕ → Bool) (ms : List (Key × List ℕ)) (found : Members) → list_all (λ m. q (key_text m.0)) ms ≡ true → list_all q (names_of found) ≡ true
    → list_all q (names_of (put_texts ms found)) ≡ true
names_of_texts q [] found all before = before
names_of_texts q (m ∷ ms) found all before =
    names_of_texts q ms (put (key_text m.0) (string m.1) found) (and_parts _ _ all).1
    (names_put q (key_text m.0) (string m.1) found (and_parts _ _ all).0 before)

-- an object with keys of its shape alone is a message if its elements follow the rules
message_of_names : (shape : Shape) (ms : Members) (elements : Draft) → list_all (is_key_in shape) (names_of ms) ≡ true
    → message_in_whole shape ms elements ≡ follows_unless (first_broken_rule elements) elements
message_of_names shape ms elements all =
    ap (λ (extra : Option (List ℕ)). passes_unless extra >>= λ alone. follows_unless (first_broken_rule elements) elements) (none_fails (is_key_in shape) (names_of ms) all)

-- an object of a kind, with keys of its shape alone
pub object_of_kind : (ms : Members) (kind : Kind) (shape : Shape) (elements : Draft) → Some kind ≡ kind_in (object ms) → draft_in kind (object ms) ≡ Ok elements
    → shape ≡ shape_in kind (object ms) → list_all (is_key_in shape) (names_of ms) ≡ true → object_in (object ms) ≡ follows_unless (first_broken_rule elements) elements
unfolding object_in
object_of_kind ms kind shape elements found drafted shaped all =
    ap (λ (k : Option Kind). ok_or k UnknownKind >>= λ k. draft_in k (object ms) >>= λ m. message_in_whole (shape_in k (object ms)) ms m) (sym found)
    ∙ ap (λ (r : Result Draft JsonFault). r >>= λ m. message_in_whole (shape_in kind (object ms)) ms m) drafted
    ∙ ap (λ (s : Shape). message_in_whole s ms elements) (sym shaped)
    ∙ message_of_names shape ms elements all
