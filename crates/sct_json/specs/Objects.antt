-- An object as it is read key by key, one whose members are all texts, and one with a list of such objects. Serves proofs.
use Rattle.std.specs.Prelude.{◌≡◌, ℕ, List, [], ◌∷◌, true, Option, Some, None, Result, Ok, Err, if◌then◌else◌}
use Rattle.json.specs.Token as json
use Rattle.serde_json.specs.Data.{Data, string, array, object, Items, no_items, item, Members, no_members, put}
use Rattle.serde_json.specs.Find.{as_str}
use Rattle.sct_element.specs.Text.{is_text}
use Rattle.sct_json.specs.declared.keys.Key.{Key}
use Rattle.sct_json.specs.declared.keys.Key.TheVariants as key
use Rattle.sct_json.specs.declared.plain.Next.{Next}
use Rattle.sct_json.specs.declared.plain.Next.TheVariants as next
use Rattle.sct_json.specs.declared.plain.Texts.{Texts}
use Rattle.sct_json.specs.declared.plain.Texts.TheVariants as texts
use Rattle.sct_json.specs.declared.plain_message.Listed.{Listed}
use Rattle.sct_json.specs.declared.plain_message.PlainMessage.{PlainMessage}
use Rattle.sct_json.specs.declared.object.Found.{Found}
use Rattle.sct_json.specs.declared.object.Found.TheVariants.{Nothing, NoText, Text}
use Rattle.sct_json.specs.declared.faults.JsonFault.{JsonFault}
use Rattle.sct_json.specs.Keys.{key_text}
use Rattle.sct_json.specs.Reading.{FailsWhere}

-- at a key is nothing, a value that is no text, or this text
abbrev pub IsFound : Found → Option Data → Type 0
IsFound Nothing value = value ≡ None
IsFound NoText value = (d : Data) × (value ≡ Some d) × (as_str d ≡ None)
IsFound (Text s) value = value ≡ Some (string s.now)

-- texts at keys, put in one after another: of two at one key the later stays
abbrev pub put_texts : List (Key × List ℕ) → Members → Members
put_texts [] found = found
put_texts (m ∷ ms) found = put_texts ms (put (key_text m.0) (string m.1) found)

-- the object that has these texts at these keys
abbrev pub object_of : List (Key × List ℕ) → Data
object_of ms = object (put_texts ms no_members)

abbrev pub later_or : Option (List ℕ) → Option (List ℕ) → Option (List ℕ)
later_or None earlier = earlier
later_or (Some s) earlier = Some s

-- the last text at a name
abbrev pub last_text : List ℕ → List (Key × List ℕ) → Option (List ℕ)
last_text name [] = None
last_text name (m ∷ ms) = later_or (last_text name ms) (if is_text name (key_text m.0) then Some m.1 else None)

-- the tokens of these members, before others
abbrev pub tokens_before : List (Key × List ℕ) → List json.Token → List json.Token
tokens_before [] rest = rest
tokens_before (m ∷ ms) rest = json.key (key_text m.0) ∷ json.string m.1 ∷ tokens_before ms rest

-- after a name comes a text at the key of the name, or the list at TxInf
abbrev pub IsNext : List ℕ → List json.Token → Next → List json.Token → Type 0
IsNext name old (next.Text m) new = (key_text m.key ≡ name) × (old ≡ json.string m.text.now ∷ new)
IsNext name old next.List new = (name ≡ key_text key.TxInf) × (old ≡ json.begin_array ∷ new)
IsNext name old next.Other new = Unit {0}

-- the texts come first, and then the end of the object or the list at TxInf
abbrev pub AreTexts : List json.Token → Texts → List json.Token → Type 0
AreTexts old (texts.Closed ms) new = old ≡ tokens_before ms (json.end_object ∷ new)
AreTexts old (texts.Before ms) new = old ≡ tokens_before ms (json.key (key_text key.TxInf) ∷ json.begin_array ∷ new)
AreTexts old texts.Other new = Unit {0}

-- the objects that have these texts, and their tokens before others
abbrev pub objects_of : List (List (Key × List ℕ)) → Items
objects_of [] = no_items
objects_of (ms ∷ txs) = item (object_of ms) (objects_of txs)

abbrev pub objects_before : List (List (Key × List ℕ)) → List json.Token → List json.Token
objects_before [] rest = rest
objects_before (ms ∷ txs) rest = json.begin_object ∷ tokens_before ms (json.end_object ∷ objects_before txs rest)

-- the tokens are those of the objects of the list and of the texts after it
abbrev pub IsListBefore : List json.Token → Listed → List json.Token → Type 0
IsListBefore old l new = old ≡ objects_before l.list.items (json.end_array ∷ tokens_before l.after (json.end_object ∷ new))

-- the list and the texts after it, put in behind other members
abbrev pub put_listed : Option Listed → Members → Members
put_listed None found = found
put_listed (Some l) found = put_texts l.after (put (key_text key.TxInf) (array (objects_of l.list.items)) found)

-- the object that has these texts, and maybe the list and the texts after it
abbrev pub members_of : PlainMessage → Members
members_of m = put_listed m.listed (put_texts m.before no_members)

abbrev pub message_object : PlainMessage → Data
message_object m = object (members_of m)

-- the tokens of the list and of the texts after it, before others
abbrev pub listed_before : Option Listed → List json.Token → List json.Token
listed_before None rest = rest
listed_before (Some l) rest =
    json.key (key_text key.TxInf) ∷ json.begin_array ∷ objects_before l.list.items (json.end_array ∷ tokens_before l.after rest)

-- What was answered, if anything, is what is read. Out of memory may be answered in its place.
abbrev pub GivesOrLeaves : {X : Type 0} → Result (Option X) JsonFault → Result X JsonFault → Type 0
GivesOrLeaves (Ok None) read = Unit {0}
GivesOrLeaves (Ok (Some x)) read = read ≡ Ok x
GivesOrLeaves (Err e) read = FailsWhere true e read
