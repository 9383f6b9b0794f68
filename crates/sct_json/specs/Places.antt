-- The places that are reported of the list of a camt.056, counted from 1. Read by an auditor.
use Rattle.std.specs.Prelude.{◌≡◌, ℕ, ◌+◌, ◌<◌, zero, suc, List, length, Some, IsTrue}
use Rattle.serde_json.specs.Data.{Data, array, object, Items, Members}
use Rattle.serde_json.specs.Find.{get, get_item}
use Rattle.sct_message.specs.declared.draft.RecallTx.{RecallTx}
use Rattle.sct_message.specs.declared.kinds.Kind.TheVariants.{Camt056}
use Rattle.sct_message.specs.Rules.{is_right_count}
use Rattle.sct_json.specs.declared.keys.Key.TheVariants as key
use Rattle.sct_json.specs.Keys.{key_text}
use Rattle.sct_json.specs.Reading.{items_list, kind_in}
use Rattle.sct_json.specs.Form.{IsTransaction, StandsFor}

-- the value is an object
abbrev pub IsObject : Data → Type 0
IsObject d = (members : Members) × (d ≡ object members)

-- the value is a transaction
abbrev pub IsSomeTransaction : Data → Type 0
IsSomeTransaction d = (tx : RecallTx) × IsTransaction d tx

-- the element at the place does not have the property, and each element before it has
pub record IsFirstWithout (Has : Data → Type 0) (items : Items) (place : ℕ) : Type 0 where
  pub before : ℕ
  pub is_place : place ≡ before + 1
  pub element : Data
  pub stands : get_item before items ≡ Some element
  pub lacks : Has element → ⊥
  pub earlier : (n : ℕ) (other : Data) → n < before → get_item n items ≡ Some other → Has other

-- the value is a list of 1 to 100 elements
pub record IsRightList (list : Data) (items : Items) : Type 0 where
  pub is_list : list ≡ array items
  pub is_right : IsTrue (is_right_count (length (items_list items)))

-- At place 0 the value is no list of 1 to 100 elements. At another place it is one, and the place is that of its first
-- element that is no object.
abbrev pub IsNoListOfObjects : Data → ℕ → Type 0
IsNoListOfObjects list zero = (items : Items) → IsRightList list items → ⊥
IsNoListOfObjects list (suc n) = (items : Items) × IsRightList list items × IsFirstWithout IsObject items (suc n)

-- The value is a list of 1 to 100 objects, and the place is that of the first that is no transaction.
pub record IsNoListOfTransactions (list : Data) (place : ℕ) : Type 0 where
  pub items : Items
  pub is_right : IsRightList list items
  pub are_objects : (n : ℕ) (element : Data) → get_item n items ≡ Some element → IsObject element
  pub first : IsFirstWithout IsSomeTransaction items place

-- the bytes are JSON for a camt.056, and the value at its TxInf has the property
pub record HasList (Has : Data → Type 0) (bytes : List ℕ) : Type 0 where
  pub whole : Data
  pub stands : StandsFor bytes whole
  pub is_of_kind : kind_in whole ≡ Some Camt056
  pub list : Data
  pub is_at_key : get (key_text key.TxInf) whole ≡ Some list
  pub has : Has list
