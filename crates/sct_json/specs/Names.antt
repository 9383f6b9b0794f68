-- The names of an object's members by their bytes, and the extra keys that are told. Read by an auditor.
use Rattle.std.specs.Prelude.{◌≡◌, ℕ, ◌+◌, List, Some, IsSome, IsFalse, ◌⊎◌}
use Rattle.std.specs.List.Sorted.{IsStrictlySortedBy}
use Rattle.std.specs.Ordering.{nat_cmp}
use Rattle.std.specs.declared.cmp.Ordering.TheVariants.{Less}
use Rattle.std.specs.Cmp.Lexicographic.{slice_cmp}
use Rattle.serde_json.specs.Data.{Data, null, boolean, number, string, array, object, Items, no_items, item, Members, no_members, member}
use Rattle.serde_json.specs.Find.{get, get_item}
use Rattle.sct_message.specs.declared.kinds.Kind.{Kind}
use Rattle.sct_message.specs.declared.kinds.Kind.TheVariants.{Camt056}
use Rattle.sct_json.specs.declared.keys.Key.TheVariants as key
use Rattle.sct_json.specs.declared.keys.Shape.{Shape}
use Rattle.sct_json.specs.declared.keys.Shape.TheVariants.{Transaction}
use Rattle.sct_json.specs.Keys.{key_text, is_key_in}
use Rattle.sct_json.specs.Reading.{kind_in, names_of, shape_in}
use Rattle.sct_json.specs.Form.{StandsFor}

-- the first name stands before the second by its bytes
abbrev pub IsBefore : List ℕ → List ℕ → Type 0
IsBefore s t = slice_cmp nat_cmp s t ≡ Less

-- each name stands before all later ones by its bytes
abbrev pub AscendByBytes : List (List ℕ) → Type 0
AscendByBytes names = IsStrictlySortedBy (slice_cmp nat_cmp) names

-- the names of each object that stands in the value, and of the value itself, ascend so
abbrev mutual
  pub NamesAscend : Data → Type 0
  NamesAscend null = Unit {0}
  NamesAscend (boolean b) = Unit {0}
  NamesAscend (number n) = Unit {0}
  NamesAscend (string s) = Unit {0}
  NamesAscend (array ds) = NamesAscendInItems ds
  NamesAscend (object ms) = AscendByBytes (names_of ms) × NamesAscendInMembers ms

  pub NamesAscendInItems : Items → Type 0
  NamesAscendInItems no_items = Unit {0}
  NamesAscendInItems (item d ds) = NamesAscend d × NamesAscendInItems ds

  pub NamesAscendInMembers : Members → Type 0
  NamesAscendInMembers no_members = Unit {0}
  NamesAscendInMembers (member k d ms) = NamesAscend d × NamesAscendInMembers ms

-- the name is a key of the object and no key of the shape
pub record IsExtraKey (shape : Shape) (members : Members) (name : List ℕ) : Type 0 where
  pub stands : IsSome (get name (object members))
  pub extra : IsFalse (is_key_in shape name)

-- the name is an extra key, and each extra key of the object is the same or greater by its bytes
pub record IsLeastExtraKey (shape : Shape) (members : Members) (name : List ℕ) : Type 0 where
  pub is_extra : IsExtraKey shape members name
  pub is_least : (other : List ℕ) → IsExtraKey shape members other → (name ≡ other) ⊎ IsBefore name other

-- the bytes are JSON for an object of a kind, and the name is its least extra key
pub record HasLeastExtraKey (bytes name : List ℕ) : Type 0 where
  pub kind : Kind
  pub members : Members
  pub stands : StandsFor bytes (object members)
  pub is_of_kind : kind_in (object members) ≡ Some kind
  pub least : IsLeastExtraKey (shape_in kind (object members)) members name

-- the bytes are JSON for a camt.056 with a list, and the name is the least extra key of the object at a place of the
-- list, counted from 1
pub record HasLeastExtraKeyAt (bytes : List ℕ) (place : ℕ) (name : List ℕ) : Type 0 where
  pub whole : Data
  pub stands : StandsFor bytes whole
  pub is_of_kind : kind_in whole ≡ Some Camt056
  pub items : Items
  pub list : get (key_text key.TxInf) whole ≡ Some (array items)
  pub before : ℕ
  pub is_place : place ≡ before + 1
  pub members : Members
  pub element : get_item before items ≡ Some (object members)
  pub least : IsLeastExtraKey Transaction members name
