-- A map from keys to lists, read as one list for each key. Read by an auditor.
use Rattle.std.specs.Prelude.{◌≡◌, Bool, List, [], Option, None, Some, is_some, nat_lt, length}
use Rattle.indexmap.specs.IndexMap.{IndexMap, get}

-- a list that may be absent
abbrev pub items_in : {V : Type 0} → Option (List V) → List V
items_in None = []
items_in (Some items) = items

-- the list at a key, empty if the map does not have the key
abbrev pub bucket : {K V S : Type 0} → (K → K → Bool) → IndexMap K (List V) S → K → List V
bucket eq m k = items_in (get eq m k)

-- the map has a key exactly if the key has an item: no key is left with an empty list
abbrev pub HasNoEmptyList : {K V S : Type 0} → (K → K → Bool) → IndexMap K (List V) S → Type 0
HasNoEmptyList eq m = (k : _) → is_some (get eq m k) ≡ nat_lt 0 (length (bucket eq m k))
