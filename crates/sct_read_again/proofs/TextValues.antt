-- The strings of a JSON value are UTF-8. Proof plumbing.
use Rattle.std.specs.Prelude.{◌≡◌, ℕ, List, Some, IsUtf8}
use Rattle.serde_json.specs.Data.{Data, null, boolean, number, string, array, object, Items, no_items, item, Members, no_members, member}
use Rattle.serde_json.specs.Read.{read}

abbrev mutual
  pub AreTexts : Data → Type 0
  AreTexts null = Unit {0}
  AreTexts (boolean b) = Unit {0}
  AreTexts (number n) = Unit {0}
  AreTexts (string s) = IsUtf8 s
  AreTexts (array ds) = ItemsAreTexts ds
  AreTexts (object ms) = MembersAreTexts ms

  pub ItemsAreTexts : Items → Type 0
  ItemsAreTexts no_items = Unit {0}
  ItemsAreTexts (item d ds) = AreTexts d × ItemsAreTexts ds

  pub MembersAreTexts : Members → Type 0
  MembersAreTexts no_members = Unit {0}
  MembersAreTexts (member k d ms) = AreTexts d × MembersAreTexts ms

-- the strings of the value of a text are texts
abbrev pub ValuesAreTexts : Type 0
ValuesAreTexts = (bytes : List ℕ) (value : Data) → IsUtf8 bytes → read bytes ≡ Some value → AreTexts value
