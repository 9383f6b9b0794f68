-- Messages in groups of those that are tied, by their numbers in a list. Proof plumbing: no public clause uses it.
use Rattle.std.specs.Prelude.{◌≡◌, ◌<◌, ◌⊎◌, ◌∷◌, [], ℕ, Bool, List, length, Some, Contains, slice_get, slice_index}
use Rattle.indexmap.specs.IndexMap.{IndexMap}
use Rattle.sct_message.specs.Keys.{identity_of, transfers_of}
use Rattle.sct_message.specs.contracts.keys.IdentityPartialEq.TheImpl as identities
use Rattle.sct_message.specs.declared.draft.Draft.{Draft}
use Rattle.sct_message.specs.declared.keys.Identity.{Identity}
use Rattle.sct_message.specs.declared.keys.TransferKey.{TransferKey}
use Rattle.sct_set.specs.Buckets.{bucket}
use Rattle.sct_view.specs.Kept.{same_key}
use Rattle.sct_keep.specs.Keep.{AreTied}
use Rattle.sct_keep.specs.Trees.{AreJoined, AreParents, IsConstant}

abbrev pub same_id : Identity → Identity → Bool
same_id = identities.ghosts.eq

-- the identity of a message, as a list of keys
abbrev pub identities_of : Draft → List Identity
identities_of m = identity_of m ∷ []

-- the map has this number at the key
abbrev pub HasFirst : {K S : Type 0} → (K → K → Bool) → IndexMap K (List ℕ) S → K → ℕ → Type 0
HasFirst eq first k i = slice_get (bucket eq first k) 0 ≡ Some i

-- What a number more does at some keys: at each of them it is joined with the key's number, or becomes it.
pub record IsTiedBy {K S : Type 0} (eq : K → K → Bool) (old new : IndexMap K (List ℕ) S) (before after : List ℕ) (keys : List K) (number : ℕ) : Type 0 where
  pub count : length after ≡ length before
  pub parents : AreParents after
  pub filed : (k : K) → Contains keys k → (i : ℕ) × HasFirst eq new k i × AreJoined after i number
  pub stay : (k : K) (i : ℕ) → HasFirst eq old k i → HasFirst eq new k i
  pub come : (k : K) (i : ℕ) → HasFirst eq new k i → HasFirst eq old k i ⊎ (Contains keys k × (i ≡ number))
  pub trees : (f : ℕ → ℕ) → IsConstant f after → IsConstant f before
  pub no_more : (f : ℕ → ℕ) → IsConstant f before
      → ((k : K) (i : ℕ) → Contains keys k → HasFirst eq old k i → f i ≡ f number) → IsConstant f after

-- the function has one value at messages that are tied
abbrev pub Respects : (ℕ → ℕ) → List Draft → Type 0
Respects f ms = (i j : ℕ) (one other : Draft) → slice_get ms i ≡ Some one → slice_get ms j ≡ Some other → AreTied one other → f i ≡ f j

-- Labels of the messages of a list: tied messages have one label, and no label is told apart from its messages by a
-- function that has one value at tied messages.
pub record AreGroups (ms : List Draft) (labels : List ℕ) : Type 0 where
  pub count : length labels ≡ length ms
  pub within : (i : ℕ) → i < length ms → slice_index labels i < length ms
  pub tied : Respects (slice_index labels) ms
  pub same : (f : ℕ → ℕ) → Respects f ms → (i : ℕ) → i < length ms → f (slice_index labels i) ≡ f i

-- at each transfer of the messages the number of one of them, and none at other transfers
pub record AreFirsts {S : Type 0} (ms : List Draft) (first : IndexMap TransferKey (List ℕ) S) : Type 0 where
  pub each : (j : ℕ) (m : Draft) → slice_get ms j ≡ Some m → (k : TransferKey) → Contains (transfers_of m) k → (i : ℕ) × HasFirst same_key first k i
  pub of : (k : TransferKey) (i : ℕ) → HasFirst same_key first k i → (m : Draft) × (slice_get ms i ≡ Some m) × Contains (transfers_of m) k
