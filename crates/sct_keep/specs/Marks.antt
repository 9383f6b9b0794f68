-- Groups of messages that are kept, by their labels. Proof plumbing: no public clause uses it.
use Rattle.std.specs.Prelude.{◌≡◌, ◌<◌, ◌≤◌, ◌⊎◌, ℕ, Bool, true, false, List, length, Some, Contains, slice_get, slice_index, slice_index_or}
use Rattle.indexmap.specs.IndexMap.{IndexMap}
use Rattle.sct_message.specs.Keys.{transfers_of}
use Rattle.sct_message.specs.Sets.{MessageSet}
use Rattle.sct_message.specs.declared.draft.Draft.{Draft}
use Rattle.sct_message.specs.declared.keys.TransferKey.{TransferKey}
use Rattle.sct_view.specs.Kept.{same_key}
use Rattle.sct_keep.specs.Done.{is_before, is_settled}
use Rattle.sct_keep.specs.Keep.{IsOpen}
use Rattle.sct_keep.specs.Ties.{HasFirst}

-- the label is marked
abbrev pub is_marked : List Bool → ℕ → Bool
is_marked marks label = slice_index_or marks label false

-- each number has a mark for its label
abbrev pub HaveMarks : List ℕ → List Bool → Type 0
HaveMarks labels marks = (i : ℕ) → i < length labels → slice_index labels i < length marks

-- The labels of some numbers are marked, and no others.
pub record AreMarkedMore (numbers : ℕ → Type 0) (labels : List ℕ) (old new : List Bool) : Type 0 where
  pub count : length new ≡ length old
  pub each : (i : ℕ) → numbers i → is_marked new (slice_index labels i) ≡ true
  pub stay : (l : ℕ) → is_marked old l ≡ true → is_marked new l ≡ true
  pub only : (l : ℕ) → is_marked new l ≡ true → (is_marked old l ≡ true) ⊎ ((i : ℕ) × numbers i × (slice_index labels i ≡ l))

-- the message at the number is on a transfer, and is not from before the day
abbrev pub IsLate : List ℕ → List Draft → ℕ → Type 0
IsLate day ms i = (m : Draft) × (slice_get ms i ≡ Some m) × (1 ≤ length (transfers_of m)) × (is_before day m ≡ false)

-- the number is that of a transfer of the list that is not settled
abbrev pub IsUnsettled : {S : Type 0} → MessageSet → IndexMap TransferKey (List ℕ) S → List TransferKey → ℕ → Type 0
IsUnsettled held first transfers i = (t : TransferKey) × Contains transfers t × (is_settled held t ≡ false) × HasFirst same_key first t i

-- the message at the number is on a transfer that is not done
abbrev pub IsOpenAt : List ℕ → MessageSet → List Draft → ℕ → Type 0
IsOpenAt day held ms i = (m : Draft) × (slice_get ms i ≡ Some m) × IsOpen day held m

-- A label is marked exactly if a message of that label is on a transfer that is not done.
pub record AreMarks (day : List ℕ) (held : MessageSet) (ms : List Draft) (labels : List ℕ) (marked : ℕ → Bool) : Type 0 where
  pub each : (i : ℕ) → IsOpenAt day held ms i → marked (slice_index labels i) ≡ true
  pub only : (l : ℕ) → marked l ≡ true → (i : ℕ) × (i < length ms) × (slice_index labels i ≡ l) × IsOpenAt day held ms i

-- The messages whose labels pass a test, and no others.
pub record AreLabelled (ms : List Draft) (labels : List ℕ) (passes : ℕ → Bool) (some : List Draft) : Type 0 where
  pub each : (i : ℕ) (m : Draft) → slice_get ms i ≡ Some m → passes (slice_index labels i) ≡ true → Contains some m
  pub only : (m : Draft) → Contains some m → (i : ℕ) × (slice_get ms i ≡ Some m) × (passes (slice_index labels i) ≡ true)
