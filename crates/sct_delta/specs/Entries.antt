-- Entries and lists of entries: logs, arrivals, deltas. Read by an auditor. Logs, sites and worlds use these words.
use Rattle.std.specs.FinSet as set
use Rattle.std.specs.Prelude.{◌≡◌, ◌≤◌, ◌+◌, ◌&&◌, ℕ, Bool, List, [], ◌∷◌, map, filter, length, nat_eq, IsTrue}
use Rattle.std.specs.List.{list_any, list_all}
use Rattle.std.specs.List.Sorted.{IsStrictlySortedBy}
use Rattle.std.specs.Ordering.{nat_cmp, ordering_then}
use Rattle.std.specs.declared.cmp.Ordering.{Ordering}
use Rattle.sct_message.specs.declared.draft.Draft.{Draft}
use Rattle.sct_message.specs.Order.{same_message}
use Rattle.sct_message.specs.Sets.{MessageSet}
use Rattle.sct_delta.specs.Sites.{is_site}

-- An entry: a message with the number that its origin gave it. Numbers count from 1 at each origin.
pub record Placed : Type 0 where
  pub origin : ℕ
  pub n : ℕ
  pub message : Draft

-- ---- entries of one origin

abbrev pub is_from : ℕ → Placed → Bool
is_from origin entry = nat_eq entry.origin origin

-- the entries of an origin, in their order
abbrev pub entries_from : ℕ → List Placed → List Placed
entries_from origin entries = filter (is_from origin) entries

-- the messages of the entries of an origin
abbrev pub log_of : ℕ → List Placed → List Draft
log_of origin entries = map (λ entry. entry.message) (entries_from origin entries)

-- how many entries of an origin there are: the version vector, as a function
abbrev pub held_from : ℕ → List Placed → ℕ
held_from origin entries = length (entries_from origin entries)

-- messages as the entries of an origin, numbered from n upwards
abbrev pub numbered : ℕ → ℕ → List Draft → List Placed
numbered origin n [] = []
numbered origin n (message ∷ rest) = record { origin = origin; n = n; message = message } ∷ numbered origin (n + 1) rest

-- ---- entries as a set

-- the same origin, number and message
abbrev pub same_entry : Placed → Placed → Bool
same_entry a b = nat_eq a.origin b.origin && (nat_eq a.n b.n && same_message a.message b.message)

-- the entry is in the list
abbrev pub holds : List Placed → Placed → Bool
holds entries entry = list_any (λ held. same_entry held entry) entries

-- the messages of a list of entries, as a set
abbrev pub messages_of : List Placed → MessageSet
messages_of entries = set.from_list (map (λ entry. entry.message) entries)

-- ---- the shapes of lists of entries

-- Arrivals: the entries of each origin are in the list as 1, 2, 3 and so on.
abbrev pub IsArrivals : List Placed → Type 0
IsArrivals entries = (origin : ℕ) → entries_from origin entries ≡ numbered origin 1 (log_of origin entries)

-- The entries of an origin are in the list with numbers that follow each other without a hole. No number is 0.
pub record HasNoHole (origin : ℕ) (entries : List Placed) : Type 0 where
  pub first : ℕ
  pub above_0 : 1 ≤ first
  pub follow : entries_from origin entries ≡ numbered origin first (log_of origin entries)

-- entries are ordered by origin and then by number
abbrev pub place_order : Placed → Placed → Ordering
place_order a b = ordering_then (nat_cmp a.origin b.origin) (nat_cmp a.n b.n)

-- A delta: its entries are of sites and ascend by origin and number, and the numbers of each origin have no hole.
pub record IsDelta (entries : List Placed) : Type 0 where
  pub runs : (origin : ℕ) → HasNoHole origin entries
  pub rises : IsStrictlySortedBy place_order entries
  pub sites : IsTrue (list_all (λ entry. is_site entry.origin) entries)
