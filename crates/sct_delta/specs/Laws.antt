-- Laws of logs and deltas, in terms of sets of entries. Read by an auditor. Each law is the contract of a function.
use Rattle.std.specs.Prelude.{◌≡◌, ◌↔◌, ◌≤◌, ◌<◌, ◌+◌, ◌&&◌, ◌||◌, ℕ, true, List, [], map, take, Some, None, nat_lt}
use Rattle.std.specs.List.Sorted.{IsStrictlySortedBy}
use Rattle.std.specs.Ordering.{nat_cmp}
use Rattle.sct_message.specs.declared.draft.Draft.{Draft}
use Rattle.sct_delta.specs.Entries.{Placed, holds, IsDelta}
use Rattle.sct_delta.specs.Refusals.{is_held, has_site, vector_of, first_refusal, gap_refusal, joined, IsCut}
use Rattle.sct_delta.specs.Shapes.{are_of_sites, are_origins_sites, delta_refusal, vector_refusal}
use Rattle.sct_delta.specs.declared.fault.DeltaFault.TheVariants as fault

-- the logs of one site
abbrev pub Held : Type 0
Held = ℕ → List Draft

-- ---- what logs hold

-- An entry of an origin and number is in the set.
pub record IsThere (held : Placed → Type 0) (origin n : ℕ) : Type 0 where
  pub message : Draft
  pub is_held : held (record { origin = origin; n = n; message = message })

-- An entry set: the numbers of each origin are 1 to some count, each with one message.
pub record IsEntrySet (held : Placed → Type 0) (count : ℕ → ℕ) : Type 0 where
  pub within : (entry : Placed) → held entry → (1 ≤ entry.n) × (entry.n ≤ count entry.origin)
  pub each : (origin n : ℕ) → 1 ≤ n → n ≤ count origin → IsThere held origin n
  pub once : (a b : Placed) → held a → held b → a.origin ≡ b.origin → a.n ≡ b.n → a ≡ b

-- the entries of logs are an entry set, and the vector is its counts
abbrev pub AreEntrySet : Type 0
AreEntrySet = (log : Held) → IsEntrySet (λ entry. is_held log entry ≡ true) (vector_of log)

-- ---- when a delta is refused

-- A delta has an entry of the origin that is at most the next one.
pub record IsReached (log : Held) (delta : List Placed) (origin : ℕ) : Type 0 where
  pub entry : Placed
  pub among : holds delta entry ≡ true
  pub from : entry.origin ≡ origin
  pub reached : entry.n ≤ vector_of log origin + 1

-- A delta fits the site `own` of a group in this case: each of its entries is of a site of the group; no own entry is
-- above the own count; each origin that has an entry has one that is at most the next one of that origin; and a number
-- that is held is held with the same message.
pub record IsFitting (own group : ℕ) (log : Held) (delta : List Placed) : Type 0 where
  pub inside : (entry : Placed) → holds delta entry ≡ true → has_site group entry.origin ≡ true
  pub known : (entry : Placed) → holds delta entry ≡ true → entry.origin ≡ own → entry.n ≤ vector_of log own
  pub no_gap : (entry : Placed) → holds delta entry ≡ true → IsReached log delta entry.origin
  pub no_fork : (entry : Placed) → holds delta entry ≡ true → entry.n ≤ vector_of log entry.origin → is_held log entry ≡ true

-- a delta is refused exactly if it does not fit
abbrev pub IsRefusedWhereItDoesNotFit : Type 0
IsRefusedWhereItDoesNotFit =
    (own group : ℕ) (log : Held) (delta : List Placed) → IsDelta delta
    → (first_refusal own group log delta ≡ None) ↔ IsFitting own group log delta

-- ---- which refusal is reported

-- The least number that a delta has of an origin is past the next number of that origin.
pub record IsGap (log : Held) (delta : List Placed) (origin least : ℕ) : Type 0 where
  pub message : Draft
  pub among : holds delta (record { origin = origin; n = least; message = message }) ≡ true
  pub none_below : (entry : Placed) → holds delta entry ≡ true → entry.origin ≡ origin → least ≤ entry.n
  pub past : vector_of log origin + 1 < least

-- No lower origin has a gap.
pub record IsFirstGap (log : Held) (delta : List Placed) (origin least : ℕ) : Type 0 where
  pub gap : IsGap log delta origin least
  pub first : (other number : ℕ) → IsGap log delta other number → origin ≤ other

-- A delta's gap is reported with the first origin that has one, with its count, and with its least number in the delta.
abbrev pub ReportsTheFirstGap : Type 0
ReportsTheFirstGap =
    (log : Held) (delta : List Placed) (origin have least : ℕ) → IsDelta delta
    → (gap_refusal log delta ≡ Some (fault.Gap origin have least))
    ↔ ((have ≡ vector_of log origin) × IsFirstGap log delta origin least)

-- A list has a property up to a place, counted from 1: without the element at the place it has it, and with that
-- element it does not.
pub record EndsAt {X : Type 0} (P : List X → Type 0) (xs : List X) (place : ℕ) : Type 0 where
  pub before : (count : ℕ) → count < place → P (take count xs)
  pub at : ¬ (P (take place xs))

-- Entries of sites are refused with the place at which they stop being a delta.
abbrev pub ReportsTheFirstEntry : Type 0
ReportsTheFirstEntry =
    (entries : List Placed) (place : ℕ)
    → (delta_refusal entries ≡ Some (fault.BadDelta place)) ↔ ((are_of_sites entries ≡ true) × EndsAt IsDelta entries place)

-- pairs that make a version vector: their origins are sites and ascend strictly
pub record MakeVector (pairs : List (ℕ × ℕ)) : Type 0 where
  pub sites : are_origins_sites pairs ≡ true
  pub ascend : IsStrictlySortedBy nat_cmp (map (λ pair. pair.0) pairs)

-- pairs without a refusal are those that make a version vector
abbrev pub PairsMakeAVector : Type 0
PairsMakeAVector = (pairs : List (ℕ × ℕ)) → (vector_refusal pairs ≡ None) ↔ MakeVector pairs

-- Pairs of sites are refused with the place at which they stop making a version vector.
abbrev pub ReportsTheFirstPair : Type 0
ReportsTheFirstPair =
    (pairs : List (ℕ × ℕ)) (place : ℕ)
    → (vector_refusal pairs ≡ Some (fault.BadDelta place)) ↔ ((are_origins_sites pairs ≡ true) × EndsAt MakeVector pairs place)

-- ---- cutting and joining

-- a cut above a vector has exactly the entries that are held and numbered above the vector's count of their origin
abbrev pub CutsWhatIsAbove : Type 0
CutsWhatIsAbove =
    (log : Held) (count : ℕ → ℕ) (delta : List Placed) → IsCut log count delta
    → (entry : Placed) → holds delta entry ≡ (is_held log entry && nat_lt (count entry.origin) entry.n)

-- a cut above a site's own vector is empty
abbrev pub CutsNothingForItself : Type 0
CutsNothingForItself = (log : Held) (delta : List Placed) → IsCut log (vector_of log) delta → delta ≡ []

-- A delta that fits is joined as a set: an entry is held afterwards exactly if it was held before or is in the delta.
abbrev pub JoinsBothSides : Type 0
JoinsBothSides =
    (own group : ℕ) (log : Held) (delta : List Placed) → IsDelta delta → first_refusal own group log delta ≡ None
    → (entry : Placed) → is_held (joined log delta) entry ≡ (is_held log entry || holds delta entry)

-- every entry that was held is held afterwards
abbrev pub KeepsWhatWasHeld : Type 0
KeepsWhatWasHeld =
    (log : Held) (delta : List Placed) (entry : Placed) → is_held log entry ≡ true → is_held (joined log delta) entry ≡ true

-- A delta that was joined fits again, and joining it again changes nothing.
pub record IsJoinedAgain (own group : ℕ) (log : Held) (delta : List Placed) : Type 0 where
  pub fits : first_refusal own group log delta ≡ None
  pub same : (origin : ℕ) → joined log delta origin ≡ log origin

abbrev pub JoinsOnce : Type 0
JoinsOnce =
    (own group : ℕ) (log : Held) (delta : List Placed) → IsDelta delta → first_refusal own group log delta ≡ None
    → IsJoinedAgain own group (joined log delta) delta

-- A site that holds the entries of another up to a vector, and joins the other's cut above
-- that vector, holds all entries of the other.
abbrev pub CatchesUp : Type 0
CatchesUp =
    (own group : ℕ) (mine theirs : Held) (count : ℕ → ℕ) (delta : List Placed) → IsDelta delta → IsCut theirs count delta
    → first_refusal own group mine delta ≡ None
    → ((entry : Placed) → is_held theirs entry ≡ true → entry.n ≤ count entry.origin → is_held mine entry ≡ true)
    → (entry : Placed) → is_held theirs entry ≡ true → is_held (joined mine delta) entry ≡ true

-- no number has two messages in the two deltas
abbrev pub NameAlike : List Placed → List Placed → Type 0
NameAlike a b =
    (x y : Placed) → holds a x ≡ true → holds b y ≡ true → x.origin ≡ y.origin → x.n ≡ y.n → x ≡ y

-- One delta after the other: the second fits after the first was joined, and the result is that of the other order.
pub record JoinAlike (own group : ℕ) (log : Held) (a b : List Placed) : Type 0 where
  pub second_fits : first_refusal own group (joined log a) b ≡ None
  pub same : (origin : ℕ) → joined (joined log a) b origin ≡ joined (joined log b) a origin

-- if two deltas both fit, and no number has two messages in them, they can be joined in either order with one result
abbrev pub JoinsInAnyOrder : Type 0
JoinsInAnyOrder =
    (own group : ℕ) (log : Held) (a b : List Placed) → IsDelta a → IsDelta b → first_refusal own group log a ≡ None
    → first_refusal own group log b ≡ None → NameAlike a b → JoinAlike own group log a b
