-- Read by an auditor: the members of a list in ascending order, for keys of any type.
-- It is used by every ordered answer about a set: the contradictions of an archive, the findings of a transfer, the
-- look-ups of a view and the texts of a site. The crates above cite it from here.
use Rattle.std.specs.Prelude.{◌≡◌, ◌↔◌, List, Contains, map}
use Rattle.std.specs.declared.cmp.Ordering.{Ordering}
use Rattle.std.specs.FinMap as finite
use Rattle.std.specs.List.Sorted.{IsStrictlySortedBy}

-- each key with the unit value, as an entry of a map that holds keys alone
abbrev pub alone : {K : Type 0} → List K → List (K × Unit {0})
alone ks = map (λ k. (k, tt)) ks

-- The members of a list, each once, in ascending order. This computes the list by a map. The law
-- `ascending_is_the_sorted_list` says what the list is, and an auditor may read that law in place of this definition.
unfoldable pub ascending : {K : Type 0} → (K → K → Ordering) → List K → List K
ascending R ks = finite.keys (finite.from_entries {R = R} (alone ks))

-- The sorted list ascends strictly, and has exactly the members of the list.
pub record IsAscendingListOf {K : Type 0} (R : K → K → Ordering) (ks sorted : List K) : Type 0 where
  pub members : (k : K) → Contains sorted k ↔ Contains ks k
  pub ascends : IsStrictlySortedBy R sorted

-- one list alone ascends strictly and has these members: the one that is computed
abbrev pub IsTheAscendingList : {K : Type 0} → (K → K → Ordering) → List K → Type 0
IsTheAscendingList R ks = (sorted : List _) → IsAscendingListOf R ks sorted ↔ (sorted ≡ ascending R ks)
