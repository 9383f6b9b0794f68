-- The text of a version vector: `-`, or pairs of an origin and its count, as in `1:2,3:1`. Read by an auditor. Scripts and
-- commands use it. The law `a_written_vector_is_read_back` says that a text that is written is read as what was written.
use Rattle.std.specs.Prelude.{ℕ, zero, suc, ◌≡◌, ◌+◌, ◌<◌, ◌^◌, ◌==◌, ◌++◌, Bool, true, List, [], ◌∷◌, take, drop, flat_map, nat_eq, nat_lt, position, codes, decimal, Option, Some, None, is_some, option_map, option_and_then, if◌then◌else◌}
use Rattle.std.specs.Cmp.Lexicographic.{pointwise}
use Rattle.std.specs.List.{slice_split}
use Rattle.sct_delta.specs.Sites.{is_site, most_sites}
use Rattle.sct_delta.specs.Shapes.{count_among, vector_refusal}
use Rattle.sct_delta.specs.TextLines.{number_in}

-- an origin and its count
abbrev pub Pair : Type 0
Pair = ℕ × ℕ

abbrev pub is_colon : ℕ → Bool
is_colon byte = byte == 58

abbrev pub is_comma : ℕ → Bool
is_comma byte = byte == 44

-- ---- the text that is written

-- pairs and one more, if its count is not 0
abbrev pub with_pair : List Pair → ℕ → ℕ → List Pair
with_pair pairs origin count = if nat_lt 0 count then pairs ++ (origin, count) ∷ [] else pairs

-- the pairs of the origins from 1 to a last one that have an entry
abbrev pub pairs_to : (ℕ → ℕ) → ℕ → List Pair
pairs_to count zero = []
pairs_to count (suc before) = with_pair (pairs_to count before) (suc before) (count (suc before))

-- the pairs of all origins that have an entry, ascending
abbrev pub pairs_of : (ℕ → ℕ) → List Pair
pairs_of count = pairs_to count most_sites

abbrev pub pair_text : Pair → List ℕ
pair_text pair = decimal pair.0 ++ 58 ∷ decimal pair.1

-- pairs with a comma (44) between each two
abbrev pub joined_pairs : List Pair → List ℕ
joined_pairs [] = []
joined_pairs (pair ∷ pairs) = pair_text pair ++ flat_map (λ next. 44 ∷ pair_text next) pairs

-- the text of pairs; `-` if there are none
abbrev pub pairs_text : List Pair → List ℕ
pairs_text [] = codes "-"
pairs_text (pair ∷ pairs) = joined_pairs (pair ∷ pairs)

-- the text of a version vector that counts so many entries of each origin
unfoldable pub vector_text : (ℕ → ℕ) → List ℕ
vector_text count = pairs_text (pairs_of count)

-- ---- the text that is read

-- the origin of this number; none if no site has it
abbrev pub origin_named : ℕ → Option ℕ
origin_named number = if is_site number then Some number else None

-- the origin that a text names by its number
abbrev pub origin_of_text : List ℕ → Option ℕ
origin_of_text text = option_and_then origin_named (number_in text)

abbrev pub pair_with : ℕ → Option ℕ → Option Pair
pair_with origin count = option_map (λ n. (origin, n)) count

abbrev pub pair_to : Option ℕ → List ℕ → Option Pair
pair_to None text = None
pair_to (Some at) text =
    option_and_then (λ origin. pair_with origin (number_in (drop (at + 1) text)))
    (origin_of_text (take at text))

-- an origin and its count, with a colon between them; a count may be 0
unfoldable pub pair_in : List ℕ → Option Pair
pair_in text = pair_to (position is_colon text) text

abbrev pub onto_pairs : Option (List Pair) → Option Pair → Option (List Pair)
onto_pairs pairs None = None
onto_pairs pairs (Some pair) = option_map (λ others. pair ∷ others) pairs

-- the pair of each part; none if a part is not a pair
abbrev pub pairs_among : List (List ℕ) → Option (List Pair)
pairs_among [] = Some []
pairs_among (part ∷ parts) = onto_pairs (pairs_among parts) (pair_in part)

-- the pairs of a text: no pairs, written `-`, or pairs separated by commas
unfoldable pub pairs_in : List ℕ → Option (List Pair)
pairs_in text = if pointwise nat_eq text (codes "-") then Some [] else pairs_among (slice_split is_comma text)

-- pairs that make a version vector: their origins ascend
unfoldable pub vector_of_pairs : List Pair → Option (List Pair)
vector_of_pairs pairs = if is_some (vector_refusal pairs) then None else Some pairs

-- the pairs of the version vector that a text writes; none if it does not write one
unfoldable pub vector_in : List ℕ → Option (List Pair)
vector_in text = option_and_then vector_of_pairs (pairs_in text)

-- how many entries of each origin a version vector of these pairs counts
abbrev pub counts_of : List Pair → ℕ → ℕ
counts_of pairs = λ origin. count_among pairs origin 0

-- ---- the law

-- a text that is written is read as the pairs that were written
abbrev pub IsReadBack : Type 0
IsReadBack =
    (count : ℕ → ℕ) → ((origin : ℕ) → count origin < 2 ^ 64) → vector_in (vector_text count) ≡ Some (pairs_of count)

-- and the pairs count at each site what was counted
abbrev pub CountsTheSame : Type 0
CountsTheSame = (count : ℕ → ℕ) (origin : ℕ) → is_site origin ≡ true → counts_of (pairs_of count) origin ≡ count origin
