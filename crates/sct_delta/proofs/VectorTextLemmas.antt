-- The text of a version vector: parts between commas, pairs, and the text that is read back. Proof plumbing.
use Rattle.std.proofs.Common.{ℕ, zero, suc, ◌≡◌, ◌≢◌, ◌+◌, ◌<◌, ◌≤◌, ◌^◌, ◌++◌, ◌∷◌, [], Bool, true, false, cond, List, Option, Some, None, length, map, take, drop, refl, sym, ap, ◌∙◌, append_assoc, arith, nat_eq, length-append}
use Rattle.std.specs.Prelude.{option_map, position, nat_lt, nat_le, decimal, codes, flat_map, All}
use Rattle.std.specs.Char.{digit_value}
use Rattle.std.specs.Cmp.Lexicographic.{pointwise}
use Rattle.std.specs.Str.Parse.{AllDigits}
use Rattle.std.specs.List.{position_or_len, slice_split}
use Rattle.std.proofs.lemmas.Bool.{and_from, and_parts, eqb-true}
use Rattle.std.proofs.lemmas.Bool.Decides.{nat_tests}
use Rattle.std.proofs.lemmas.Fmt.{decimal_nonempty, digits_decimal}
use Rattle.std.proofs.lemmas.Grind.{flat_map-append}
use Rattle.std.proofs.lemmas.List.{append-nil}
use Rattle.std.proofs.lemmas.List.Elements.{All-cons}
use Rattle.std.proofs.lemmas.List.Splits.{slice_split_at, slice_split_first, slice_split_none}
use Rattle.std.proofs.Math.Seq.{take-append_seam, drop-append-add}
use Rattle.sct_delta.specs.Shapes.{are_origins_sites, count_among, first_fall, vector_refusal}
use Rattle.sct_delta.specs.Sites.{is_site, most_sites}
use Rattle.sct_delta.specs.VectorText.{CountsTheSame, IsReadBack, Pair, is_colon, is_comma, joined_pairs, pair_in, pair_text, pairs_among, pairs_in, pairs_of, pairs_text, pairs_to, vector_in, vector_of_pairs, vector_text, with_pair}
use Rattle.sct_delta.proofs.TextLemmas.{number_read, numerals, passed, site_below}
use Rattle.sct_delta.proofs.ShapeLemmas.{unbroken}

-- pairs in front of the others
abbrev pub before_pairs : List Pair → Option (List Pair) → Option (List Pair)
before_pairs some pairs = option_map (λ others. some ++ others) pairs

-- ---- parts

pub first_comma : (text : List ℕ) (at : ℕ) → position is_comma text ≡ Some at → slice_split is_comma text ≡ take at text ∷ slice_split is_comma (drop (at + 1) text)
first_comma text at found =
    let parts : (nat_lt (position_or_len is_comma text) (length text) ≡ true) × (Some (position_or_len is_comma text) ≡ Some at) = passed _ _ _ found in
    let same : position_or_len is_comma text ≡ at = cc in
    let within : position_or_len is_comma text < length text = grind (arith, nat_tests, parts.0) in
    rw (← same) (slice_split_first is_comma text 0 within)

failed : {A : Type 0} (b : Bool) (x : A) → cond b (Some x) None ≡ None → b ≡ false
failed true x e = cc
failed false x e = refl

later : (n byte : ℕ) (bytes : List ℕ) → nat_lt (1 + n) (length (byte ∷ bytes)) ≡ false → nat_lt n (length bytes) ≡ false
later n byte bytes h = grind (arith, nat_tests, h)

at_front : (byte : ℕ) (bytes : List ℕ) → nat_lt 0 (length (byte ∷ bytes)) ≡ false → ⊥
at_front byte bytes h = grind (arith, nat_tests, h)

one_part : (text : List ℕ) → nat_lt (position_or_len is_comma text) (length text) ≡ false → slice_split is_comma text ≡ text ∷ []
one_part [] none = refl
one_part (byte ∷ bytes) none =
    (elim (is_comma byte) as (λ comma. is_comma byte ≡ comma → slice_split is_comma (byte ∷ bytes) ≡ (byte ∷ bytes) ∷ []) [
      | true ↦ λ comma. absurd (at_front byte bytes (rw comma at none))
      | false ↦ λ other. rw (other, one_part bytes (later _ byte bytes (rw other at none))) refl
    ]) refl

pub no_comma : (text : List ℕ) → position is_comma text ≡ None → slice_split is_comma text ≡ text ∷ []
no_comma text none = one_part text (failed _ _ none)

-- ---- the text of pairs

pub joined_one : (pair : Pair) → joined_pairs (pair ∷ []) ≡ pair_text pair
joined_one pair = append-nil (pair_text pair)

pub joined_more : (first : Pair) (pairs : List Pair) (pair : Pair) → joined_pairs ((first ∷ pairs) ++ pair ∷ []) ≡ joined_pairs (first ∷ pairs) ++ 44 ∷ pair_text pair
joined_more first pairs pair =
    ap (λ t. pair_text first ++ t) (flat_map-append (λ next. 44 ∷ pair_text next) pairs (pair ∷ []) ∙ ap (λ t. flat_map (λ next. 44 ∷ pair_text next) pairs ++ t) (append-nil (44 ∷ pair_text pair)))
    ∙ sym (append_assoc (pair_text first) (flat_map (λ next. 44 ∷ pair_text next) pairs) (44 ∷ pair_text pair))

-- a text of pairs is not empty
some_text : (s t : List ℕ) → 0 < length (s ++ 58 ∷ t)
some_text s t = omega (arith, length-append s (58 ∷ t))

pub none_joined : (pairs : List Pair) → joined_pairs pairs ≡ [] → pairs ≡ []
none_joined [] e = refl
none_joined (pair ∷ pairs) e =
    let size : length (joined_pairs (pair ∷ pairs)) ≡ 0 = ap length e in
    absurd (omega (arith, size, length-append (pair_text pair) (flat_map (λ next. 44 ∷ pair_text next) pairs), some_text (decimal pair.0) (decimal pair.1)))

-- the text of no pairs, and that of some
written_none : (pairs : List Pair) → joined_pairs pairs ≡ [] → pairs_text pairs ≡ codes "-"
written_none pairs none = ap pairs_text (none_joined pairs none)

written_some : (pairs : List Pair) → length (joined_pairs pairs) ≢ 0 → pairs_text pairs ≡ joined_pairs pairs
written_some [] some = absurd (some refl)
written_some (pair ∷ pairs) some = refl

pub no_bytes : (text : List ℕ) → length text ≡ 0 → text ≡ []
no_bytes [] e = refl
no_bytes (byte ∷ bytes) e = absurd (omega (arith, e))

pub vector_of_none : (count : ℕ → ℕ) (text : List ℕ) → text ≡ joined_pairs (pairs_of count) → length text ≡ 0 → codes "-" ≡ vector_text count
unfolding vector_text
vector_of_none count text is none = sym (written_none (pairs_of count) (sym is ∙ no_bytes text none))

pub vector_of_some : (count : ℕ → ℕ) (text : List ℕ) → text ≡ joined_pairs (pairs_of count) → length text ≢ 0 → text ≡ vector_text count
unfolding vector_text
vector_of_some count text is some = is ∙ sym (written_some (pairs_of count) (λ none. some (ap length is ∙ none)))

-- one origin more
module _ (pairs : List Pair) (origin k : ℕ) (text : List ℕ) (is : text ≡ joined_pairs pairs) where
  pub pair_none : nat_lt 0 k ≡ false → text ≡ joined_pairs (with_pair pairs origin k)
  pair_none none = is ∙ ap (λ (b : Bool). joined_pairs (cond b (pairs ++ (origin, k) ∷ []) pairs)) (sym none)

  pub pair_first : nat_lt 0 k ≡ true → length text ≡ 0 → pair_text (origin, k) ≡ joined_pairs (with_pair pairs origin k)
  pair_first some none =
      let empty : pairs ≡ [] = none_joined pairs (sym is ∙ no_bytes text none) in
      sym (ap (λ (b : Bool). joined_pairs (cond b (pairs ++ (origin, k) ∷ []) pairs)) some
      ∙ ap (λ (ps : List Pair). joined_pairs (ps ++ (origin, k) ∷ [])) empty
      ∙ joined_one (origin, k))

joined_last : (pairs : List Pair) (pair : Pair) → length (joined_pairs pairs) ≢ 0 → joined_pairs (pairs ++ pair ∷ []) ≡ joined_pairs pairs ++ 44 ∷ pair_text pair
joined_last [] pair some = absurd (some refl)
joined_last (first ∷ pairs) pair some = joined_more first pairs pair

pub pair_next : (pairs : List Pair) (origin k : ℕ) (text : List ℕ) → text ≡ joined_pairs pairs → nat_lt 0 k ≡ true → length text ≢ 0
    → text ++ 44 ∷ pair_text (origin, k) ≡ joined_pairs (with_pair pairs origin k)
pair_next pairs origin k text is more some =
    ap (λ t. t ++ 44 ∷ pair_text (origin, k)) is
    ∙ sym (ap (λ (b : Bool). joined_pairs (cond b (pairs ++ (origin, k) ∷ []) pairs)) more ∙ joined_last pairs (origin, k) (λ none. some (ap length is ∙ none)))

-- ---- a pair is read back

no_colon : (c : ℕ) → digit_value c < 10 → is_colon c ≡ false
no_colon c h = grind (arith, nat_tests)

no_comma_in : (c : ℕ) → digit_value c < 10 → is_comma c ≡ false
no_comma_in c h = grind (arith, nat_tests)

not_dash : (c : ℕ) → digit_value c < 10 → nat_eq c 45 ≡ false
not_dash c h = grind (arith, nat_tests)

digits_to_colon : (s rest : List ℕ) → AllDigits 10 s → position_or_len is_colon (s ++ 58 ∷ rest) ≡ length s
digits_to_colon [] rest h = refl
digits_to_colon (c ∷ cs) rest h = rw (no_colon c h.0, digits_to_colon cs rest h.1) (omega arith)

colon_behind : (s rest : List ℕ) → AllDigits 10 s → position is_colon (s ++ 58 ∷ rest) ≡ Some (length s)
colon_behind s rest h =
    let inside : nat_lt (length s) (length (s ++ 58 ∷ rest)) ≡ true = grind (arith, nat_tests, length-append s (58 ∷ rest)) in
    rw (digits_to_colon s rest h, inside) refl

-- a pair that a vector may have
pub record IsCounted (pair : Pair) : Type 0 where
  pub site : is_site pair.0 ≡ true
  pub small : pair.1 < 2 ^ 64

digits : (n : ℕ) → n < 2 ^ 64 → AllDigits 10 (decimal n)
digits n small = numerals.to (decimal n) (digits_decimal numerals n small)

pub pair_read : (pair : Pair) → IsCounted pair → pair_in (pair_text pair) ≡ Some pair
unfolding pair_in
pair_read pair is =
    let small : pair.0 < 2 ^ 64 = site_below pair.0 is.site in
    rw (
      colon_behind (decimal pair.0) (decimal pair.1) (digits pair.0 small),
      take-append_seam (decimal pair.0) (58 ∷ decimal pair.1),
      drop-append-add (decimal pair.0) (58 ∷ decimal pair.1) 1,
      number_read pair.0 small,
      number_read pair.1 is.small,
      is.site,
    ) refl

-- ---- and so are pairs

digits_no_comma : (s : List ℕ) → AllDigits 10 s → All (λ c. is_comma c ≡ false) s
digits_no_comma [] h = λ k d below. absurd (omega arith)
digits_no_comma (c ∷ cs) h = All-cons (λ (x : ℕ). is_comma x ≡ false) c cs (no_comma_in c h.0) (digits_no_comma cs h.1)

around_colon : (s t : List ℕ) → AllDigits 10 s → AllDigits 10 t → All (λ c. is_comma c ≡ false) (s ++ 58 ∷ t)
around_colon [] t first second = All-cons (λ (x : ℕ). is_comma x ≡ false) 58 t refl (digits_no_comma t second)
around_colon (c ∷ cs) t first second = All-cons (λ (x : ℕ). is_comma x ≡ false) c (cs ++ 58 ∷ t) (no_comma_in c first.0) (around_colon cs t first.1 second)

pair_no_comma : (pair : Pair) → IsCounted pair → All (λ c. is_comma c ≡ false) (pair_text pair)
pair_no_comma pair is = around_colon (decimal pair.0) (decimal pair.1) (digits pair.0 (site_below pair.0 is.site)) (digits pair.1 is.small)

-- each of the pairs is one
abbrev pub AreCounted : List Pair → Type 0
AreCounted [] = Unit {0}
AreCounted (pair ∷ pairs) = IsCounted pair × AreCounted pairs

parts_of : (first : Pair) (pairs : List Pair) → AreCounted (first ∷ pairs) → slice_split is_comma (joined_pairs (first ∷ pairs)) ≡ map pair_text (first ∷ pairs)
parts_of first [] are =
    ap (slice_split is_comma) (joined_one first) ∙ slice_split_none is_comma (pair_text first) (pair_no_comma first are.0)
parts_of first (pair ∷ pairs) are =
    slice_split_at is_comma (pair_text first) 44 (joined_pairs (pair ∷ pairs)) (pair_no_comma first are.0) refl
    ∙ ap (λ parts. pair_text first ∷ parts) (parts_of pair pairs are.1)

each_read : (pairs : List Pair) → AreCounted pairs → pairs_among (map pair_text pairs) ≡ Some pairs
each_read [] are = refl
each_read (pair ∷ pairs) are = rw (each_read pairs are.1, pair_read pair are.0) refl

first_digit : (s t : List ℕ) → 0 < length s → AllDigits 10 s → pointwise nat_eq (s ++ t) (codes "-") ≡ false
first_digit [] t some h = absurd (omega arith)
first_digit (c ∷ cs) t some h = rw (not_dash c h.0) refl

pub pairs_read : (pairs : List Pair) → AreCounted pairs → pairs_in (pairs_text pairs) ≡ Some pairs
unfolding pairs_in
pairs_read [] are = refl
pairs_read (first ∷ pairs) are =
    let small : first.0 < 2 ^ 64 = site_below first.0 are.0.site in
    let rest : List ℕ = flat_map (λ next. 44 ∷ pair_text next) pairs in
    let other : pointwise nat_eq (joined_pairs (first ∷ pairs)) (codes "-") ≡ false =
    ap (λ (t : List ℕ). pointwise nat_eq t (codes "-")) (append_assoc (decimal first.0) (58 ∷ decimal first.1) rest)
    ∙ first_digit (decimal first.0) ((58 ∷ decimal first.1) ++ rest) (decimal_nonempty first.0 small) (digits first.0 small) in
    ap (λ (b : Bool). cond b (Some []) (pairs_among (slice_split is_comma (joined_pairs (first ∷ pairs))))) other
    ∙ ap pairs_among (parts_of first pairs are)
    ∙ each_read (first ∷ pairs) are

-- ---- the pairs of a vector ascend

-- each origin is at most the last one
abbrev AreTo : ℕ → List Pair → Type 0
AreTo last [] = Unit {0}
AreTo last (pair ∷ pairs) = (pair.0 ≤ last) × AreTo last pairs

to_more : (last : ℕ) (pairs : List Pair) → AreTo last pairs → AreTo (suc last) pairs
to_more last [] are = tt
to_more last (pair ∷ pairs) are = (omega (arith, are.0), to_more last pairs are.1)

to_append : (last : ℕ) (pairs : List Pair) (pair : Pair) → AreTo last pairs → pair.0 ≤ last → AreTo last (pairs ++ pair ∷ [])
to_append last [] pair are at = (at, tt)
to_append last (first ∷ pairs) pair are at = (are.0, to_append last pairs pair are.1 at)

pairs_are_to : (count : ℕ → ℕ) (last : ℕ) → AreTo last (pairs_to count last)
pairs_are_to count zero = tt
pairs_are_to count (suc last) =
    elim (nat_lt 0 (count (suc last))) as (λ b. AreTo (suc last) (cond b (pairs_to count last ++ (suc last, count (suc last)) ∷ []) (pairs_to count last))) [
      | true ↦ to_append (suc last) (pairs_to count last) (suc last, count (suc last)) (to_more last (pairs_to count last) (pairs_are_to count last)) (omega arith)
      | false ↦ to_more last (pairs_to count last) (pairs_are_to count last)
    ]

counted_append : (pairs : List Pair) (pair : Pair) → AreCounted pairs → IsCounted pair → AreCounted (pairs ++ pair ∷ [])
counted_append [] pair are is = (is, tt)
counted_append (first ∷ pairs) pair are is = (are.0, counted_append pairs pair are.1 is)

site_to : (last : ℕ) → suc last ≤ 1024 → is_site (suc last) ≡ true
site_to last at = grind (arith, nat_tests)

pairs_are_counted : (count : ℕ → ℕ) → ((o : ℕ) → count o < 2 ^ 64) → (last : ℕ) → last ≤ 1024 → AreCounted (pairs_to count last)
pairs_are_counted count small zero at = tt
pairs_are_counted count small (suc last) at =
    let before : AreCounted (pairs_to count last) = pairs_are_counted count small last (omega (arith, at)) in
    elim (nat_lt 0 (count (suc last))) as (λ b. AreCounted (cond b (pairs_to count last ++ (suc last, count (suc last)) ∷ []) (pairs_to count last))) [
      | true ↦ counted_append (pairs_to count last) (suc last, count (suc last)) before (record { site = site_to last at; small = small (suc last) })
      | false ↦ before
    ]

sites_of : (pairs : List Pair) → AreCounted pairs → are_origins_sites pairs ≡ true
sites_of [] are = refl
sites_of (pair ∷ pairs) are = and_from _ _ are.0.site (sites_of pairs are.1)

below_next : (n last : ℕ) → n ≤ last → nat_lt n (suc last) ≡ true
below_next n last at = grind (arith, nat_tests)

falls_append : (last place before : ℕ) (pairs : List Pair) (k : ℕ) → AreTo last pairs → before ≤ last → first_fall place before pairs ≡ None
    → first_fall place before (pairs ++ (suc last, k) ∷ []) ≡ None
falls_append last place before [] k are at none = rw (below_next before last at) refl
falls_append last place before (pair ∷ pairs) k are at none =
    let parts : (nat_lt before pair.0 ≡ true) × (first_fall (place + 1) pair.0 pairs ≡ None) = unbroken (nat_lt before pair.0) (first_fall (place + 1) pair.0 pairs) place none in
    ap (λ (b : Bool). cond b (first_fall (place + 1) pair.0 (pairs ++ (suc last, k) ∷ [])) (Some place)) parts.0
    ∙ falls_append last (place + 1) pair.0 pairs k are.1 are.0 parts.1

no_fall : (count : ℕ → ℕ) (last : ℕ) → first_fall 1 0 (pairs_to count last) ≡ None
no_fall count zero = refl
no_fall count (suc last) =
    elim (nat_lt 0 (count (suc last))) as (λ b. first_fall 1 0 (cond b (pairs_to count last ++ (suc last, count (suc last)) ∷ []) (pairs_to count last)) ≡ None) [
      | true ↦ falls_append last 1 0 (pairs_to count last) (count (suc last)) (pairs_are_to count last) (omega arith) (no_fall count last)
      | false ↦ no_fall count last
    ]

pub read_back : IsReadBack
unfolding vector_in vector_text vector_of_pairs vector_refusal
read_back count small =
    let are : AreCounted (pairs_of count) = pairs_are_counted count small 1024 (omega arith) in
    rw (pairs_read (pairs_of count) are, sites_of (pairs_of count) are, no_fall count 1024) refl

-- ---- and count the same

count-append : (pairs : List Pair) (origin k o before : ℕ) → count_among (pairs ++ (origin, k) ∷ []) o before ≡ cond (nat_eq origin o) k (count_among pairs o before)
count-append [] origin k o before = refl
count-append (pair ∷ pairs) origin k o before = count-append pairs origin k o (cond (nat_eq pair.0 o) pair.1 before)

next_or_before : (o last : ℕ) → nat_le o (suc last) ≡ true → nat_eq (suc last) o ≡ false → nat_le o last ≡ true
next_or_before o last at other = grind (arith, nat_tests)

past_all : (o last : ℕ) → nat_le o (suc last) ≡ false → nat_le o last ≡ false
past_all o last past = grind (arith, nat_tests)

past_next : (o last : ℕ) → nat_le o (suc last) ≡ false → nat_eq (suc last) o ≡ false
past_next o last past = grind (arith, nat_tests)

last_next : (o last : ℕ) → nat_eq (suc last) o ≡ true → nat_le o last ≡ false
last_next o last same = grind (arith, nat_tests)

zero_count : (n : ℕ) → nat_lt 0 n ≡ false → n ≡ 0
zero_count n none = grind (arith, nat_tests)

-- origins past the last one are not counted
not_past_last : (count : ℕ → ℕ) (last o : ℕ) → nat_le o last ≡ false → count_among (pairs_to count last) o 0 ≡ 0
not_past_last count zero o past = refl
not_past_last count (suc last) o past =
    let before : count_among (pairs_to count last) o 0 ≡ 0 = not_past_last count last o (past_all o last past) in
    elim (nat_lt 0 (count (suc last))) as (λ b. count_among (cond b (pairs_to count last ++ (suc last, count (suc last)) ∷ []) (pairs_to count last)) o 0 ≡ 0) [
      | true ↦ count-append (pairs_to count last) (suc last) (count (suc last)) o 0 ∙ ap (λ (b : Bool). cond b (count (suc last)) (count_among (pairs_to count last) o 0)) (past_next o last past) ∙ before
      | false ↦ before
    ]

counts_to : (count : ℕ → ℕ) (last o : ℕ) → nat_le 1 o ≡ true → nat_le o last ≡ true → count_among (pairs_to count last) o 0 ≡ count o
counts_to count zero o above at = absurd (grind (arith, nat_tests))
counts_to count (suc last) o above at =
    elim (nat_eq (suc last) o) as (λ same. nat_eq (suc last) o ≡ same → count_among (pairs_to count (suc last)) o 0 ≡ count o) [
      | true ↦ λ same.
          let here : suc last ≡ o = eqb-true (suc last) o same in
          elim (nat_lt 0 (count (suc last))) as (λ b. nat_lt 0 (count (suc last)) ≡ b → count_among (cond b (pairs_to count last ++ (suc last, count (suc last)) ∷ []) (pairs_to count last)) o 0 ≡ count o) [
            | true ↦ λ some. count-append (pairs_to count last) (suc last) (count (suc last)) o 0 ∙ ap (λ (b : Bool). cond b (count (suc last)) (count_among (pairs_to count last) o 0)) same ∙ ap count here
            | false ↦ λ none. not_past_last count last o (last_next o last same) ∙ sym (zero_count (count (suc last)) none) ∙ ap count here
          ] refl
      | false ↦ λ other.
          let before : count_among (pairs_to count last) o 0 ≡ count o = counts_to count last o above (next_or_before o last at other) in
          elim (nat_lt 0 (count (suc last))) as (λ b. count_among (cond b (pairs_to count last ++ (suc last, count (suc last)) ∷ []) (pairs_to count last)) o 0 ≡ count o) [
            | true ↦ count-append (pairs_to count last) (suc last) (count (suc last)) o 0 ∙ ap (λ (b : Bool). cond b (count (suc last)) (count_among (pairs_to count last) o 0)) other ∙ before
            | false ↦ before
          ]
    ] refl

pub counts_same : CountsTheSame
counts_same count o site =
    let parts : (nat_le 1 o ≡ true) × (nat_le o most_sites ≡ true) = and_parts (nat_le 1 o) (nat_le o most_sites) site in
    counts_to count 1024 o parts.0 parts.1
