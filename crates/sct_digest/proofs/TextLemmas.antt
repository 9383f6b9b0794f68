-- Equal texts of digests have the same lines.
use Rattle.std.specs.Int.{byte_at, bytes_high_first, to_be_bytes, w32}
use Rattle.std.specs.Prelude.{Contains, decimal, flat_map, nat_lt, replicate, slice_index}
use Rattle.std.specs.Char.{digit_value}
use Rattle.std.specs.Str.Parse.{AllDigits}
use Rattle.std.proofs.Common.{◌≡◌, ◌∙◌, ap, sym, subst, refl, append_assoc, ℕ, zero, suc, ◌<◌, ◌≤◌, ◌+◌, ◌*◌, ◌/◌, ◌^◌, ◌==◌, ◌⊎◌, inl, inr, Bool, true, false, cond, List, [], ◌∷◌, ◌++◌, length, filter, take, drop, arith}
use Rattle.std.proofs.lemmas.Bool.{cases_Bool, cases_lt, false≢true}
use Rattle.std.proofs.lemmas.Bool.Decides.{nat_tests}
use Rattle.std.proofs.lemmas.Fmt.{decimal_injective, decimal_is_IsNumeral}
use Rattle.std.proofs.lemmas.List.Elements.{Contains-append_cases, Contains-append_left, Contains-append_right}
use Rattle.std.proofs.lemmas.Grind.{flat_map-append}
use Rattle.std.proofs.lemmas.List.{append-nil, length-append, take_all}
use Rattle.std.proofs.lemmas.Nat.{mod_below}
use Rattle.hex.proofs.HexLemmas.{decode_of-encode_lower, decode_of-same, length-encode_with}
use Rattle.hex.specs.Hex.{IsBytes, decode_of, encode_lower, lower_digits}
use Rattle.sha2.specs.Sha256.{digest_bytes, sha256}
use Rattle.sha2.proofs.Facts256.{length-sha256}
use Rattle.sct_message.specs.declared.draft.Draft.{Draft}
use Rattle.sct_set.specs.Archive.{line_of}
use Rattle.sct_delta.specs.Entries.{Placed, held_from, is_from, log_of}
use Rattle.sct_delta.specs.Sites.{is_site, most_sites}
use Rattle.sct_site.proofs.ArrivalLemmas.{length-log}
use Rattle.sct_digest.specs.Digests.{digest_after, digest_at, digest_line, digest_of, digest_text, digests_text, lines_to, next_digest, no_digest}
use Rattle.sct_digest.specs.Laws.{EqualTextsAreOfEqualDigests}
use Rattle.sct_digest.proofs.ApartLemmas.{front_is, rest_is}

-- ---- a text up to its first colon, and what comes after that

abbrev up_to_colon : List ℕ → List ℕ
up_to_colon [] = []
up_to_colon (c ∷ cs) = cond (c == 58) [] (c ∷ up_to_colon cs)

abbrev after_colon : List ℕ → List ℕ
after_colon [] = []
after_colon (c ∷ cs) = cond (c == 58) cs (after_colon cs)

no_colon : (c : ℕ) → digit_value c < 10 → (c == 58) ≡ false
no_colon c h = grind (arith, nat_tests)

digits_before : (s rest : List ℕ) → AllDigits 10 s → up_to_colon (s ++ 58 ∷ rest) ≡ s
digits_before [] rest h = refl
digits_before (c ∷ cs) rest h = rw (no_colon c h.0, digits_before cs rest h.1) refl

rest_after : (s rest : List ℕ) → AllDigits 10 s → after_colon (s ++ 58 ∷ rest) ≡ rest
rest_after [] rest h = refl
rest_after (c ∷ cs) rest h = rw (no_colon c h.0) (rest_after cs rest h.1)

digits : (n : ℕ) → n < 2 ^ 64 → AllDigits 10 (decimal n)
digits n small = (decimal_is_IsNumeral n small).0.1

number_same : (m n : ℕ) (xs ys : List ℕ) → m < 2 ^ 64 → n < 2 ^ 64 → decimal m ++ 58 ∷ xs ≡ decimal n ++ 58 ∷ ys → m ≡ n
number_same m n xs ys first second same =
    decimal_injective m n first second
    (sym (digits_before (decimal m) xs (digits m first)) ∙ ap up_to_colon same ∙ digits_before (decimal n) ys (digits n second))

rest_same : (m n : ℕ) (xs ys : List ℕ) → m < 2 ^ 64 → n < 2 ^ 64 → decimal m ++ 58 ∷ xs ≡ decimal n ++ 58 ∷ ys → xs ≡ ys
rest_same m n xs ys first second same =
    sym (rest_after (decimal m) xs (digits m first)) ∙ ap after_colon same ∙ rest_after (decimal n) ys (digits n second)

-- ---- a line

length_digest : (before : List ℕ) (messages : List Draft) → length before ≡ 32 → length (digest_after before messages) ≡ 32
length_digest before [] is = is
length_digest before (message ∷ messages) is =
    length_digest (next_digest before message) messages (length-sha256 (before ++ line_of message))

length_text : (o count : ℕ) (es : List Placed) → length (digest_text o count es) ≡ 64
length_text o count es =
    length-encode_with lower_digits (digest_at o count es) ∙ ap (λ (n : ℕ). 2 * n) (length_digest no_digest (take count (log_of o es)) refl)

whole : (a b c rest : List ℕ) → (a ++ 58 ∷ (b ++ 58 ∷ (c ++ 10 ∷ []))) ++ rest ≡ a ++ 58 ∷ (b ++ 58 ∷ (c ++ 10 ∷ rest))
whole a b c rest =
    append_assoc a (58 ∷ (b ++ 58 ∷ (c ++ 10 ∷ []))) rest
    ∙ ap (λ (t : List ℕ). a ++ 58 ∷ t) (append_assoc b (58 ∷ (c ++ 10 ∷ [])) rest ∙ ap (λ (t : List ℕ). b ++ 58 ∷ t) (append_assoc c (10 ∷ []) rest))

-- what two lines with equal bytes say alike
record SayAlike (o p : ℕ) (es fs : List Placed) : Type 0 where
  pub origin : o ≡ p
  pub count : held_from o es ≡ held_from p fs
  pub digest : digest_text o (held_from o es) es ≡ digest_text p (held_from p fs) fs

abbrev AreSmall : List Placed → Type 0
AreSmall es = (o : ℕ) → held_from o es < 2 ^ 64

same_line : (o p : ℕ) (es fs : List Placed) (xs ys : List ℕ) → AreSmall es → AreSmall fs → o < 2 ^ 64 → p < 2 ^ 64
    → digest_line o es ++ xs ≡ digest_line p fs ++ ys → SayAlike o p es fs × (xs ≡ ys)
same_line o p es fs xs ys few fewer small smaller same =
    let c = held_from o es in let d = held_from p fs in
    let s = digest_text o c es in let t = digest_text p d fs in
    let all : decimal o ++ 58 ∷ (decimal c ++ 58 ∷ (s ++ 10 ∷ xs)) ≡ decimal p ++ 58 ∷ (decimal d ++ 58 ∷ (t ++ 10 ∷ ys)) =
    sym (whole (decimal o) (decimal c) s xs) ∙ same ∙ whole (decimal p) (decimal d) t ys in
    let counts = rest_same o p (decimal c ++ 58 ∷ (s ++ 10 ∷ xs)) (decimal d ++ 58 ∷ (t ++ 10 ∷ ys)) small smaller all in
    let ends = rest_same c d (s ++ 10 ∷ xs) (t ++ 10 ∷ ys) (few o) (fewer p) counts in (
      record {
        origin = number_same o p (decimal c ++ 58 ∷ (s ++ 10 ∷ xs)) (decimal d ++ 58 ∷ (t ++ 10 ∷ ys)) small smaller all;
        count = number_same c d (s ++ 10 ∷ xs) (t ++ 10 ∷ ys) (few o) (fewer p) counts;
        digest = sym (front_is s (10 ∷ xs) 64 (length_text o c es)) ∙ ap (take 64) ends ∙ front_is t (10 ∷ ys) 64 (length_text p d fs);
      },
      ap (drop 1) (sym (rest_is s (10 ∷ xs) 64 (length_text o c es)) ∙ ap (drop 64) ends ∙ rest_is t (10 ∷ ys) 64 (length_text p d fs)),
    )

some_bytes : (p : ℕ) (fs : List Placed) (ys : List ℕ) → digest_line p fs ++ ys ≡ [] → ⊥
some_bytes p fs ys none =
    let d = held_from p fs in let rest : List ℕ = decimal d ++ 58 ∷ (digest_text p d fs ++ 10 ∷ ys) in
    let size : length (decimal p ++ 58 ∷ rest) ≡ 0 = ap length (sym (whole (decimal p) (decimal d) (digest_text p d fs) ys) ∙ none) in
    absurd (omega (arith, size, length-append (decimal p) (58 ∷ rest)))

-- ---- the origins with entries

abbrev some_of : Bool → ℕ → List ℕ
some_of held o = cond held (o ∷ []) []

abbrev origins_to : ℕ → List Placed → List ℕ
origins_to zero es = []
origins_to (suc before) es = origins_to before es ++ some_of (nat_lt 0 (held_from (suc before) es)) (suc before)

line_of_some : (held : Bool) (o : ℕ) (es : List Placed)
    → cond held (digest_line o es) [] ≡ flat_map (λ k. digest_line k es) (some_of held o)
line_of_some true o es = sym (append-nil (digest_line o es))
line_of_some false o es = refl

text_is : (n : ℕ) (es : List Placed) → lines_to n es ≡ flat_map (λ o. digest_line o es) (origins_to n es)
text_is zero es = refl
text_is (suc n) es =
    (λ i. text_is n es i ++ line_of_some (nat_lt 0 (held_from (suc n) es)) (suc n) es i)
    ∙ sym (flat_map-append (λ o. digest_line o es) (origins_to n es) (some_of (nat_lt 0 (held_from (suc n) es)) (suc n)))

record IsHeld (n o : ℕ) (es : List Placed) : Type 0 where
  pub held : nat_lt 0 (held_from o es) ≡ true
  pub within : o ≤ n

in_some : (held : Bool) (o k : ℕ) → Contains (some_of held o) k → (held ≡ true) × (k ≡ o)
in_some true o k (zero, low, is) = (refl, sym is)
in_some true o k (suc j, low, is) = absurd (omega (arith, low))
in_some false o k (j, low, is) = absurd (omega (arith, low))

are_held : (n : ℕ) (es : List Placed) (o : ℕ) → Contains (origins_to n es) o → IsHeld n o es
are_held zero es o (j, low, is) = absurd (omega (arith, low))
are_held (suc n) es o among =
    let held = nat_lt 0 (held_from (suc n) es) in
    elim (Contains-append_cases (origins_to n es) (some_of held (suc n)) o among) as (λ _. IsHeld (suc n) o es) [
      | inl before ↦ let was = are_held n es o before in record { held = was.held; within = omega (arith, was.within) }
      | inr last ↦
          let one = in_some held (suc n) o last in
          record { held = ap (λ (k : ℕ). nat_lt 0 (held_from k es)) one.1 ∙ one.0; within = omega (arith, one.1) }
    ]

are_origins : (n : ℕ) (es : List Placed) (o : ℕ) → 1 ≤ o → o ≤ n → nat_lt 0 (held_from o es) ≡ true → Contains (origins_to n es) o
are_origins zero es o least most held = absurd (omega (arith, least, most))
are_origins (suc n) es o least most held =
    let last : List ℕ = some_of (nat_lt 0 (held_from (suc n) es)) (suc n) in
    elim (cases_lt o (suc n)) as (λ _. Contains (origins_to n es ++ last) o) [
      | inl less ↦ Contains-append_left (origins_to n es) last o (are_origins n es o least (omega (arith, less)) held)
      | inr past ↦
          let is : o ≡ suc n = omega (arith, past, most) in
          let here : Contains (some_of (nat_lt 0 (held_from o es)) o) o =
          subst (λ (b : Bool). Contains (some_of b o) o) (sym held) (0, omega (arith), refl) in
          Contains-append_right (origins_to n es) last o (subst (λ (k : ℕ). Contains (some_of (nat_lt 0 (held_from k es)) k) o) is here)
    ]

-- ---- equal texts

record AreSame (os ps : List ℕ) (es fs : List Placed) : Type 0 where
  pub origins : os ≡ ps
  pub lines : (o : ℕ) → Contains os o → SayAlike o o es fs

-- what is said of the first and of the others
of_each : (es fs : List Placed) (o : ℕ) (os : List ℕ) → SayAlike o o es fs → ((k : ℕ) → Contains os k → SayAlike k k es fs)
    → (k : ℕ) → Contains (o ∷ os) k → SayAlike k k es fs
of_each es fs o os mine others k (zero, low, is) = subst (λ (j : ℕ). SayAlike j j es fs) is mine
of_each es fs o os mine others k (suc j, low, is) = others k (j, omega (arith, low), is)

same_lines : (es fs : List Placed) → AreSmall es → AreSmall fs → (os ps : List ℕ)
    → ((o : ℕ) → Contains os o → o < 2 ^ 64) → ((p : ℕ) → Contains ps p → p < 2 ^ 64)
    → flat_map (λ o. digest_line o es) os ≡ flat_map (λ p. digest_line p fs) ps → AreSame os ps es fs
same_lines es fs few fewer [] [] small smaller same = record { origins = refl; lines = λ o among. absurd (omega (arith, among.1)) }
same_lines es fs few fewer [] (p ∷ ps) small smaller same = absurd (some_bytes p fs (flat_map (λ k. digest_line k fs) ps) (sym same))
same_lines es fs few fewer (o ∷ os) [] small smaller same = absurd (some_bytes o es (flat_map (λ k. digest_line k es) os) same)
same_lines es fs few fewer (o ∷ os) (p ∷ ps) small smaller same =
    let first = same_line o p es fs (flat_map (λ k. digest_line k es) os) (flat_map (λ k. digest_line k fs) ps) few fewer
    (small o (0, omega (arith), refl)) (smaller p (0, omega (arith), refl)) same in
    let rest = same_lines es fs few fewer os ps
    (λ k among. small k (suc among.0, omega (arith, among.1), among.2)) (λ k among. smaller k (suc among.0, omega (arith, among.1), among.2)) first.1 in
    let mine : SayAlike o o es fs = subst (λ (k : ℕ). SayAlike o k es fs) (sym first.0.origin) first.0 in
    record {
      origins = λ i. first.0.origin i ∷ rest.origins i;
      lines = of_each es fs o os mine rest.lines;
    }

no_count : (n : ℕ) → nat_lt 0 n ≡ false → n ≡ 0
no_count n none = grind (arith, nat_tests, none)

-- an origin without entries in both
both_none : (o : ℕ) (es fs : List Placed) → nat_lt 0 (held_from o es) ≡ false → nat_lt 0 (held_from o fs) ≡ false → SayAlike o o es fs
both_none o es fs first second =
    let none = no_count (held_from o es) first in let no_other = no_count (held_from o fs) second in
    record {
      origin = refl;
      count = none ∙ sym no_other;
      digest = ap (λ (n : ℕ). digest_text o n es) none ∙ sym (ap (λ (n : ℕ). digest_text o n fs) no_other);
    }

say_alike : (n : ℕ) (es fs : List Placed) → n < 2 ^ 64 → AreSmall es → AreSmall fs → lines_to n es ≡ lines_to n fs
    → (o : ℕ) → 1 ≤ o → o ≤ n → SayAlike o o es fs
say_alike n es fs small few fewer same o least most =
    let os = origins_to n es in let ps = origins_to n fs in
    let all : AreSame os ps es fs = same_lines es fs few fewer os ps
    (λ k among. omega (arith, small, (are_held n es k among).within)) (λ k among. omega (arith, small, (are_held n fs k among).within))
    (sym (text_is n es) ∙ same ∙ text_is n fs) in
    elim (cases_Bool (nat_lt 0 (held_from o es))) as (λ _. SayAlike o o es fs) [
      | inl held ↦ all.lines o (are_origins n es o least most held)
      | inr none ↦ elim (cases_Bool (nat_lt 0 (held_from o fs))) as (λ _. SayAlike o o es fs) [
        | inl other ↦
            let among : Contains os o = subst (λ (ks : List ℕ). Contains ks o) (sym all.origins) (are_origins n fs o least most other) in
            absurd (false≢true (sym none ∙ (are_held n es o among).held))
        | inr no_other ↦ both_none o es fs none no_other
      ]
    ]

-- ---- the bytes of a digest

bytes_append : (xs ys : List ℕ) → IsBytes xs → IsBytes ys → IsBytes (xs ++ ys)
bytes_append [] ys first second i = second i
bytes_append (x ∷ xs) ys first second zero = first 0
bytes_append (x ∷ xs) ys first second (suc i) = bytes_append xs ys (λ j. first (suc j)) second i

byte_below : (k n : ℕ) → byte_at k n < 256
byte_below zero n = mod_below n 256 (omega arith)
byte_below (suc k) n = mod_below (n / 256 ^ suc k) 256 (omega arith)

bytes_of_word : (k n : ℕ) → IsBytes (bytes_high_first k n)
bytes_of_word zero n i = omega arith
bytes_of_word (suc k) n zero = byte_below k n
bytes_of_word (suc k) n (suc i) = bytes_of_word k n i

bytes_of_words : (h : List ℕ) (n : ℕ) → IsBytes (digest_bytes h n)
unfolding digest_bytes
bytes_of_words h zero i = omega arith
bytes_of_words h (suc n) i = bytes_append (digest_bytes h n) (to_be_bytes w32 (slice_index h n)) (bytes_of_words h n) (bytes_of_word 4 (slice_index h n)) i

bytes_hashed : (text : List ℕ) → IsBytes (sha256 text)
unfolding sha256
bytes_hashed text = bytes_of_words _ 8

no_bytes : (n : ℕ) → IsBytes (replicate n 0)
no_bytes zero i = omega arith
no_bytes (suc n) zero = omega arith
no_bytes (suc n) (suc i) = no_bytes n i

bytes_digested : (before : List ℕ) (messages : List Draft) → IsBytes before → IsBytes (digest_after before messages)
bytes_digested before [] are = are
bytes_digested before (message ∷ messages) are =
    bytes_digested (next_digest before message) messages (bytes_hashed (before ++ line_of message))

hex_same : (some other : List Draft) → encode_lower (digest_of some) ≡ encode_lower (digest_of other) → digest_of some ≡ digest_of other
hex_same some other same =
    decode_of-same (encode_lower (digest_of some)) (digest_of some) (digest_of other)
    (decode_of-encode_lower (digest_of some) (bytes_digested no_digest some (no_bytes 32)))
    (ap decode_of same ∙ decode_of-encode_lower (digest_of other) (bytes_digested no_digest other (no_bytes 32)))

-- ---- all entries of an origin

all_of : (o : ℕ) (es : List Placed) → take (held_from o es) (log_of o es) ≡ log_of o es
all_of o es = take_all (held_from o es) (log_of o es) (omega (arith, length-log o es))

filtered : (p : Placed → Bool) (es : List Placed) → length (filter p es) ≤ length es
filtered p [] = omega arith
filtered p (e ∷ es) = (elim (p e) as (λ b. length (cond b (e ∷ filter p es) (filter p es)) ≤ suc (length es)) [
  | true ↦ omega (arith, filtered p es)
  | false ↦ omega (arith, filtered p es)
])

small_of : (es : List Placed) → length es < 2 ^ 64 → AreSmall es
small_of es few o = omega (arith, few, filtered (is_from o) es)

site_least : (o : ℕ) → is_site o ≡ true → 1 ≤ o
site_least o site = grind (arith, nat_tests, site)

site_most : (o : ℕ) → is_site o ≡ true → o ≤ most_sites
site_most o site = grind (arith, nat_tests, site)

pub equal_digests : EqualTextsAreOfEqualDigests
unfolding digests_text
equal_digests es fs few fewer same o site =
    let said : SayAlike o o es fs = say_alike most_sites es fs (omega arith) (small_of es few) (small_of fs fewer) same o (site_least o site) (site_most o site) in
    record {
      count = said.count;
      digest = hex_same (log_of o es) (log_of o fs)
          (ap (λ (log : List Draft). encode_lower (digest_of log)) (sym (all_of o es)) ∙ said.digest ∙ ap (λ (log : List Draft). encode_lower (digest_of log)) (all_of o fs));
    }
