-- Different messages have different digests, if no two different texts that were hashed have one.
use Rattle.std.specs.Prelude.{Contains}
use Rattle.std.proofs.Common.{◌≡◌, ◌∙◌, ap, sym, refl, ℕ, zero, suc, ◌<◌, ◌≤◌, ◌+◌, List, [], ◌∷◌, ◌++◌, length, map, take, drop, arith}
use Rattle.std.proofs.lemmas.List.{drop-append-le, drop_all, length-append, length-take-le, take-append-le, take-map, take-take, take_all}
use Rattle.std.proofs.lemmas.List.Elements.{Contains-append_left, Contains-append_right}
use Rattle.sha2.specs.Sha256.{sha256}
use Rattle.sha2.proofs.Facts256.{length-sha256}
use Rattle.sct_message.specs.declared.draft.Draft.{Draft}
use Rattle.sct_json.specs.Writing.{written_text}
use Rattle.sct_set.specs.Archive.{line_of}
use Rattle.sct_digest.specs.Digests.{digest_after, next_digest, no_digest}
use Rattle.sct_digest.specs.Laws.{DigestsAreOfTexts, DigestsDifferFromThereOn, EqualDigestsAreOfEqualTexts, hashed_after, hashed_of, entry_texts}

-- ---- a text that is cut at a length

pub front_is : (xs ys : List ℕ) (n : ℕ) → length xs ≡ n → take n (xs ++ ys) ≡ xs
front_is xs ys n is = take-append-le n xs ys (omega (arith, is)) ∙ take_all n xs (omega (arith, is))

pub rest_is : (xs ys : List ℕ) (n : ℕ) → length xs ≡ n → drop n (xs ++ ys) ≡ ys
rest_is xs ys n is = drop-append-le n xs ys (omega (arith, is)) ∙ ap (λ (l : List ℕ). l ++ ys) (drop_all n xs (omega (arith, is)))

-- two texts whose fronts have 32 bytes
fronts_alike : (b c k l : List ℕ) → length b ≡ 32 → length c ≡ 32 → b ++ k ≡ c ++ l → b ≡ c
fronts_alike b c k l first second same = sym (front_is b k 32 first) ∙ ap (take 32) same ∙ front_is c l 32 second

rests_alike : (b c k l : List ℕ) → length b ≡ 32 → length c ≡ 32 → b ++ k ≡ c ++ l → k ≡ l
rests_alike b c k l first second same = sym (rest_is b k 32 first) ∙ ap (drop 32) same ∙ rest_is c l 32 second

-- two texts with a line feed after each
before_feed : (xs ys : List ℕ) → xs ++ 10 ∷ [] ≡ ys ++ 10 ∷ [] → xs ≡ ys
before_feed xs ys same =
    let many : length ys ≡ length xs = omega (arith, ap length same, length-append xs (10 ∷ []), length-append ys (10 ∷ [])) in
    sym (front_is xs (10 ∷ []) (length xs) refl) ∙ ap (take (length xs)) same ∙ front_is ys (10 ∷ []) (length xs) many

-- ---- among texts

here : (x : List ℕ) (xs : List (List ℕ)) → Contains (x ∷ xs) x
here x xs = (0, omega (arith), refl)

there : (x y : List ℕ) (xs : List (List ℕ)) → Contains xs x → Contains (y ∷ xs) x
there x y xs among = (suc among.0, omega (arith, among.1), among.2)

-- ---- equal digests

module _ (at_hand : List ℕ → Type 0) (apart : (some other : List ℕ) → at_hand some → at_hand other → sha256 some ≡ sha256 other → some ≡ other) where
  pub alike : (b c : List ℕ) (xs ys : List Draft)
      → ((text : List ℕ) → Contains (hashed_after b xs) text → at_hand text) → ((text : List ℕ) → Contains (hashed_after c ys) text → at_hand text)
      → length b ≡ 32 → length c ≡ 32 → length xs ≡ length ys → digest_after b xs ≡ digest_after c ys → (b ≡ c) × (entry_texts xs ≡ entry_texts ys)
  alike b c [] [] one other first second many same = (same, refl)
  alike b c [] (y ∷ ys) one other first second many same = absurd (omega (arith, many))
  alike b c (x ∷ xs) [] one other first second many same = absurd (omega (arith, many))
  alike b c (x ∷ xs) (y ∷ ys) one other first second many same =
      let rest = alike (next_digest b x) (next_digest c y) xs ys
      (λ text among. one text (there text (b ++ line_of x) (hashed_after (next_digest b x) xs) among))
      (λ text among. other text (there text (c ++ line_of y) (hashed_after (next_digest c y) ys) among))
      (length-sha256 (b ++ line_of x)) (length-sha256 (c ++ line_of y)) (omega (arith, many)) same in
      let hashed : b ++ line_of x ≡ c ++ line_of y =
      apart (b ++ line_of x) (c ++ line_of y) (one _ (here (b ++ line_of x) (hashed_after (next_digest b x) xs)))
      (other _ (here (c ++ line_of y) (hashed_after (next_digest c y) ys))) rest.0 in
      let text : written_text x ≡ written_text y =
      before_feed (written_text x) (written_text y) (rests_alike b c (line_of x) (line_of y) first second hashed) in
      (fronts_alike b c (line_of x) (line_of y) first second hashed, λ i. text i ∷ rest.1 i)

pub equal_texts : EqualDigestsAreOfEqualTexts
equal_texts some other many apart same =
    (alike (Contains (hashed_of some ++ hashed_of other)) apart no_digest no_digest some other
    (λ text among. Contains-append_left (hashed_of some) (hashed_of other) text among)
    (λ text among. Contains-append_right (hashed_of some) (hashed_of other) text among) refl refl many same).1

-- ---- equal texts

digests_alike : (b c : List ℕ) (xs ys : List Draft) → b ≡ c → entry_texts xs ≡ entry_texts ys → digest_after b xs ≡ digest_after c ys
digests_alike b c [] [] same texts = same
digests_alike b c [] (y ∷ ys) same texts = absurd (omega (arith, ap length texts))
digests_alike b c (x ∷ xs) [] same texts = absurd (omega (arith, ap length texts))
digests_alike b c (x ∷ xs) (y ∷ ys) same texts =
    digests_alike (next_digest b x) (next_digest c y) xs ys
    (λ i. sha256 (same i ++ (ap (first_or []) texts i ++ 10 ∷ [])))
    (ap (drop 1) texts)
  where
    first_or : List ℕ → List (List ℕ) → List ℕ
    first_or none [] = none
    first_or none (text ∷ texts) = text

pub of_texts : DigestsAreOfTexts
of_texts some other texts = digests_alike no_digest no_digest some other refl texts

-- ---- a common count

-- the texts of the first messages are among those of all
front_hashed : (b : List ℕ) (n : ℕ) (xs : List Draft) (text : List ℕ) → Contains (hashed_after b (take n xs)) text → Contains (hashed_after b xs) text
front_hashed b zero xs text among = absurd (omega (arith, among.1))
front_hashed b (suc n) [] text among = among
front_hashed b (suc n) (x ∷ xs) text (zero, low, is) = (0, omega (arith), is)
front_hashed b (suc n) (x ∷ xs) text (suc k, low, is) =
    there text (b ++ line_of x) (hashed_after (next_digest b x) xs)
    (front_hashed (next_digest b x) n xs text (k, omega (arith, low), is))

-- the texts of fewer messages
fewer_texts : (place count : ℕ) (xs : List Draft) → place ≤ count → take place (entry_texts (take count xs)) ≡ entry_texts (take place xs)
fewer_texts place count xs fewer = take-map written_text place (take count xs) ∙ ap entry_texts (take-take place count xs fewer)

pub differ_on : DigestsDifferFromThereOn
differ_on some other place count fewer within beside apart differ same =
    let many : length (take count some) ≡ length (take count other) =
    length-take-le count some within ∙ sym (length-take-le count other beside) in
    let texts : entry_texts (take count some) ≡ entry_texts (take count other) =
    (alike (Contains (hashed_of some ++ hashed_of other)) apart no_digest no_digest (take count some) (take count other)
    (λ text among. Contains-append_left (hashed_of some) (hashed_of other) text (front_hashed no_digest count some text among))
    (λ text among. Contains-append_right (hashed_of some) (hashed_of other) text (front_hashed no_digest count other text among)) refl refl many same).1 in
    differ (sym (fewer_texts place count some fewer) ∙ ap (take place) texts ∙ fewer_texts place count other fewer)
