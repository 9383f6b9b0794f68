-- A running remainder leaves what the whole number leaves, and an account number has one byte a character.
use Rattle.std.proofs.Common.{◌≡◌, ◌∙◌, ap, sym, refl, arith, ℕ, ◌+◌, ◌-◌, ◌*◌, ◌/◌, ◌%◌, ◌<◌, true, false, List, [], ◌∷◌, ◌++◌, take, drop, flat_map}
use Rattle.std.specs.Char.{is_ascii_digit}
use Rattle.std.specs.Int.Digits.{number_from_digits, number_from_digits_after}
use Rattle.std.proofs.Math.Nat.{mod-mod}
use Rattle.std.proofs.lemmas.Grind.{flat_map-append}
use Rattle.std.proofs.lemmas.List.{append-nil}
use Rattle.sct_element.specs.Account.{digits_of_char, account_number}

step_mod : (n d : ℕ) → (n % 97 * 10 + d) % 97 ≡ (n * 10 + d) % 97
step_mod n d = omega arith

pub after_mod : (n : ℕ) (ds : List ℕ)
    → number_from_digits_after 10 (n % 97) ds % 97 ≡ number_from_digits_after 10 n ds % 97
after_mod n [] = mod-mod n 97
after_mod n (d ∷ ds) = sym (after_mod (n % 97 * 10 + d) ds)
    ∙ ap (λ (m : ℕ). number_from_digits_after 10 m ds % 97) (step_mod n d) ∙ after_mod (n * 10 + d) ds

pub after_digit : (n c : ℕ) (rest : List ℕ) → is_ascii_digit c ≡ true
    → number_from_digits_after 10 ((n * 10 + (c - 48)) % 97) rest % 97 ≡ number_from_digits_after 10 n (digits_of_char c ++ rest) % 97
after_digit n c rest e = after_mod (n * 10 + (c - 48)) rest ∙ rw e refl

pub after_letter : (n c : ℕ) (rest : List ℕ) → is_ascii_digit c ≡ false
    → number_from_digits_after 10 (((n * 10 + (c - 55) / 10) * 10 + (c - 55) % 10) % 97) rest % 97 ≡ number_from_digits_after 10 n (digits_of_char c ++ rest) % 97
after_letter n c rest e = after_mod ((n * 10 + (c - 55) / 10) * 10 + (c - 55) % 10) rest ∙ rw e refl

-- what the back and then the front leave is what the whole number leaves
pub whole_number : (s : List ℕ) (back front : ℕ) → front < 97
    → ((rest : List ℕ) → number_from_digits_after 10 back rest % 97 ≡ number_from_digits_after 10 0 (flat_map digits_of_char (drop 4 s) ++ rest) % 97)
    → ((rest : List ℕ) → number_from_digits_after 10 front rest % 97 ≡ number_from_digits_after 10 back (flat_map digits_of_char (take 4 s) ++ rest) % 97)
    → front ≡ account_number s % 97
whole_number s back front small b f =
    let e : flat_map digits_of_char (drop 4 s) ++ (flat_map digits_of_char (take 4 s) ++ []) ≡ flat_map digits_of_char (drop 4 s ++ take 4 s) =
    ap (λ (ds : List ℕ). flat_map digits_of_char (drop 4 s) ++ ds) (append-nil (flat_map digits_of_char (take 4 s))) ∙ sym (flat_map-append digits_of_char (drop 4 s) (take 4 s)) in
    let stays : front ≡ front % 97 = omega arith in
    stays ∙ f [] ∙ b (flat_map digits_of_char (take 4 s) ++ [])
    ∙ ap (λ (ds : List ℕ). number_from_digits 10 ds % 97) e
