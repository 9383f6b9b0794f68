-- The first byte that passes a test, as a search for a byte and as the place in the list.
use Rattle.std.proofs.Common.{◌≡◌, ◌∙◌, ap, sym, refl, arith, ℕ, zero, suc, ◌+◌, ◌<◌, Bool, true, cond, List, [], ◌∷◌, length, slice_index, Option, Some, None}
use Rattle.std.specs.List.{position_from}
use Rattle.std.proofs.lemmas.Bool.{false_from_ne_true}
use Rattle.memchr.specs.Find.{IsFirstByte}

none_passes : (test : ℕ → Bool) (bytes : List ℕ) (from : ℕ) → ((k : ℕ) → k < length bytes → test (slice_index bytes k) ≡ true → ⊥) → position_from test from bytes ≡ None
none_passes test [] from none = refl
none_passes test (byte ∷ bytes) from none =
    ap (λ (b : Bool). cond b (Some from) (position_from test (from + 1) bytes)) (false_from_ne_true (test byte) (none 0 (omega arith)))
    ∙ none_passes test bytes (from + 1) (λ k below. none (suc k) (omega arith))

first_passes : (test : ℕ → Bool) (bytes : List ℕ) (from place : ℕ) → place < length bytes → test (slice_index bytes place) ≡ true
    → ((k : ℕ) → k < place → test (slice_index bytes k) ≡ true → ⊥) → position_from test from bytes ≡ Some (from + place)
first_passes test [] from place within passes before = absurd (omega arith)
first_passes test (byte ∷ bytes) from zero within passes before =
    let same : from ≡ from + 0 = omega arith in
    ap (λ (b : Bool). cond b (Some from) (position_from test (from + 1) bytes)) passes ∙ ap (λ (n : ℕ). Some n) same
first_passes test (byte ∷ bytes) from (suc place) within passes before =
    let same : from + 1 + place ≡ from + suc place = omega arith in
    ap (λ (b : Bool). cond b (Some from) (position_from test (from + 1) bytes)) (false_from_ne_true (test byte) (before 0 (omega arith)))
    ∙ first_passes test bytes (from + 1) place (omega arith) passes (λ k below. before (suc k) (omega arith))
    ∙ ap (λ (n : ℕ). Some n) same

pub first_byte_place : (test : ℕ → Bool) (bytes : List ℕ) (found : Option ℕ) → IsFirstByte test bytes found → found ≡ position_from test 0 bytes
first_byte_place test bytes None none = sym (none_passes test bytes 0 (λ k below pass. none k (omega arith) below pass))
first_byte_place test bytes (Some place) first =
    let same : 0 + place ≡ place = omega arith in
    sym (first_passes test bytes 0 place first.0.high first.1 (λ k below pass. first.0.before k (omega arith) below pass) ∙ ap (λ (n : ℕ). Some n) same)
