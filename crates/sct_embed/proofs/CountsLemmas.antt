-- Counts, one origin after another.
use Rattle.std.proofs.Common.{◌≡◌, ◌∙◌, ap, sym, ℕ, ◌+◌, ◌<◌, ◌≤◌, List, [], ◌∷◌, ◌++◌, length, take, get_or, arith}
use Rattle.std.proofs.lemmas.List.{length-take-le, take_more}
use Rattle.sct_delta.specs.VectorText.{Pair}
use Rattle.sct_embed.specs.Counts.{pairs_from}

pairs_onto : (n : ℕ) (xs : List ℕ) (c : ℕ) → pairs_from n (xs ++ c ∷ []) ≡ pairs_from n xs ++ (n + length xs, c) ∷ []
pairs_onto n [] c = let e : n ≡ n + 0 = omega arith in ap (λ (m : ℕ). (m, c) ∷ []) e
pairs_onto n (x ∷ xs) c =
    let e : n + 1 + length xs ≡ n + length (x ∷ xs) = omega arith in
    ap (λ (l : List Pair). (n, x) ∷ l) (pairs_onto (n + 1) xs c ∙ ap (λ (m : ℕ). pairs_from (n + 1) xs ++ (m, c) ∷ []) e)

pub pairs_more : (cs : List ℕ) (i : ℕ) → i < length cs → pairs_from 1 (take i cs) ++ (i + 1, get_or cs i 0) ∷ [] ≡ pairs_from 1 (take (i + 1) cs)
pairs_more cs i low =
    let there : i ≤ length cs = omega (arith, low) in
    let place : i + 1 ≡ 1 + length (take i cs) = omega (arith, length-take-le i cs there) in
    ap (λ (m : ℕ). pairs_from 1 (take i cs) ++ (m, get_or cs i 0) ∷ []) place
    ∙ sym (pairs_onto 1 (take i cs) (get_or cs i 0))
    ∙ ap (pairs_from 1) (sym (take_more cs i 0 low))
