-- A text of one piece for each element of a list, with its number. Proof plumbing.
use Rattle.std.proofs.Common.{ℕ, ◌≡◌, ◌+◌, ◌<◌, ◌++◌, ◌∷◌, [], List, length, drop, get_or, refl, sym, ap, ◌∙◌, append_assoc, add-one, suc, ◌≤◌}
use Rattle.std.proofs.lemmas.List.{append-nil, drop_all}
use Rattle.std.proofs.Math.Seq.{drop-cons}
use Rattle.std.specs.List.{enumerate_from, flat_map}

-- what is left from a place on
abbrev pub pieces_left : {X : Type 0} → (ℕ × X → List ℕ) → List X → ℕ → ℕ → List ℕ
pieces_left f xs i number = flat_map f (enumerate_from number (drop i xs))

front : (X : Type 0) (xs : List X) (i : ℕ) (d x : X) → i < length xs → x ≡ get_or xs i d → drop i xs ≡ x ∷ drop (i + 1) xs
front X xs i d x within is =
    drop-cons xs i d within
    ∙ ap (λ (y : X). y ∷ drop (suc i) xs) (sym is)
    ∙ ap (λ (n : ℕ). x ∷ drop n xs) (sym (add-one i))

pub no_piece : {X : Type 0} (f : ℕ × X → List ℕ) (xs : List X) (i number : ℕ) (so_far all : List ℕ) → length xs ≤ i → so_far ++ pieces_left f xs i number ≡ all → so_far ≡ all
no_piece f xs i number so_far all past whole = rw (drop_all i xs past, append-nil) at whole
