-- Lists that are made item by item.
use Rattle.std.proofs.Common.{◌≡◌, ◌∙◌, refl, sym, ap, ℕ, ◌+◌, ◌<◌, Bool, true, false, cond, List, [], ◌∷◌, ◌++◌, length, get_or, take, map, filter, append_assoc}
use Rattle.std.proofs.lemmas.List.{map-append}
use Rattle.std.proofs.lemmas.List.Elements.{filter_more}

map-one : {X Y : Type 0} (f : X → Y) (b : Bool) (x : X) → map f (cond b (x ∷ []) []) ≡ cond b (f x ∷ []) []
map-one f true x = refl
map-one f false x = refl

-- one more item of a list, appended if it passes a test
pub told_more : {X Y : Type 0} (f : X → Y) (p : X → Bool) (old : List Y) (xs : List X) (i : ℕ) (x : X) → i < length xs → x ≡ get_or xs i x
    → (old ++ map f (filter p (take i xs))) ++ cond (p x) (f x ∷ []) [] ≡ old ++ map f (filter p (take (i + 1) xs))
told_more f p old xs i x in' is =
    append_assoc old (map f (filter p (take i xs))) (cond (p x) (f x ∷ []) [])
    ∙ ap (λ (ys : List _). old ++ ys)
    (ap (λ (ys : List _). map f (filter p (take i xs)) ++ ys) (sym (map-one f (p x) x))
    ∙ sym (map-append f (filter p (take i xs)) (cond (p x) (x ∷ []) []))
    ∙ ap (map f) (ap (λ y. filter p (take i xs) ++ cond (p y) (y ∷ []) []) is ∙ sym (filter_more p xs i x in')))
