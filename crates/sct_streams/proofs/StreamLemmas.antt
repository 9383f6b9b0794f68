-- Reads and writes, one after another. Proof plumbing.
use Rattle.std.proofs.Common.{◌≡◌, ◌∙◌, refl, ap, sym, subst, ℕ, ◌≤◌, ◌+◌, zero, suc, List, [], ◌∷◌, ◌++◌, length, take, arith, append_assoc, length-append}
use Rattle.std.specs.Prelude.{◌<◌, Option, Some, None, IfSome}
use Rattle.std.proofs.lemmas.List.{append-nil, take_all}
use Rattle.sct_streams.specs.Stream.{AppendsIfTold, AppendsPrefixIfTold, Gives, HasReadIfTold, HasTakenIfTold}

-- ---- reads

pub read_on : (a b c : Option (List ℕ)) (xs ys : List ℕ) → HasReadIfTold a b xs → HasReadIfTold b c ys → HasReadIfTold a c (xs ++ ys)
read_on None b c xs ys first second = tt
read_on (Some left) b c xs ys first second =
    let next : HasReadIfTold (Some first.0) c ys = subst (λ (o : Option (List ℕ)). HasReadIfTold o c ys) first.1.1 second in
    (next.0, (first.1.0 ∙ ap (λ (l : List ℕ). xs ++ l) next.1.0 ∙ sym (append_assoc xs ys next.0), next.1.1))

pub read_nothing : (a : Option (List ℕ)) → HasReadIfTold a a []
read_nothing None = tt
read_nothing (Some left) = (left, (refl, refl))

pub read_gives : (a b : Option (List ℕ)) (n room : ℕ) (piece : List ℕ) → IfSome a (λ bytes. Gives bytes n room piece b) → HasReadIfTold a b (take n piece)
read_gives None b n room piece gives = tt
read_gives (Some left) b n room piece gives = (gives.rest, (gives.front, gives.left))

pub read_end : (a b : Option (List ℕ)) (n room : ℕ) (piece : List ℕ) → IfSome a (λ bytes. Gives bytes n room piece b) → 0 < room → n ≡ 0 → IfSome a (λ _. b ≡ Some [])
read_end None b n room piece gives some none = tt
read_end (Some left) b n room piece gives some none =
    gives.left ∙ ap Some (sym (sym (gives.end none some) ∙ gives.front ∙ ap (λ k. take k piece ++ gives.rest) none))

pub read_failed : (a b : Option (List ℕ)) → HasTakenIfTold a b 0 → HasReadIfTold a b []
read_failed None b taken = tt
read_failed (Some left) b taken = (left, (refl, taken.1))

pub read_all : (a b : Option (List ℕ)) (xs : List ℕ) → HasReadIfTold a b xs → IfSome a (λ _. b ≡ Some []) → IfSome a (λ bytes. bytes ≡ xs)
read_all None b xs taken end = tt
read_all (Some left) b xs taken end =
    let none : taken.0 ≡ [] = some_same taken.0 [] (sym taken.1.1 ∙ end) in
    taken.1.0 ∙ ap (λ (l : List ℕ). xs ++ l) none ∙ append-nil xs
  where
    or_nothing : Option (List ℕ) → List ℕ
    or_nothing None = []
    or_nothing (Some l) = l

    some_same : (x y : List ℕ) → Some x ≡ Some y → x ≡ y
    some_same x y is = ap or_nothing is

pub read_zero : (a b : Option (List ℕ)) (n : ℕ) (piece : List ℕ) → HasReadIfTold a b (take n piece) → n ≡ 0 → HasReadIfTold a b []
read_zero a b n piece given none = subst (λ (l : List ℕ). HasReadIfTold a b l) (ap (λ (k : ℕ). take k piece) none) given

pub end_on : (a b c : Option (List ℕ)) (xs : List ℕ) → HasReadIfTold a b xs → IfSome b (λ _. c ≡ Some []) → IfSome a (λ _. c ≡ Some [])
end_on None b c xs taken end = tt
end_on (Some left) b c xs taken end = subst (λ (o : Option (List ℕ)). IfSome o (λ _. c ≡ Some [])) taken.1.1 end

-- ---- writes

pub appends_nothing : (held : Option (List ℕ)) → AppendsIfTold held held []
appends_nothing None = tt
appends_nothing (Some bytes) = ap Some (sym (append-nil bytes))

pub appends_on : (a b c : Option (List ℕ)) (xs ys : List ℕ) → AppendsIfTold a b xs → AppendsIfTold b c ys → AppendsIfTold a c (xs ++ ys)
appends_on None b c xs ys first second = tt
appends_on (Some held) b c xs ys first second =
    let next : AppendsIfTold (Some (held ++ xs)) c ys = subst (λ (o : Option (List ℕ)). AppendsIfTold o c ys) first second in
    next ∙ ap Some (append_assoc held xs ys)

-- a front of a text is a front of a longer one
take_front : (n : ℕ) (xs ys : List ℕ) → n ≤ length xs → take n (xs ++ ys) ≡ take n xs
take_front zero xs ys short = refl
take_front (suc n) [] ys short = absurd (omega (arith, short))
take_front (suc n) (x ∷ xs) ys short = ap (λ (l : List ℕ). x ∷ l) (take_front n xs ys (omega (arith, short)))

take_past : (k n : ℕ) (xs ys : List ℕ) → k ≡ length xs + n → take k (xs ++ ys) ≡ xs ++ take n ys
take_past k n [] ys is = let same : k ≡ n = omega (arith, is) in ap (λ (j : ℕ). take j ys) same
take_past zero n (x ∷ xs) ys is = absurd (omega (arith, is))
take_past (suc k) n (x ∷ xs) ys is = ap (λ (l : List ℕ). x ∷ l) (take_past k n xs ys (omega (arith, is)))

pub prefix_front : (a b : Option (List ℕ)) (xs ys : List ℕ) → AppendsPrefixIfTold a b xs → AppendsPrefixIfTold a b (xs ++ ys)
prefix_front None b xs ys part = tt
prefix_front (Some held) b xs ys part =
    (part.0, (omega (arith, part.1.0, length-append xs ys), part.1.1 ∙ ap (λ (l : List ℕ). Some (held ++ l)) (sym (take_front part.0 xs ys part.1.0))))

pub prefix_none : (a : Option (List ℕ)) (xs : List ℕ) → AppendsPrefixIfTold a a xs
prefix_none None xs = tt
prefix_none (Some held) xs = (0, (omega arith, ap Some (sym (append-nil held))))

pub prefix_on : (a b c : Option (List ℕ)) (xs ys : List ℕ) → AppendsIfTold a b xs → AppendsPrefixIfTold b c ys → AppendsPrefixIfTold a c (xs ++ ys)
prefix_on None b c xs ys first second = tt
prefix_on (Some held) b c xs ys first second =
    let next : AppendsPrefixIfTold (Some (held ++ xs)) c ys = subst (λ (o : Option (List ℕ)). AppendsPrefixIfTold o c ys) first second in
    (length xs + next.0, (omega (arith, next.1.0, length-append xs ys), next.1.1 ∙ ap Some (append_assoc held xs (take next.0 ys) ∙ ap (λ (l : List ℕ). held ++ l) (sym (take_past (length xs + next.0) next.0 xs ys refl)))))

pub prefix_all : (a b : Option (List ℕ)) (xs : List ℕ) → AppendsIfTold a b xs → AppendsPrefixIfTold a b xs
prefix_all None b xs whole = tt
prefix_all (Some held) b xs whole = (length xs, (omega arith, whole ∙ ap (λ (l : List ℕ). Some (held ++ l)) (sym (take_all (length xs) xs (omega arith)))))
