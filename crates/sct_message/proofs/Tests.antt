-- Laws of tests that std lacks. The crates above cite them too.
use Rattle.std.proofs.Common.{◌≡◌, ◌∙◌, ap, sym, refl, Bool, true, false, cond, not, ◌&&◌, ◌||◌, List, [], ◌∷◌, filter}
use Rattle.std.specs.List.{list_any, flat_map}
use Rattle.std.proofs.lemmas.Bool.{false≢true}
use Rattle.std.proofs.lemmas.List.Folds.{list_any-append}

pub or_false : (a : Bool) → (a || false) ≡ a
or_false true = refl
or_false false = refl

pub or_itself : (a : Bool) → (a || a) ≡ a
or_itself true = refl
or_itself false = refl

pub or_assoc : (a b c : Bool) → ((a || b) || c) ≡ (a || (b || c))
or_assoc true b c = refl
or_assoc false b c = refl

pub or_comm : (a b : Bool) → (a || b) ≡ (b || a)
or_comm true true = refl
or_comm true false = refl
or_comm false b = sym (or_false b)

-- the second of three tests comes first
pub or_later : (a b c : Bool) → (a || (b || c)) ≡ (b || (a || c))
or_later true true c = refl
or_later true false c = refl
or_later false b c = refl

-- the last two of three tests change places
pub or_swap : (a b c : Bool) → ((a || b) || c) ≡ ((a || c) || b)
or_swap true b c = refl
or_swap false b c = or_comm b c

-- of two pairs of tests the inner ones change places
pub or_between : (a b c d : Bool) → ((a || b) || (c || d)) ≡ ((a || c) || (b || d))
or_between true b c d = refl
or_between false b c d = or_later b c d

-- a test that gives the other adds nothing to it
pub or_implied : (a b : Bool) → (a ≡ true → b ≡ true) → (a || b) ≡ b
or_implied true b h = sym (h refl)
or_implied false b h = refl

pub and_true : (a : Bool) → (a && true) ≡ a
and_true true = refl
and_true false = refl

pub and_false : (a : Bool) → (a && false) ≡ false
and_false true = refl
and_false false = refl

pub and_comm : (a b : Bool) → (a && b) ≡ (b && a)
and_comm true b = sym (and_true b)
and_comm false b = sym (and_false b)

-- a test that the other gives takes nothing from it
pub and_implied : (a b : Bool) → (b ≡ true → a ≡ true) → (a && b) ≡ b
and_implied true b h = refl
and_implied false true h = h refl
and_implied false false h = refl

pub not_and : (a b : Bool) → not (a && b) ≡ (not a || not b)
not_and true b = refl
not_and false b = refl

-- ---- tests of the items of a list

-- no item passes a test that always fails
pub any_never : {X : Type 0} (xs : List X) → list_any (λ x. false) xs ≡ false
any_never [] = refl
any_never (x ∷ xs) = any_never xs

pub any_and : {X : Type 0} (b : Bool) (p : X → Bool) (xs : List X) → list_any (λ x. b && p x) xs ≡ (b && list_any p xs)
any_and true p xs = refl
any_and false p xs = any_never xs

pub any_flat_map : {X Y : Type 0} (q : Y → Bool) (f : X → List Y) (xs : List X) → list_any q (flat_map f xs) ≡ list_any (λ x. list_any q (f x)) xs
any_flat_map q f [] = refl
any_flat_map q f (x ∷ xs) = list_any-append q (f x) (flat_map f xs) ∙ ap (λ (b : Bool). list_any q (f x) || b) (any_flat_map q f xs)

-- if no item passes, none is kept
pub none_kept : {X : Type 0} (p : X → Bool) (xs : List X) → list_any p xs ≡ false → filter p xs ≡ []
none_kept p [] e = refl
none_kept p (x ∷ xs) e =
    elim (p x) as (λ b. (b || list_any p xs) ≡ false → cond b (x ∷ filter p xs) (filter p xs) ≡ []) [
      | true ↦ λ f. absurd (false≢true (sym f))
      | false ↦ λ f. none_kept p xs f
    ] e
