-- Blocks, one after another. Proof plumbing.
use Rattle.std.proofs.Common.{◌≡◌, ◌∙◌, ◌⊎◌, inl, inr, refl, ap, sym, ℕ, zero, suc, ◌+◌, ◌-◌, ◌≤◌, List, [], ◌∷◌, ◌++◌, length, map, take, drop, arith, append_assoc}
use Rattle.std.specs.Prelude.{Vec}
use Rattle.std.specs.Global.{Global}
use Rattle.std.specs.Arc.{arc_value}
use Rattle.std.specs.declared.sync.Arc.{Arc}
use Rattle.std.proofs.lemmas.List.{append-nil, take-append-drop}
use mathlib.Core.List.{IsPrefix}
use Rattle.sct_delta.specs.Entries.{Placed}
use Rattle.sct_snapshot.specs.Blocks.{in_blocks, joined_items}

blocks_on : (xs ys : List (Arc (Vec Placed Global) Global)) → in_blocks (xs ++ ys) ≡ in_blocks xs ++ in_blocks ys
blocks_on [] ys = refl
blocks_on (x ∷ xs) ys = ap (λ (l : List Placed). (arc_value x).items ++ l) (blocks_on xs ys) ∙ sym (append_assoc (arc_value x).items (in_blocks xs) (in_blocks ys))

pub blocks_same : (xs ys : List (Arc (Vec Placed Global) Global)) → map arc_value xs ≡ map arc_value ys → in_blocks xs ≡ in_blocks ys
blocks_same xs ys same = ap joined_items same

pub blocks_join : (xs : List (Arc (Vec Placed Global) Global)) (y : Arc (Vec Placed Global) Global) → in_blocks (xs ++ y ∷ []) ≡ in_blocks xs ++ (arc_value y).items
blocks_join xs y = blocks_on xs (y ∷ []) ∙ ap (λ (l : List Placed). in_blocks xs ++ l) (append-nil (arc_value y).items)

-- ---- what comes after a number of entries

drop_block : (left k rest : ℕ) (xs ys : List Placed) → left ≡ k + rest → (rest ≡ 0) ⊎ (k ≡ length xs) → k ≤ length xs → drop left (xs ++ ys) ≡ drop k xs ++ drop rest ys
drop_block left zero rest [] ys is which le = let same : left ≡ rest = omega (arith, is) in ap (λ (j : ℕ). drop j ys) same
drop_block left zero rest (x ∷ xs) ys is (inl none) le =
    let first : left ≡ 0 = omega (arith, is, none) in
    ap (λ (j : ℕ). drop j ((x ∷ xs) ++ ys)) first ∙ ap (λ (j : ℕ). (x ∷ xs) ++ drop j ys) (sym none)
drop_block left zero rest (x ∷ xs) ys is (inr full) le = absurd (omega (arith, full))
drop_block left (suc k) rest [] ys is which le = absurd (omega (arith, le))
drop_block zero (suc k) rest (x ∷ xs) ys is which le = absurd (omega (arith, is))
drop_block (suc left) (suc k) rest (x ∷ xs) ys is (inl none) le = drop_block left k rest xs ys (omega (arith, is)) (inl none) (omega (arith, le))
drop_block (suc left) (suc k) rest (x ∷ xs) ys is (inr all) le = drop_block left k rest xs ys (omega (arith, is)) (inr (omega (arith, all))) (omega (arith, le))

drop_front : (xs ys : List Placed) → drop (length xs) (xs ++ ys) ≡ ys
drop_front [] ys = refl
drop_front (x ∷ xs) ys = drop_front xs ys

-- ---- fronts

pub front_more : (front all : List Placed) (block : List Placed) (n k : ℕ) → IsPrefix front all → n ≡ length front → block ≡ take k (drop n all) → IsPrefix (front ++ block) all
front_more front all block n k pre len is =
    let rest : drop n all ≡ pre.0 = ap (λ (j : ℕ). drop j all) len ∙ ap (drop (length front)) (sym pre.1) ∙ drop_front front pre.0 in (
      drop k pre.0,
      ap (λ (l : List Placed). (front ++ l) ++ drop k pre.0) (is ∙ ap (take k) rest)
          ∙ append_assoc front (take k pre.0) (drop k pre.0)
          ∙ ap (λ (l : List Placed). front ++ l) (take-append-drop k pre.0)
          ∙ pre.1,
    )

pub front_whole : (front all rest : List Placed) (n : ℕ) → IsPrefix front all → n ≡ length front → rest ≡ drop n all → front ++ rest ≡ all
front_whole front all rest n pre len is =
    ap (λ (l : List Placed). front ++ l) (is ∙ ap (λ (j : ℕ). drop j all) len ∙ ap (drop (length front)) (sym pre.1) ∙ drop_front front pre.0) ∙ pre.1

-- ---- the entries of blocks after a number of them

-- The entries so far, and those after the ones that are still to be left out.
abbrev pub AreSoFar : List Placed → ℕ → List Placed → List Placed → Type 0
AreSoFar found left rest total = found ++ drop left rest ≡ total

drop_none : (left : ℕ) (rest : List Placed) → rest ≡ [] → drop left rest ≡ []
drop_none zero rest none = none
drop_none (suc n) rest none = ap (drop (suc n)) none

pub so_far_all : (found total : List Placed) (left : ℕ) (rest : List Placed) → AreSoFar found left rest total → rest ≡ [] → found ≡ total
so_far_all found total left rest was none = sym (append-nil found) ∙ ap (λ (l : List Placed). found ++ l) (sym (drop_none left rest none)) ∙ was

pub rest_more : (found later : List Placed) (left k : ℕ) (block : List Placed) → later ≡ found ++ drop k block → k ≤ length block → k ≤ left → (left - k ≡ 0) ⊎ (k ≡ length block)
    → (rest : List Placed) → later ++ drop (left - k) rest ≡ found ++ drop left (block ++ rest)
rest_more found later left k block is within most which rest =
    let cut : drop left (block ++ rest) ≡ drop k block ++ drop (left - k) rest = drop_block left k (left - k) block rest (omega (arith, most)) which within in
    ap (λ (l : List Placed). l ++ drop (left - k) rest) is
    ∙ append_assoc found (drop k block) (drop (left - k) rest)
    ∙ ap (λ (l : List Placed). found ++ l) (sym cut)
