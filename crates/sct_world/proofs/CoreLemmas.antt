-- Numbered sites, and what a change at one of them leaves. Proof plumbing.
use Rattle.std.proofs.Common.{◌≡◌, ◌∙◌, refl, ap, sym, subst, ℕ, zero, suc, ◌+◌, ◌-◌, ◌<◌, false, ◌||◌, List, [], ◌∷◌, ◌++◌, length, arith, nat_lt, get_or}
use Rattle.std.specs.Prelude.{slice_set, replicate}
use Rattle.std.proofs.lemmas.Bool.Decides.{nat_tests}
use Rattle.std.proofs.lemmas.List.{length-map, length-set}
use Rattle.sct_delta.specs.Entries.{Placed}
use Rattle.sct_site.specs.Cores.{Core}
use Rattle.sct_world.specs.States.{State, is_size, is_no_site, held_at, core_at, with_held}
use Rattle.sct_world.specs.Inside.{cores_from, held_by, state_of, IsWorld}
use Rattle.sct_world.specs.Closed.{IsClosed}
use Rattle.sct_world.proofs.StateLemmas.{inside}

-- ---- numbered sites

get_from : (n g : ℕ) (held : List (List Placed)) (i : ℕ) (d : Core) (none : List Placed) → i < length held
    → get_or (cores_from n g held) i d ≡ record { number = n + i; group = g; arrivals = get_or held i none }
get_from n g [] i d none inside = absurd (omega arith)
get_from n g (es ∷ held) zero d none inside =
    let is : n ≡ n + 0 = omega arith in
    ap (λ (k : ℕ). record { number = k; group = g; arrivals = es }) is
get_from n g (es ∷ held) (suc i) d none inside =
    let is : n + 1 + i ≡ n + suc i = omega arith in
    get_from (n + 1) g held i d none (omega arith) ∙ ap (λ (k : ℕ). record { number = k; group = g; arrivals = get_or held i none }) is

set_from : (n g : ℕ) (held : List (List Placed)) (i : ℕ) (es : List Placed)
    → slice_set (cores_from n g held) i (record { number = n + i; group = g; arrivals = es }) ≡ cores_from n g (slice_set held i es)
set_from n g [] i es = refl
set_from n g (x ∷ held) zero es =
    let is : n + 0 ≡ n = omega arith in
    ap (λ (k : ℕ). record { number = k; group = g; arrivals = es } ∷ cores_from (n + 1) g held) is
set_from n g (x ∷ held) (suc i) es =
    let is : n + suc i ≡ n + 1 + i = omega arith in
    ap (λ (k : ℕ). record { number = n; group = g; arrivals = x } ∷ slice_set (cores_from (n + 1) g held) i (record { number = k; group = g; arrivals = es })) is
    ∙ ap (λ (cs : List Core). record { number = n; group = g; arrivals = x } ∷ cs) (set_from (n + 1) g held i es)

held-set : (cores : List Core) (i : ℕ) (c : Core) → held_by (slice_set cores i c) ≡ slice_set (held_by cores) i c.arrivals
held-set [] i c = refl
held-set (x ∷ cores) zero c = refl
held-set (x ∷ cores) (suc i) c = ap (λ (l : List (List Placed)). x.arrivals ∷ l) (held-set cores i c)

-- sites that are opened one after the other
pub cores-push : (n g : ℕ) (k : ℕ) → cores_from n g (replicate k []) ++ record { number = n + k; group = g; arrivals = [] } ∷ [] ≡ cores_from n g (replicate (suc k) [])
cores-push n g zero =
    let is : n + 0 ≡ n = omega arith in
    ap (λ (m : ℕ). record { number = m; group = g; arrivals = [] } ∷ []) is
cores-push n g (suc k) =
    let is : n + suc k ≡ n + 1 + k = omega arith in
    ap (λ (m : ℕ). record { number = n; group = g; arrivals = [] } ∷ (cores_from (n + 1) g (replicate k []) ++ record { number = m; group = g; arrivals = [] } ∷ [])) is
    ∙ ap (λ (cs : List Core). record { number = n; group = g; arrivals = [] } ∷ cs) (cores-push (n + 1) g k)

-- ---- one site of a world

its_number : (n site : ℕ) → (nat_lt site 1 || nat_lt n site) ≡ false → 1 + (site - 1) ≡ site
its_number n site there = grind (arith, nat_tests)

module _ (cores : List Core) (deltas : List (List Placed)) (numbered : cores ≡ cores_from 1 (length cores) (held_by cores)) where
  count_is : length cores ≡ length (held_by cores)
  count_is = sym (length-map cores (λ core. core.arrivals))

  pub core_is : (site : ℕ) (d : Core) → is_no_site (state_of cores deltas) site ≡ false → get_or cores (site - 1) d ≡ core_at (state_of cores deltas) site
  core_is site d there =
      ap (λ (cs : List Core). get_or cs (site - 1) d) numbered
      ∙ get_from 1 (length cores) (held_by cores) (site - 1) d [] (inside (length (held_by cores)) site there)
      ∙ (λ i. record { number = its_number (length (held_by cores)) site there i; group = count_is i; arrivals = held_at (state_of cores deltas) site })

  pub numbered-set : (site : ℕ) (c : Core) → is_no_site (state_of cores deltas) site ≡ false → c.number ≡ site → c.group ≡ length (held_by cores)
      → slice_set cores (site - 1) c ≡ cores_from 1 (length (slice_set cores (site - 1) c)) (held_by (slice_set cores (site - 1) c))
  numbered-set site c there number group =
      (λ i. slice_set (numbered i) (site - 1) (record { number = (number ∙ sym (its_number (length (held_by cores)) site there)) i; group = (group ∙ sym count_is) i; arrivals = c.arrivals }))
      ∙ set_from 1 (length cores) (held_by cores) (site - 1) c.arrivals
      ∙ ap (λ (n : ℕ). cores_from 1 n (slice_set (held_by cores) (site - 1) c.arrivals)) (sym (length-set cores (site - 1) c))
      ∙ ap (λ (l : List (List Placed)). cores_from 1 (length (slice_set cores (site - 1) c)) l) (sym (held-set cores (site - 1) c))

  pub state-set : (site : ℕ) (c : Core) → state_of (slice_set cores (site - 1) c) deltas ≡ with_held (state_of cores deltas) site c.arrivals
  state-set site c = λ i. record { held = held-set cores (site - 1) c i; deltas = deltas }

-- a world in which one site holds other entries
pub IsWorld-set : (cores : List Core) (deltas : List (List Placed)) (site : ℕ) (c : Core) → IsWorld cores deltas → is_no_site (state_of cores deltas) site ≡ false
    → c.number ≡ site → c.group ≡ length (held_by cores) → IsClosed (with_held (state_of cores deltas) site c.arrivals) → IsWorld (slice_set cores (site - 1) c) deltas
IsWorld-set cores deltas site c world there number group closed = record {
  size = ap is_size (length-set cores (site - 1) c) ∙ world.size;
  numbered = numbered-set cores deltas world.numbered site c there number group;
  closed = subst (λ (w : State). IsClosed w) (sym (state-set cores deltas world.numbered site c)) closed;
}
