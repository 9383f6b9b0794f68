-- A world that is opened. Proof plumbing.
use Rattle.std.proofs.Common.{◌≡◌, ◌∙◌, refl, ap, sym, subst, ℕ, suc, ◌+◌, true, List, [], ◌∷◌, ◌++◌, length, arith}
use Rattle.std.specs.Prelude.{replicate}
use Rattle.std.proofs.lemmas.List.{length-map, length-replicate}
use Rattle.sct_delta.specs.Entries.{Placed}
use Rattle.sct_site.specs.Cores.{Core}
use Rattle.sct_world.specs.Closed.{IsClosed}
use Rattle.sct_world.specs.Inside.{cores_from, held_by, state_of, IsWorld}
use Rattle.sct_world.specs.States.{State, empty_world, is_size}
use Rattle.sct_world.proofs.CoreLemmas.{cores-push}
use Rattle.sct_world.proofs.LawLemmas.{closed_opened}

-- one site more
pub opened_more : (g k : ℕ) → cores_from 1 g (replicate k []) ++ record { number = k + 1; group = g; arrivals = [] } ∷ [] ≡ cores_from 1 g (replicate (k + 1) [])
opened_more g k =
    let number : k + 1 ≡ 1 + k = omega arith in
    let count : suc k ≡ k + 1 = omega arith in
    ap (λ (m : ℕ). cores_from 1 g (replicate k []) ++ record { number = m; group = g; arrivals = [] } ∷ []) number
    ∙ cores-push 1 g k
    ∙ ap (λ (n : ℕ). cores_from 1 g (replicate n [])) count

held-cores : (n g : ℕ) (held : List (List Placed)) → held_by (cores_from n g held) ≡ held
held-cores n g [] = refl
held-cores n g (es ∷ held) = ap (λ (l : List (List Placed)). es ∷ l) (held-cores (n + 1) g held)

module _ (n : ℕ) (cores : List Core) (deltas : List (List Placed)) (is : cores ≡ cores_from 1 n (replicate n [])) (none : deltas ≡ []) where
  held_is : held_by cores ≡ replicate n []
  held_is = ap held_by is ∙ held-cores 1 n (replicate n [])

  count_is : length cores ≡ n
  count_is =
      let empty : List Placed = [] in
      sym (length-map cores (λ core. core.arrivals)) ∙ ap length held_is ∙ length-replicate n empty

  pub opened_state : state_of cores deltas ≡ empty_world n
  opened_state = λ i. record { held = held_is i; deltas = none i }

  pub opened_world : is_size n ≡ true → IsWorld cores deltas
  opened_world size = record {
    size = ap is_size count_is ∙ size;
    numbered = is ∙ sym (λ i. cores_from 1 (count_is i) (held_is i));
    closed = subst (λ (w : State). IsClosed w) (sym opened_state) (closed_opened n);
  }
