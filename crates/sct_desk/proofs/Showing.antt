-- The steps on the published view keep its rule.
use Rattle.std.proofs.Common.{◌≡◌, ℕ, ◌≢◌, Bool, true, false, List, set, refl, subst, ⊎_elim, Some, None, ◌∙◌, Option, length}
use Rattle.std.specs.Prelude.{MatchOption, if◌then◌else◌, nat_lt}
use mathlib.Core.List.{IsPrefix}
use mathlib.Core.Option.{some}
use lib.ListN.{get_elem?}
use Rattle.crossbeam_utils.specs.Register.{Admits, TurnsAt, Forks, Merges}
use Rattle.atomic_table.proofs.Lists.{at_set, at_snoc}
use Rattle.logbook.specs.Pages.{Book}
use Rattle.sct_delta.specs.Entries.{messages_of}
use Rattle.sct_site.specs.Sights.{Sight}
use Rattle.sct_site.proofs.Prefixes.{prefix_self, prefix_trans}
use Rattle.sct_desk.specs.declared.shown.Shown.{Shown}
use Rattle.sct_desk.specs.Rules.{AllKnow, KeepsRule, Known, Knows, Shows, known_of, longer_known, nothing_known}

-- a history that is known is that of the same history
book_on : (s t : Sight) (o : Option Book) → s.book ≡ t.book → MatchOption o (Unit {0}) (λ book. book ≡ s.book)
    → MatchOption o (Unit {0}) (λ book. book ≡ t.book)
book_on s t None same known = tt
book_on s t (Some book) same known = known ∙ same

-- what was known is known of a longer list of the same history
knows_on : (s t : Sight) (v : Known) → s.book ≡ t.book → IsPrefix s.log t.log → Knows s v → Knows t v
knows_on s t v book pre known = (book_on s t v.book book known.0, prefix_trans v.log s.log t.log known.1 pre)

know_set : (s : Sight) (views : List Known) (seat : ℕ) (v : Known) → AllKnow s views → Knows s v → AllKnow s (set views seat v)
know_set s views seat v h known j u e =
    ⊎_elim (λ (t : (j ≡ seat) × (v ≡ u)). subst (λ (z : Known). Knows s z) t.1 known)
    (λ (t : (j ≢ seat) × (get_elem? views j ≡ some u)). h j u t.1)
    (at_set views seat j v u e)

-- a place is taken: its seat knows the empty list
pub admits : Admits KeepsRule nothing_known
admits x views h = (
  h.0,
  λ seat v at.
      ⊎_elim (h.1 seat v) (λ (e : nothing_known ≡ v). subst (λ (z : Known). Knows x.track z) e (tt, (x.track.log, refl)))
      (at_snoc views nothing_known v seat at),
)

-- a publication
pub publishes : (seat : ℕ) (v : Known) (x y : Shown) → x.track.book ≡ y.track.book → IsPrefix x.track.log y.track.log
    → y.view ≡ messages_of y.track.log → TurnsAt KeepsRule seat v x y Shows
publishes seat v x y book pre view views h at =
    let on : AllKnow y.track views = λ j u e. knows_on x.track y.track u book pre (h.1 j u e) in (
      known_of y.track,
      (view, know_set y.track views seat (known_of y.track) on (refl, prefix_self y.track.log)),
      (refl, view, on seat v at),
    )

-- an entry
pub enters : (seat : ℕ) (v : Known) (x : Shown) → TurnsAt KeepsRule seat v x x Shows
enters seat v x views h at = publishes seat v x x refl (prefix_self x.track.log) h.0 views h at

-- the writer reports what it knows
pub tells : (seat : ℕ) (v : Known) → Forks KeepsRule seat v v v
tells seat v x views h at = (
  h.0,
  λ j u e.
      ⊎_elim (know_set x.track views seat v h.1 (h.1 seat v at) j u)
      (λ (same : v ≡ u). subst (λ (z : Known). Knows x.track z) same (h.1 seat v at))
      (at_snoc (set views seat v) v u j e),
)

-- of two lists that are known the longer one is known
either_known : (s : Sight) (v w : Known) (b : Bool) → Knows s v → Knows s w → Knows s (if b then v else w)
either_known s v w true one other = one
either_known s v w false one other = other

-- a reader learns it
pub learns : (seat : ℕ) (v : Known) (other : ℕ) (w : Known) → Merges KeepsRule seat v other w (longer_known v w) nothing_known
learns seat v other w x views h at apart there =
    let both : Known = longer_known v w in
    let reported : Knows x.track w =
    ⊎_elim (λ (t : (other ≡ seat) × (both ≡ w)). absurd (apart t.0))
    (λ (t : (other ≢ seat) × (get_elem? views other ≡ some w)). h.1 other w t.1)
    (at_set views seat other both w there) in
    let known : Knows x.track both =
    either_known x.track v w (nat_lt (length w.log) (length v.log)) (h.1 seat v at) reported in (
      h.0,
      know_set x.track (set views seat both) other nothing_known (know_set x.track views seat both h.1 known) (tt, (x.track.log, refl)),
    )
