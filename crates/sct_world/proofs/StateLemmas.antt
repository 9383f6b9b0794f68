-- What an event leaves of a world's sites and deltas. Proof plumbing.
use Rattle.std.proofs.Common.{◌≡◌, ◌≢◌, ◌∙◌, refl, ap, ℕ, zero, suc, ◌-◌, ◌<◌, true, false, cond, ◌||◌, List, [], ◌∷◌, ◌++◌, length, arith, nat_eq, nat_lt}
use Rattle.std.specs.Prelude.{Option, Some, None, Err}
use Rattle.std.specs.Arc.{arc_value}
use Rattle.std.specs.List.{slice_get}
use Rattle.std.proofs.lemmas.Bool.Decides.{nat_tests}
use Rattle.std.proofs.lemmas.List.{get_or-set_same, get_or-set_other, length-set}
use Rattle.sct_delta.specs.Entries.{Placed}
use Rattle.sct_delta.specs.Vectors.{count_in}
use Rattle.sct_delta.specs.declared.fault.DeltaFault.{DeltaFault}
use Rattle.sct_delta.proofs.LawLemmas.{got_longer}
use Rattle.sct_site.specs.Cores.{refusal_by, arrivals_taken, arrivals_joined, entries_above, fresh_entries}
use Rattle.sct_world.specs.States.{State, is_no_site, held_at, core_at, with_held, delta_at}
use Rattle.sct_world.specs.Histories.{site_of, step_accepted, step_handed, step_at, step_of, after_accepted, after_handed, after_at, world_after, world_after_all}
use Rattle.sct_world.specs.declared.event.Event.{Event}
use Rattle.sct_world.specs.declared.event.Event.TheVariants as event
use Rattle.sct_world.specs.declared.fault.WorldFault.{WorldFault}
use Rattle.sct_world.specs.declared.fault.WorldFault.TheVariants as fault

-- ---- what one site holds

pub inside : (n site : ℕ) → (nat_lt site 1 || nat_lt n site) ≡ false → site - 1 < n
inside n site there = grind (arith, nat_tests)

elsewhere : (n at site : ℕ) → (nat_lt site 1 || nat_lt n site) ≡ false → (nat_lt at 1 || nat_lt n at) ≡ false → nat_eq at site ≡ false → site - 1 ≢ at - 1
elsewhere n at site there here other same = absurd (grind (arith, nat_tests))

pub held-with_same : (w : State) (site : ℕ) (arrivals : List Placed) → is_no_site w site ≡ false → held_at (with_held w site arrivals) site ≡ arrivals
held-with_same w site arrivals there = get_or-set_same w.held (site - 1) arrivals [] (inside (length w.held) site there)

pub held-with_other : (w : State) (at site : ℕ) (arrivals : List Placed) → is_no_site w site ≡ false → is_no_site w at ≡ false → nat_eq at site ≡ false
    → held_at (with_held w at arrivals) site ≡ held_at w site
held-with_other w at site arrivals there here other =
    get_or-set_other w.held (at - 1) (site - 1) arrivals [] (elsewhere (length w.held) at site there here other)

apart : (n at site : ℕ) → (nat_lt at 1 || nat_lt n at) ≡ true → (nat_lt site 1 || nat_lt n site) ≡ false → nat_eq at site ≡ false
apart n at site none there = grind (arith, nat_tests)

-- a site that there is not is another one than one that there is
pub no_such : (w : State) (at site : ℕ) → is_no_site w at ≡ true → is_no_site w site ≡ false → nat_eq at site ≡ false
no_such w at site none there = apart (length w.held) at site none there

-- ---- the sites stay

same_size : (w : State) (site : ℕ) (arrivals : List Placed) → length (with_held w site arrivals).held ≡ length w.held
same_size w site arrivals = length-set w.held (site - 1) arrivals

size-accepted : (w : State) (site : ℕ) (delta : List Placed) (r : Option DeltaFault) → length (after_accepted w site delta r).held ≡ length w.held
size-accepted w site delta None = same_size w site (arrivals_joined (held_at w site) delta)
size-accepted w site delta (Some refusal) = refl

size-handed : (w : State) (site : ℕ) (d : Option (List Placed)) → length (after_handed w site d).held ≡ length w.held
size-handed w site None = refl
size-handed w site (Some delta) = size-accepted w site delta (refusal_by (core_at w site) delta)

size-at : (w : State) (e : Event) → length (after_at w e).held ≡ length w.held
size-at w (event.Take site message) = same_size w site (arrivals_taken (core_at w site) (arc_value message))
size-at w (event.Cut site vector) = refl
size-at w (event.Hand delta site) = size-handed w site (delta_at w.deltas delta)

pub size-after : (w : State) (e : Event) → length (world_after w e).held ≡ length w.held
unfolding world_after
size-after w e =
    elim (is_no_site w (site_of e)) as (λ b. length (cond b w (after_at w e)).held ≡ length w.held) [
      | true ↦ refl
      | false ↦ size-at w e
    ]

pub size-all : (events : List Event) (w : State) → length (world_after_all w events).held ≡ length w.held
size-all [] w = refl
size-all (e ∷ events) w = size-all events (world_after w e) ∙ size-after w e

pub sites-after : (w : State) (e : Event) (site : ℕ) → is_no_site (world_after w e) site ≡ is_no_site w site
sites-after w e site = ap (λ (n : ℕ). nat_lt site 1 || nat_lt n site) (size-after w e)

pub sites-all : (events : List Event) (w : State) (site : ℕ) → is_no_site (world_after_all w events) site ≡ is_no_site w site
sites-all events w site = ap (λ (n : ℕ). nat_lt site 1 || nat_lt n site) (size-all events w)

-- ---- a delta that was cut stays

abbrev pub IsThere : State → ℕ → List Placed → Type 0
IsThere w k delta = delta_at w.deltas k ≡ Some delta

there-append : (ds more : List (List Placed)) (k : ℕ) (delta : List Placed) → delta_at ds k ≡ Some delta → delta_at (ds ++ more) k ≡ Some delta
there-append ds more k delta is =
    elim (nat_eq k 0) as (λ b. cond b None (slice_get ds (k - 1)) ≡ Some delta → cond b None (slice_get (ds ++ more) (k - 1)) ≡ Some delta) [
      | true ↦ λ e. cc
      | false ↦ λ e. got_longer ds more (k - 1) delta e
    ] is

there-accepted : (w : State) (site : ℕ) (d : List Placed) (r : Option DeltaFault) → (after_accepted w site d r).deltas ≡ w.deltas
there-accepted w site d None = refl
there-accepted w site d (Some refusal) = refl

there-handed : (w : State) (site : ℕ) (d : Option (List Placed)) → (after_handed w site d).deltas ≡ w.deltas
there-handed w site None = refl
there-handed w site (Some d) = there-accepted w site d (refusal_by (core_at w site) d)

there-at : (w : State) (e : Event) (k : ℕ) (delta : List Placed) → IsThere w k delta → IsThere (after_at w e) k delta
there-at w (event.Take site message) k delta is = is
there-at w (event.Cut site vector) k delta is = there-append w.deltas (entries_above (count_in vector) (held_at w site) ∷ []) k delta is
there-at w (event.Hand number site) k delta is =
    ap (λ (ds : List (List Placed)). delta_at ds k) (there-handed w site (delta_at w.deltas number)) ∙ is

pub there-after : (w : State) (e : Event) (k : ℕ) (delta : List Placed) → IsThere w k delta → IsThere (world_after w e) k delta
unfolding world_after
there-after w e k delta is =
    elim (is_no_site w (site_of e)) as (λ b. IsThere (cond b w (after_at w e)) k delta) [
      | true ↦ is
      | false ↦ there-at w e k delta is
    ]

pub there-all : (events : List Event) (w : State) (k : ℕ) (delta : List Placed) → IsThere w k delta → IsThere (world_after_all w events) k delta
there-all [] w k delta is = is
there-all (e ∷ events) w k delta is = there-all events (world_after w e) k delta (there-after w e k delta is)

-- ---- a refused event leaves the world

stays-accepted : (w : State) (site fresh : ℕ) (d : List Placed) (f : WorldFault) (r : Option DeltaFault) → step_accepted fresh r ≡ Err f → after_accepted w site d r ≡ w
stays-accepted w site fresh d f None is = cc
stays-accepted w site fresh d f (Some refusal) is = refl

stays-handed : (w : State) (site : ℕ) (f : WorldFault) (o : Option (List Placed)) → step_handed (core_at w site) o ≡ Err f → after_handed w site o ≡ w
stays-handed w site f None is = refl
stays-handed w site f (Some d) is = stays-accepted w site (length (fresh_entries (held_at w site) d)) d f (refusal_by (core_at w site) d) is

stays-at : (w : State) (e : Event) (f : WorldFault) → step_at w e ≡ Err f → after_at w e ≡ w
stays-at w (event.Take site message) f is = cc
stays-at w (event.Cut site vector) f is = cc
stays-at w (event.Hand delta site) f is = stays-handed w site f (delta_at w.deltas delta) is

pub refused_stays : (w : State) (e : Event) (f : WorldFault) → step_of w e ≡ Err f → world_after w e ≡ w
unfolding step_of world_after
refused_stays w e f is =
    elim (is_no_site w (site_of e)) as (λ b. cond b (Err fault.BadSite) (step_at w e) ≡ Err f → cond b w (after_at w e) ≡ w) [
      | true ↦ λ none. refl
      | false ↦ λ refused. stays-at w e f refused
    ] is
