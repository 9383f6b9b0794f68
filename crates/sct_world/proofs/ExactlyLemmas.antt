-- Convergence: what a site holds after events is exactly what it took or accepted. An induction over the events.
use Rattle.std.proofs.Common.{◌≡◌, ◌∙◌, refl, ap, sym, ℕ, ◌-◌, Bool, true, false, cond, ◌||◌, List, [], ◌∷◌, ◌++◌, map, length, nat_eq, nat_lt}
use Rattle.std.specs.FinSet as set
use Rattle.std.specs.Prelude.{Option, Some, None, Err}
use Rattle.std.specs.Arc.{arc_value}
use Rattle.std.proofs.lemmas.Bool.{eqb-true}
use Rattle.std.proofs.lemmas.List.{get_or-replicate, length-replicate}
use Rattle.sct_message.specs.declared.draft.Draft.{Draft}
use Rattle.sct_set.specs.Contents.{Contents, contents_of}
use Rattle.sct_set.proofs.ContentsLemmas.{union-none}
use Rattle.sct_delta.specs.Entries.{Placed, messages_of}
use Rattle.sct_delta.specs.declared.fault.DeltaFault.{DeltaFault}
use Rattle.sct_site.specs.Cores.{arrivals_taken, arrivals_joined, refusal_by, fresh_entries}
use Rattle.sct_site.proofs.AcceptLemmas.{contents-append}
use Rattle.sct_site.proofs.MessageLemmas.{joined_messages, taken_messages, union-more}
use Rattle.sct_world.specs.States.{State, empty_world, is_no_site, held_at, core_at, with_held, delta_at}
use Rattle.sct_world.specs.Histories.{site_of, step_accepted, step_handed, step_at, step_of, after_accepted, after_handed, after_at, world_after, world_after_all, outcome_of_step, outcome_of, outcomes_of}
use Rattle.sct_world.specs.Taken.{messages_of_delta, got_by, all_got_by, taken_at}
use Rattle.sct_world.specs.declared.event.Event.{Event}
use Rattle.sct_world.specs.declared.event.Event.TheVariants as event
use Rattle.sct_world.specs.declared.event.Outcome.{Outcome}
use Rattle.sct_world.specs.declared.event.Outcome.TheVariants as outcome
use Rattle.sct_world.specs.declared.fault.WorldFault.TheVariants as fault
use Rattle.sct_world.proofs.StateLemmas.{held-with_same, held-with_other, no_such, sites-after, sites-all, there-after, there-all, IsThere, inside}

-- ---- one event

-- what a site holds after another list was put at a site, by whether it is that site
module _ (i : ℕ) (w : State) (there : is_no_site w i ≡ false) (at : ℕ) (here : is_no_site w at ≡ false) where
  put_is : (arrivals : List Placed) (got : List Draft) → messages_of arrivals ≡ set.union (messages_of (held_at w at)) (contents_of got)
      → messages_of (held_at (with_held w at arrivals) i) ≡ set.union (messages_of (held_at w i)) (contents_of (cond (nat_eq at i) got []))
  put_is arrivals got is =
      elim (nat_eq at i) as (λ b. nat_eq at i ≡ b → messages_of (held_at (with_held w at arrivals) i) ≡ set.union (messages_of (held_at w i)) (contents_of (cond b got []))) [
        | true ↦ λ same.
            let site : at ≡ i = eqb-true at i same in
            ap (λ (k : ℕ). messages_of (held_at (with_held w at arrivals) k)) (sym site)
            ∙ ap messages_of (held-with_same w at arrivals here)
            ∙ is
            ∙ ap (λ (k : ℕ). set.union (messages_of (held_at w k)) (contents_of got)) site
        | false ↦ λ other. ap messages_of (held-with_other w at i arrivals there here other) ∙ sym (union-none (messages_of (held_at w i)))
      ] refl

module _ (i : ℕ) (D : List (List Placed)) where
  -- the messages of a site after an event are those before it and what the event brought to it
  abbrev Got : State → State → List Draft → Type 0
  Got w v got = messages_of (held_at v i) ≡ set.union (messages_of (held_at w i)) (contents_of got)

  nothing_got : (w : State) → Got w w []
  nothing_got w = sym (union-none (messages_of (held_at w i)))

  accepted_got : (w : State) → is_no_site w i ≡ false → (at : ℕ) → is_no_site w at ≡ false → (number : ℕ) (d : List Placed) → delta_at D number ≡ Some d → (fresh : ℕ) (r : Option DeltaFault)
      → Got w (after_accepted w at d r) (got_by i D (event.Hand number at) (outcome_of_step (step_accepted fresh r)))
  accepted_got w there at here number d is fresh None =
      put_is i w there at here (arrivals_joined (held_at w at) d) (map (λ e. e.message) d) (joined_messages (held_at w at) d)
      ∙ ap (λ (o : Option (List Placed)). set.union (messages_of (held_at w i)) (contents_of (cond (nat_eq at i) (messages_of_delta o) []))) (sym is)
  accepted_got w there at here number d is fresh (Some refusal) = nothing_got w

  handed_got : (w : State) → is_no_site w i ≡ false → (at : ℕ) → is_no_site w at ≡ false → (number : ℕ) → ((k : ℕ) (d : List Placed) → IsThere w k d → delta_at D k ≡ Some d) → (o : Option (List Placed)) → delta_at w.deltas number ≡ o
      → Got w (after_handed w at o) (got_by i D (event.Hand number at) (outcome_of_step (step_handed (core_at w at) o)))
  handed_got w there at here number finds None is = nothing_got w
  handed_got w there at here number finds (Some d) is =
      accepted_got w there at here number d (finds number d is) (length (fresh_entries (held_at w at) d)) (refusal_by (core_at w at) d)

  got_at : (w : State) → is_no_site w i ≡ false → ((k : ℕ) (d : List Placed) → IsThere w k d → delta_at D k ≡ Some d) → (e : Event) → is_no_site w (site_of e) ≡ false
      → Got w (after_at w e) (got_by i D e (outcome_of_step (step_at w e)))
  got_at w there finds (event.Take at m) here =
      put_is i w there at here (arrivals_taken (core_at w at) (arc_value m)) (arc_value m ∷ []) (taken_messages (core_at w at) (arc_value m))
  got_at w there finds (event.Cut at vector) here = nothing_got w
  got_at w there finds (event.Hand number at) here = handed_got w there at here number finds (delta_at w.deltas number) refl

  -- an event at no site brings nothing
  got_nowhere : (w : State) → is_no_site w i ≡ false → (e : Event) → is_no_site w (site_of e) ≡ true → Got w w (got_by i D e (outcome.Refused fault.BadSite))
  got_nowhere w there (event.Take at m) none =
      nothing_got w ∙ ap (λ (b : Bool). set.union (messages_of (held_at w i)) (contents_of (cond b (arc_value m ∷ []) []))) (sym (no_such w at i none there))
  got_nowhere w there (event.Cut at vector) none = nothing_got w
  got_nowhere w there (event.Hand number at) none = nothing_got w

  got_is : (w : State) → is_no_site w i ≡ false → ((k : ℕ) (d : List Placed) → IsThere w k d → delta_at D k ≡ Some d) → (e : Event)
      → Got w (world_after w e) (got_by i D e (outcome_of w e))
  unfolding world_after step_of
  got_is w there finds e =
      elim (is_no_site w (site_of e)) as (λ b. is_no_site w (site_of e) ≡ b → Got w (cond b w (after_at w e)) (got_by i D e (outcome_of_step (cond b (Err fault.BadSite) (step_at w e))))) [
        | true ↦ λ none. got_nowhere w there e none
        | false ↦ λ here. got_at w there finds e here
      ] refl

-- ---- all events

all_got : (i : ℕ) (events : List Event) (w : State) → is_no_site w i ≡ false → (D : List (List Placed))
    → ((k : ℕ) (d : List Placed) → IsThere (world_after_all w events) k d → delta_at D k ≡ Some d)
    → messages_of (held_at (world_after_all w events) i) ≡ set.union (messages_of (held_at w i)) (contents_of (all_got_by i D events (outcomes_of w events)))
all_got i [] w there D finds = sym (union-none (messages_of (held_at w i)))
all_got i (e ∷ events) w there D finds =
    all_got i events (world_after w e) (sites-after w e i ∙ there) D finds
    ∙ ap (λ (s : Contents). set.union s (contents_of (all_got_by i D events (outcomes_of (world_after w e) events))))
    (got_is i D w there (λ k d is. finds k d (there-all events (world_after w e) k d (there-after w e k d is))) e)
    ∙ union-more (messages_of (held_at w i)) (got_by i D e (outcome_of w e)) (all_got_by i D events (outcomes_of (world_after w e) events))

-- ---- from a world without an entry on

pub held-opened : (n i : ℕ) → is_no_site (empty_world n) i ≡ false → held_at (empty_world n) i ≡ []
held-opened n i there =
    let none : List Placed = [] in
    get_or-replicate n (i - 1) none none (inside n i (ap (λ (k : ℕ). nat_lt i 1 || nat_lt k i) (sym (length-replicate n none)) ∙ there))

-- each site holds exactly the messages that it took or accepted
pub exactly : (n : ℕ) (events : List Event) (i : ℕ) → is_no_site (world_after_all (empty_world n) events) i ≡ false
    → messages_of (held_at (world_after_all (empty_world n) events) i)
    ≡ taken_at i (world_after_all (empty_world n) events).deltas events (outcomes_of (empty_world n) events)
exactly n events i there =
    let opened_there : is_no_site (empty_world n) i ≡ false = sym (sites-all events (empty_world n) i) ∙ there in
    all_got i events (empty_world n) opened_there (world_after_all (empty_world n) events).deltas (λ k d is. is)
    ∙ ap (λ (es : List Placed). set.union (messages_of es) (taken_at i (world_after_all (empty_world n) events).deltas events (outcomes_of (empty_world n) events))) (held-opened n i opened_there)
    ∙ sym (contents-append [] (all_got_by i (world_after_all (empty_world n) events).deltas events (outcomes_of (empty_world n) events)))

-- ---- one event more

pub world-push : (w : State) (events : List Event) (e : Event) → world_after (world_after_all w events) e ≡ world_after_all w (events ++ e ∷ [])
world-push w [] e = refl
world-push w (d ∷ events) e = world-push (world_after w d) events e

pub outcomes-push : (w : State) (events : List Event) (e : Event) → outcomes_of w events ++ outcome_of (world_after_all w events) e ∷ [] ≡ outcomes_of w (events ++ e ∷ [])
outcomes-push w [] e = refl
outcomes-push w (d ∷ events) e = ap (λ (os : List Outcome). outcome_of w d ∷ os) (outcomes-push (world_after w d) events e)

-- the same, of a world and outcomes that are those of the events
pub exactly_of : (n : ℕ) (events : List Event) (w : State) (outcomes : List Outcome) → w ≡ world_after_all (empty_world n) events → outcomes ≡ outcomes_of (empty_world n) events
    → (site : ℕ) → is_no_site w site ≡ false → messages_of (held_at w site) ≡ taken_at site w.deltas events outcomes
exactly_of n events w outcomes world told site there =
    ap (λ (v : State). messages_of (held_at v site)) world
    ∙ exactly n events site (ap (λ (v : State). is_no_site v site) (sym world) ∙ there)
    ∙ sym (λ i. taken_at site (world i).deltas events (told i))
