-- The laws of worlds.
use Rattle.std.proofs.Common.{◌≡◌, ◌∙◌, refl, ap, sym, subst, ℕ, zero, suc, ◌-◌, true, false, cond, List, [], ◌∷◌, ◌++◌, length, arith, nat_eq, nat_lt, get_or}
use Rattle.std.specs.Prelude.{Option, Some, None, slice_index_or, replicate}
use Rattle.std.specs.Arc.{arc_value}
use Rattle.std.specs.List.{slice_get}
use Rattle.std.proofs.lemmas.Bool.{false≢true, eqb-true}
use Rattle.std.proofs.lemmas.Option.{get_or_from_slice_get, same_Some}
use Rattle.std.specs.Cmp.{both_ways}
use Rattle.sct_message.specs.declared.draft.Draft.{Draft}
use Rattle.sct_delta.specs.Entries.{Placed, log_of, held_from, holds, IsArrivals}
use Rattle.sct_delta.specs.Refusals.{message_at}
use Rattle.sct_delta.specs.Vectors.{count_in}
use Rattle.sct_delta.specs.declared.fault.DeltaFault.{DeltaFault}
use Rattle.sct_site.specs.Cores.{Core, is_repeat, own_entry, arrivals_taken, arrivals_joined, fresh_entries, refusal_by}
use Rattle.sct_site.proofs.ArrivalLemmas.{length-log}
use Rattle.sct_message.specs.Sets.{MessageSet}
use Rattle.sct_reconcile.specs.Reports.{report_of, report_text_of}
use Rattle.sct_site.proofs.HeldLemmas.{at_number, held_number, kept_first, not_0, one_place, within}
use Rattle.sct_world.specs.Answers.{texts_of}
use Rattle.sct_world.specs.Closed.{IsClosed}
use Rattle.sct_world.specs.Laws.{history, EqualSetsHoldAlike, EqualSetsGiveEqualTexts, EqualSetsReportAlike, NeverLosesAnEntry, EqualVectorsInAWorldHoldAlike}
use Rattle.sct_world.specs.States.{State, empty_world, is_no_site, held_at, core_at, with_held, delta_at}
use Rattle.sct_world.specs.Histories.{site_of, after_accepted, after_handed, after_at, world_after, world_after_all}
use Rattle.sct_world.specs.declared.event.Event.{Event}
use Rattle.sct_world.specs.declared.event.Event.TheVariants as event
use Rattle.sct_world.proofs.ExactlyLemmas.{exactly}
use Rattle.sct_world.proofs.NoForkLemmas.{closed_taken, closed_joined, closed_cut}
use Rattle.sct_world.proofs.StateLemmas.{held-with_same, held-with_other, sites-after}

-- ---- equal sets

pub equal_sets : EqualSetsHoldAlike
equal_sets m n events others i j here there same = exactly m events i here ∙ same ∙ sym (exactly n others j there)

pub equal_answers : EqualSetsGiveEqualTexts
equal_answers m n events others i j here there same = ap texts_of (equal_sets m n events others i j here there same)

pub equal_reports : EqualSetsReportAlike
equal_reports m n events others i j here there same bank day list =
    ap (λ (held : MessageSet). report_text_of (report_of held bank day list)) (equal_sets m n events others i j here there same)

-- ---- a site never loses an entry

-- another list is put at a site: a site holds what it held, where that list does
put_keeps : (w : State) (at site : ℕ) (es : List Placed) (e : Placed) → is_no_site w site ≡ false → is_no_site w at ≡ false
    → (holds (held_at w at) e ≡ true → holds es e ≡ true) → holds (held_at w site) e ≡ true → holds (held_at (with_held w at es) site) e ≡ true
put_keeps w at site es e there here keeps held =
    elim (nat_eq at site) as (λ b. nat_eq at site ≡ b → holds (held_at (with_held w at es) site) e ≡ true) [
      | true ↦ λ same.
          let is : at ≡ site = eqb-true at site same in
          ap (λ (k : ℕ). holds (held_at (with_held w at es) k) e) (sym is)
          ∙ ap (λ (l : List Placed). holds l e) (held-with_same w at es here)
          ∙ keeps (ap (λ (k : ℕ). holds (held_at w k) e) is ∙ held)
      | false ↦ λ other. ap (λ (l : List Placed). holds l e) (held-with_other w at site es there here other) ∙ held
    ] refl

taken_keeps : (core : Core) (m : Draft) (e : Placed) → holds core.arrivals e ≡ true → holds (arrivals_taken core m) e ≡ true
unfolding arrivals_taken
taken_keeps core m e held =
    elim (is_repeat core m) as (λ b. holds (cond b core.arrivals (core.arrivals ++ own_entry core m ∷ [])) e ≡ true) [
      | true ↦ held
      | false ↦ kept_first core.arrivals (own_entry core m ∷ []) e held
    ]

module _ (site : ℕ) (e : Placed) where
  keeps_accepted : (w : State) → is_no_site w site ≡ false → (at : ℕ) → is_no_site w at ≡ false → (d : List Placed) (r : Option DeltaFault)
      → holds (held_at w site) e ≡ true → holds (held_at (after_accepted w at d r) site) e ≡ true
  keeps_accepted w there at here d None held =
      put_keeps w at site (arrivals_joined (held_at w at) d) e there here (kept_first (held_at w at) (fresh_entries (held_at w at) d) e) held
  keeps_accepted w there at here d (Some refusal) held = held

  keeps_handed : (w : State) → is_no_site w site ≡ false → (at : ℕ) → is_no_site w at ≡ false → (o : Option (List Placed))
      → holds (held_at w site) e ≡ true → holds (held_at (after_handed w at o) site) e ≡ true
  keeps_handed w there at here None held = held
  keeps_handed w there at here (Some d) held = keeps_accepted w there at here d (refusal_by (core_at w at) d) held

  keeps_at : (w : State) → is_no_site w site ≡ false → (event : Event) → is_no_site w (site_of event) ≡ false
      → holds (held_at w site) e ≡ true → holds (held_at (after_at w event) site) e ≡ true
  keeps_at w there (event.Take at m) here held =
      put_keeps w at site (arrivals_taken (core_at w at) (arc_value m)) e there here (taken_keeps (core_at w at) (arc_value m) e) held
  keeps_at w there (event.Cut at vector) here held = held
  keeps_at w there (event.Hand number at) here held = keeps_handed w there at here (delta_at w.deltas number) held

  keeps_after : (w : State) → is_no_site w site ≡ false → (event : Event) → holds (held_at w site) e ≡ true → holds (held_at (world_after w event) site) e ≡ true
  unfolding world_after
  keeps_after w there event held =
      elim (is_no_site w (site_of event)) as (λ b. is_no_site w (site_of event) ≡ b → holds (held_at (cond b w (after_at w event)) site) e ≡ true) [
        | true ↦ λ none. held
        | false ↦ λ here. keeps_at w there event here held
      ] refl

pub never_loses : NeverLosesAnEntry
never_loses w [] site e there held = held
never_loses w (event ∷ events) site e there held =
    never_loses (world_after w event) events site e (sites-after w event site ∙ there) (keeps_after site e w there event held)

-- ---- each history is closed

pub place_of : (ds : List (List Placed)) (number : ℕ) (d : List Placed) → delta_at ds number ≡ Some d → slice_index_or ds (number - 1) [] ≡ d
place_of ds number d is =
    elim (nat_eq number 0) as (λ b. cond b None (slice_get ds (number - 1)) ≡ Some d → slice_index_or ds (number - 1) [] ≡ d) [
      | true ↦ λ e. cc
      | false ↦ λ e. get_or_from_slice_get ds (number - 1) d [] e
    ] is

closed_accepted : (w : State) → IsClosed w → (at : ℕ) → is_no_site w at ≡ false → (k : ℕ) (r : Option DeltaFault) → refusal_by (core_at w at) (slice_index_or w.deltas k []) ≡ r
    → IsClosed (after_accepted w at (slice_index_or w.deltas k []) r)
closed_accepted w closed at here k None is = closed_joined w closed at here k is
closed_accepted w closed at here k (Some refusal) is = closed

closed_handed : (w : State) → IsClosed w → (at : ℕ) → is_no_site w at ≡ false → (number : ℕ) (o : Option (List Placed)) → delta_at w.deltas number ≡ o → IsClosed (after_handed w at o)
closed_handed w closed at here number None is = closed
closed_handed w closed at here number (Some d) is =
    subst (λ (l : List Placed). IsClosed (after_accepted w at l (refusal_by (core_at w at) l))) (place_of w.deltas number d is)
    (closed_accepted w closed at here (number - 1) (refusal_by (core_at w at) (slice_index_or w.deltas (number - 1) [])) refl)

closed_at : (w : State) → IsClosed w → (e : Event) → is_no_site w (site_of e) ≡ false → IsClosed (after_at w e)
closed_at w closed (event.Take at m) here = closed_taken w closed at here (arc_value m)
closed_at w closed (event.Cut at vector) here = closed_cut w closed at (count_in vector)
closed_at w closed (event.Hand number at) here = closed_handed w closed at here number (delta_at w.deltas number) refl

pub closed_after : (w : State) → IsClosed w → (e : Event) → IsClosed (world_after w e)
unfolding world_after
closed_after w closed e =
    elim (is_no_site w (site_of e)) as (λ b. is_no_site w (site_of e) ≡ b → IsClosed (cond b w (after_at w e))) [
      | true ↦ λ none. closed
      | false ↦ λ here. closed_at w closed e here
    ] refl

pub closed_all : (events : List Event) (w : State) → IsClosed w → IsClosed (world_after_all w events)
closed_all [] w closed = closed
closed_all (e ∷ events) w closed = closed_all events (world_after w e) (closed_after w closed e)

none_at : (n i : ℕ) (none : List Placed) → get_or (replicate n none) i none ≡ none
none_at zero i none = refl
none_at (suc n) zero none = refl
none_at (suc n) (suc i) none = none_at n i none

pub closed_opened : (n : ℕ) → IsClosed (empty_world n)
closed_opened n = record {
  arrivals = λ site. subst (λ (l : List Placed). IsArrivals l) (sym (none_at n (site - 1) [])) (λ o. refl);
  inside = λ site e held. absurd (false≢true (ap (λ (l : List Placed). holds l e) (sym (none_at n (site - 1) [])) ∙ held));
  runs = λ k o. record { first = 1; above_0 = omega arith; follow = refl };
  held = λ site e held. absurd (false≢true (ap (λ (l : List Placed). holds l e) (sym (none_at n (site - 1) [])) ∙ held));
  cut = λ k e held. absurd (false≢true held);
}

pub closed_history : (sites : ℕ) (events : List Event) → IsClosed (history sites events)
closed_history sites events = closed_all events (empty_world sites) (closed_opened sites)

-- ---- equal vectors

module _ (w : State) (closed : IsClosed w) where
  -- what one site holds a site with as many entries of that origin holds too
  held_alike : (i j : ℕ) (e : Placed) → held_from e.origin (held_at w i) ≡ held_from e.origin (held_at w j) → holds (held_at w i) e ≡ true → holds (held_at w j) e ≡ true
  held_alike i j e same held =
      let place : message_at (log_of e.origin (held_at w i)) e.n ≡ Some e.message = one_place (held_at w i) (closed.arrivals i) e held in
      let sizes : length (log_of e.origin (held_at w i)) ≡ length (log_of e.origin (held_at w j)) = length-log e.origin (held_at w i) ∙ same ∙ sym (length-log e.origin (held_at w j)) in
      at_number (log_of e.origin (held_at w j)) e.n (not_0 (log_of e.origin (held_at w i)) e.n e.message place)
      (ap (λ (n : ℕ). nat_lt n e.n) (sym sizes) ∙ within (log_of e.origin (held_at w i)) e.n e.message place)
      (holds (held_at w j) e ≡ true)
      (λ m is.
      let other : Placed = record { origin = e.origin; n = e.n; message = m } in
      let there : holds (held_at w j) other ≡ true = held_number (held_at w j) (closed.arrivals j) e.origin e.n m is in
      let mine : message_at (log_of e.origin (held_at w e.origin)) e.n ≡ Some e.message = one_place (held_at w e.origin) (closed.arrivals e.origin) e (closed.held i e held) in
      let theirs : message_at (log_of e.origin (held_at w e.origin)) e.n ≡ Some m = one_place (held_at w e.origin) (closed.arrivals e.origin) other (closed.held j other there) in
      let message : m ≡ e.message = same_Some m e.message (sym theirs ∙ mine) in
      ap (λ (x : Draft). holds (held_at w j) (record { origin = e.origin; n = e.n; message = x })) (sym message) ∙ there)

pub equal_vectors : EqualVectorsInAWorldHoldAlike
equal_vectors sites events i j same e =
    both_ways _ _
    (held_alike (history sites events) (closed_history sites events) i j e (same e.origin))
    (held_alike (history sites events) (closed_history sites events) j i e (sym (same e.origin)))
