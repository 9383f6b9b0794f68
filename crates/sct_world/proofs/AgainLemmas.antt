-- To hand a delta again changes nothing. Proof plumbing.
use Rattle.std.proofs.Common.{◌≡◌, ◌∙◌, refl, ap, ℕ, ◌+◌, ◌-◌, Bool, true, false, not, cond, List, [], ◌++◌, length}
use Rattle.std.specs.Prelude.{Option, Some, None, Ok, Err}
use Rattle.std.specs.List.{list_any}
use Rattle.std.proofs.lemmas.List.{append-nil, set-get_or}
use Rattle.sct_delta.proofs.HeldLemmas.{passes_none}
use Rattle.sct_delta.specs.Entries.{Placed, log_of, holds}
use Rattle.sct_delta.specs.Refusals.{message_at, is_held, is_outside, is_ahead, is_past, is_fork}
use Rattle.sct_delta.specs.declared.fault.DeltaFault.{DeltaFault}
use Rattle.sct_delta.proofs.JoinLemmas.{IsPassed, passed, unrefused}
use Rattle.sct_message.proofs.Tests.{none_kept as filter_none}
use Rattle.sct_site.specs.Cores.{logs_of, arrivals_joined, fresh_entries, refusal_by}
use Rattle.sct_site.proofs.HeldLemmas.{held_stands, joined_holds, none_first, not_past, one_place, within}
use Rattle.sct_world.specs.Closed.{IsClosed}
use Rattle.sct_world.specs.Laws.{history, ChangesNothing, HandingAgainChangesNothing}
use Rattle.sct_world.specs.States.{State, is_no_site, held_at, core_at, with_held, delta_at}
use Rattle.sct_world.specs.Histories.{step_accepted, step_handed, step_at, step_of, after_accepted, after_handed, after_at, world_after, world_after_all}
use Rattle.sct_world.specs.declared.event.Event.{Event}
use Rattle.sct_world.specs.declared.event.Event.TheVariants as event
use Rattle.sct_world.specs.declared.event.Step.TheVariants as step
use Rattle.sct_world.specs.declared.fault.WorldFault.TheVariants as fault
use Rattle.sct_world.proofs.LawLemmas.{never_loses, closed_history, closed_after, closed_all}
use Rattle.sct_world.proofs.NoForkLemmas.{no_other, not_ahead}
use Rattle.sct_world.proofs.StateLemmas.{held-with_same, sites-after, sites-all, size-after, size-all, there-after, there-all}

-- ---- a delta of which each entry is held

module _ (w : State) (closed : IsClosed w) (s number : ℕ) (d : List Placed) (cut : delta_at w.deltas number ≡ Some d)
    (sites : list_any (is_outside (length w.held)) d ≡ false) (all : (x : Placed) → holds d x ≡ true → holds (held_at w s) x ≡ true) where
  own : (x : Placed) → holds d x ≡ true → holds (held_at w x.origin) x ≡ true
  own x in_delta = closed.held s x (all x in_delta)

  all_held : fresh_entries (held_at w s) d ≡ []
  all_held = filter_none (λ e. not (is_held (logs_of (held_at w s)) e)) d (passes_none _ d (λ x in_delta. ap not (held_stands (held_at w s) (closed.arrivals s) x (all x in_delta))))

  nothing_refused : refusal_by (core_at w s) d ≡ None
  nothing_refused = unrefused s (length w.held) (logs_of (held_at w s)) d (record {
    inside = sites;
    known = passes_none (is_ahead s (logs_of (held_at w s))) d (λ x in_delta. not_ahead w closed s x (own x in_delta));
    no_gap = none_first (is_past (logs_of (held_at w s))) 0 d (passes_none (is_past (logs_of (held_at w s))) d (λ x in_delta.
        not_past (length (log_of x.origin (held_at w s))) x.n
        (within (log_of x.origin (held_at w s)) x.n x.message (one_place (held_at w s) (closed.arrivals s) x (all x in_delta)))));
    no_fork = passes_none (is_fork (logs_of (held_at w s))) d (λ x in_delta. no_other w closed s x (own x in_delta) (message_at (log_of x.origin (held_at w s)) x.n) refl);
  })

  -- the world accepts it, and nothing of it is new
  pub answered_again : step_at w (event.Hand number s) ≡ Ok (step.Accepted 0)
  answered_again =
      ap (step_handed (core_at w s)) cut
      ∙ ap (step_accepted (length (fresh_entries (held_at w s) d))) nothing_refused
      ∙ ap (λ (l : List Placed). Ok (step.Accepted (length l))) all_held

  -- and stays as it is
  pub left_again : after_at w (event.Hand number s) ≡ w
  left_again =
      ap (after_handed w s) cut
      ∙ ap (after_accepted w s d) nothing_refused
      ∙ ap (λ (l : List Placed). with_held w s (held_at w s ++ l)) all_held
      ∙ ap (with_held w s) (append-nil (held_at w s))
      ∙ ap (λ (h : List (List Placed)). record { held = h; deltas = w.deltas }) (set-get_or w.held (s - 1) [])

  again : is_no_site w s ≡ false → ChangesNothing w (event.Hand number s)
  unfolding step_of world_after
  again there = record {
    answer = ap (λ (b : Bool). cond b (Err fault.BadSite) (step_at w (event.Hand number s))) there ∙ answered_again;
    world = ap (λ (b : Bool). cond b w (after_at w (event.Hand number s))) there ∙ left_again;
  }

-- ---- a delta that was accepted

-- What an accepted hand tells: the delta was cut, and nothing of it was refused.
record WasAccepted (w : State) (number s : ℕ) : Type 0 where
  delta : List Placed
  there : is_no_site w s ≡ false
  cut : delta_at w.deltas number ≡ Some delta
  fits : refusal_by (core_at w s) delta ≡ None

accepted_by : (w : State) (number s fresh k : ℕ) (d : List Placed) → is_no_site w s ≡ false → delta_at w.deltas number ≡ Some d → (r : Option DeltaFault) → refusal_by (core_at w s) d ≡ r
    → step_accepted k r ≡ Ok (step.Accepted fresh) → WasAccepted w number s
accepted_by w number s fresh k d there cut None none is = record { delta = d; there = there; cut = cut; fits = none }
accepted_by w number s fresh k d there cut (Some refusal) none is = cc

handed_by : (w : State) (number s fresh : ℕ) → is_no_site w s ≡ false → (o : Option (List Placed)) → delta_at w.deltas number ≡ o → step_handed (core_at w s) o ≡ Ok (step.Accepted fresh) → WasAccepted w number s
handed_by w number s fresh there None cut is = cc
handed_by w number s fresh there (Some d) cut is = accepted_by w number s fresh (length (fresh_entries (held_at w s) d)) d there cut (refusal_by (core_at w s) d) refl is

was_accepted : (w : State) (number s fresh : ℕ) → step_of w (event.Hand number s) ≡ Ok (step.Accepted fresh) → WasAccepted w number s
unfolding step_of
was_accepted w number s fresh is =
    elim (is_no_site w s) as (λ b. is_no_site w s ≡ b → cond b (Err fault.BadSite) (step_handed (core_at w s) (delta_at w.deltas number)) ≡ Ok (step.Accepted fresh) → WasAccepted w number s) [
      | true ↦ λ none e. cc
      | false ↦ λ there e. handed_by w number s fresh there (delta_at w.deltas number) refl e
    ] refl is

-- the site holds each entry of the delta afterwards
held_after : (w : State) → IsClosed w → (number s : ℕ) (a : WasAccepted w number s) (x : Placed) → holds a.delta x ≡ true → holds (held_at (world_after w (event.Hand number s)) s) x ≡ true
unfolding world_after
held_after w closed number s a x in_delta =
    ap (λ (b : Bool). holds (held_at (cond b w (after_at w (event.Hand number s))) s) x) a.there
    ∙ ap (λ (o : Option (List Placed)). holds (held_at (after_handed w s o) s) x) a.cut
    ∙ ap (λ (r : Option DeltaFault). holds (held_at (after_accepted w s a.delta r) s) x) a.fits
    ∙ ap (λ (l : List Placed). holds l x) (held-with_same w s (arrivals_joined (held_at w s) a.delta) a.there)
    ∙ joined_holds (held_at w s) a.delta (closed.arrivals s) x in_delta

pub handing_again : HandingAgainChangesNothing
handing_again sites before between number s fresh is =
    let w : State = history sites before in
    let closed : IsClosed w = closed_history sites before in
    let a : WasAccepted w number s = was_accepted w number s fresh is in
    let e : Event = event.Hand number s in
    let v : State = world_after_all (world_after w e) between in
    let f : IsPassed s (length w.held) (logs_of (held_at w s)) a.delta = passed s (length w.held) (logs_of (held_at w s)) a.delta a.fits in
    again v (closed_all between (world_after w e) (closed_after w closed e)) s number a.delta
    (there-all between (world_after w e) number a.delta (there-after w e number a.delta a.cut))
    (ap (λ (n : ℕ). list_any (is_outside n) a.delta) (size-all between (world_after w e) ∙ size-after w e) ∙ f.inside)
    (λ x in_delta. never_loses (world_after w e) between s x (sites-after w e s ∙ a.there) (held_after w closed number s a x in_delta))
    (sites-all between (world_after w e) s ∙ sites-after w e s ∙ a.there)
