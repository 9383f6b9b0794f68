-- What one site of a world does, as the world's own event. Proof plumbing.
use Rattle.std.proofs.Common.{◌≡◌, ◌≢◌, ◌∙◌, refl, ap, sym, subst, ℕ, ◌-◌, ◌<◌, ◌≤◌, Bool, false, cond, List, [], ◌∷◌, ◌++◌, length, arith, nat_eq, get_or}
use Rattle.std.specs.Prelude.{Option, Some, None, IfSome, MatchOption, Result, Ok, Err, slice_set, slice_index_or}
use Rattle.std.specs.List.{slice_get}
use Rattle.std.proofs.lemmas.Bool.Decides.{nat_tests}
use Rattle.std.proofs.lemmas.Option.{slice_get_read, get_or_from_slice_get}
use Rattle.sct_message.specs.declared.draft.Draft.{Draft}
use Rattle.sct_delta.specs.Entries.{Placed}
use Rattle.sct_delta.specs.declared.fault.DeltaFault.{DeltaFault}
use Rattle.sct_delta.specs.declared.fault.DeltaFault.TheVariants as delta
use Rattle.sct_site.specs.declared.answers.Took.{Took}
use Rattle.sct_site.specs.Cores.{Core, took_by, arrivals_taken, refusal_by, fresh_entries, arrivals_joined, entries_above}
use Rattle.sct_world.specs.Closed.{IsClosed}
use Rattle.sct_world.specs.Faults.{IsNoFork}
use Rattle.sct_world.specs.Inside.{state_of, IsWorld}
use Rattle.sct_world.specs.States.{State, is_no_site, held_at, core_at, with_held, delta_at}
use Rattle.sct_world.specs.Histories.{step_taken, step_accepted, step_handed, after_accepted, after_handed}
use Rattle.sct_world.specs.declared.event.Step.{Step}
use Rattle.sct_world.specs.declared.event.Step.TheVariants as step
use Rattle.sct_world.specs.declared.fault.WorldFault.{WorldFault}
use Rattle.sct_world.specs.declared.fault.WorldFault.TheVariants as fault
use Rattle.sct_world.proofs.CoreLemmas.{core_is, state-set, IsWorld-set}
use Rattle.sct_world.proofs.NoForkLemmas.{no_fork_here, closed_taken, closed_joined, closed_cut}

-- ---- the delta of a number

delta_is : (ds : List (List Placed)) (number : ℕ) (d : List Placed) → nat_eq number 0 ≡ false → number ≤ length ds → d ≡ get_or ds (number - 1) d → delta_at ds number ≡ Some d
delta_is ds number d above within is =
    let place : number - 1 < length ds = grind (arith, nat_tests) in
    ap (λ (b : Bool). cond b None (slice_get ds (number - 1))) above ∙ slice_get_read ds (length ds) (number - 1) d refl place is

-- ---- what a hand is answered, by what the site answered

accepted_refused : (fresh : ℕ) (r : Option DeltaFault) (refusal : DeltaFault) → MatchOption r (refusal ≡ delta.Memory) (λ first. refusal ≡ first)
    → fault.Delta refusal ≢ fault.Delta delta.Memory → step_accepted fresh r ≡ Err (fault.Delta refusal)
accepted_refused fresh None refusal told other = absurd (other (ap fault.Delta told))
accepted_refused fresh (Some first) refusal told other = ap (λ (f : DeltaFault). Err (fault.Delta f)) (sym told)

told_no_fork : (r : Option DeltaFault) (refusal : DeltaFault) → MatchOption r (refusal ≡ delta.Memory) (λ first. refusal ≡ first) → IfSome r IsNoFork → IsNoFork refusal
told_no_fork None refusal told none = subst (λ (f : DeltaFault). IsNoFork f) (sym told) tt
told_no_fork (Some first) refusal told none = subst (λ (f : DeltaFault). IsNoFork f) (sym told) none

accepted_told : (fresh n : ℕ) (r : Option DeltaFault) → r ≡ None → n ≡ fresh → step_accepted fresh r ≡ Ok (step.Accepted n)
accepted_told fresh n r none is = ap (step_accepted fresh) none ∙ ap (λ (k : ℕ). Ok (step.Accepted k)) (sym is)

-- ---- one site of a world

module _ (cores : List Core) (deltas : List (List Placed)) (w : State) (view : state_of cores deltas ≡ w) (world : IsWorld cores deltas)
    (site : ℕ) (there : is_no_site w site ≡ false) (old : Core) (read : old ≡ get_or cores (site - 1) old) where
  there_too : is_no_site (state_of cores deltas) site ≡ false
  there_too = ap (λ (v : State). is_no_site v site) view ∙ there

  -- the site is the one that the world speaks of
  pub old_is : old ≡ core_at w site
  old_is = read ∙ core_is cores deltas world.numbered site old there_too ∙ ap (λ (v : State). core_at v site) view

  pub closed_now : IsClosed w
  closed_now = subst (λ (v : State). IsClosed v) view world.closed

  module _ (new : Core) where
    pub set_state : (es : List Placed) → new.arrivals ≡ es → state_of (slice_set cores (site - 1) new) deltas ≡ with_held w site es
    set_state es is =
        state-set cores deltas world.numbered site new
        ∙ (λ i. with_held (view i) site (is i))

    set_world : new.number ≡ old.number → new.group ≡ old.group → (es : List Placed) → new.arrivals ≡ es → IsClosed (with_held w site es) → IsWorld (slice_set cores (site - 1) new) deltas
    set_world number group es is closed =
        IsWorld-set cores deltas site new world there_too
        (number ∙ ap (λ (c : Core). c.number) old_is)
        (group ∙ ap (λ (c : Core). c.group) old_is ∙ ap (λ (v : State). length v.held) (sym view))
        (subst (λ (l : List Placed). IsClosed (with_held (state_of cores deltas) site l)) (sym is)
        (subst (λ (v : State). IsClosed (with_held v site es)) (sym view) closed))

    -- a take
    module _ (m n : Draft) (same : n ≡ m) (came : new.arrivals ≡ arrivals_taken old n) where
      pub taken_is : new.arrivals ≡ arrivals_taken (core_at w site) m
      taken_is = came ∙ (λ i. arrivals_taken (old_is i) (same i))

      pub world_taken : new.number ≡ old.number → new.group ≡ old.group → IsWorld (slice_set cores (site - 1) new) deltas
      world_taken number group = set_world number group (arrivals_taken (core_at w site) m) taken_is (closed_taken w closed_now site there m)

    -- a delta
    module _ (number : ℕ) (d : List Placed) (above : nat_eq number 0 ≡ false) (within : number ≤ length deltas) (cut : d ≡ get_or deltas (number - 1) d) where
      pub found : delta_at w.deltas number ≡ Some d
      found = ap (λ (v : State). delta_at v.deltas number) (sym view) ∙ delta_is deltas number d above within cut

      pub at_place : slice_index_or w.deltas (number - 1) [] ≡ d
      at_place =
          ap (λ (v : State). slice_index_or v.deltas (number - 1) []) (sym view)
          ∙ get_or_from_slice_get deltas (number - 1) d [] (slice_get_read deltas (length deltas) (number - 1) d refl (grind (arith, nat_tests)) cut)

      pub hand_refused : (refusal : DeltaFault) → MatchOption (refusal_by old d) (refusal ≡ delta.Memory) (λ first. refusal ≡ first)
          → fault.Delta refusal ≢ fault.Delta delta.Memory → step_handed (core_at w site) (delta_at w.deltas number) ≡ Err (fault.Delta refusal)
      hand_refused refusal told other =
          ap (step_handed (core_at w site)) found
          ∙ accepted_refused (length (fresh_entries (held_at w site) d)) (refusal_by (core_at w site) d) refusal
          (subst (λ (c : Core). MatchOption (refusal_by c d) (refusal ≡ delta.Memory) (λ first. refusal ≡ first)) old_is told) other

      pub hand_no_fork : (refusal : DeltaFault) → MatchOption (refusal_by old d) (refusal ≡ delta.Memory) (λ first. refusal ≡ first) → IsNoFork refusal
      hand_no_fork refusal told =
          told_no_fork (refusal_by (core_at w site) d) refusal
          (subst (λ (c : Core). MatchOption (refusal_by c d) (refusal ≡ delta.Memory) (λ first. refusal ≡ first)) old_is told)
          (subst (λ (l : List Placed). IfSome (refusal_by (core_at w site) l) IsNoFork) at_place (no_fork_here w closed_now site (number - 1)))

      module _ (none : refusal_by old d ≡ None) where
        not_refused : refusal_by (core_at w site) d ≡ None
        not_refused = ap (λ (c : Core). refusal_by c d) (sym old_is) ∙ none

        pub hand_accepted : (fresh : ℕ) → fresh ≡ length (fresh_entries old.arrivals d) → step_handed (core_at w site) (delta_at w.deltas number) ≡ Ok (step.Accepted fresh)
        hand_accepted fresh is =
            ap (step_handed (core_at w site)) found
            ∙ accepted_told (length (fresh_entries (held_at w site) d)) fresh (refusal_by (core_at w site) d) not_refused
            (is ∙ ap (λ (c : Core). length (fresh_entries c.arrivals d)) old_is)

        module _ (came : new.arrivals ≡ arrivals_joined old.arrivals d) where
          joined_is : new.arrivals ≡ arrivals_joined (held_at w site) d
          joined_is = came ∙ ap (λ (c : Core). arrivals_joined c.arrivals d) old_is

          pub state_handed : state_of (slice_set cores (site - 1) new) deltas ≡ after_handed w site (delta_at w.deltas number)
          state_handed =
              set_state (arrivals_joined (held_at w site) d) joined_is
              ∙ sym (ap (after_accepted w site d) not_refused)
              ∙ sym (ap (after_handed w site) found)

          pub world_handed : new.number ≡ old.number → new.group ≡ old.group → IsWorld (slice_set cores (site - 1) new) deltas
          world_handed same_number same_group =
              set_world same_number same_group (arrivals_joined (held_at w site) d) joined_is
              (subst (λ (l : List Placed). IsClosed (with_held w site (arrivals_joined (held_at w site) l))) at_place
              (closed_joined w closed_now site there (number - 1) (subst (λ (l : List Placed). refusal_by (core_at w site) l ≡ None) (sym at_place) not_refused)))

-- what a take is answered
pub took_told : (w : State) (site : ℕ) (old : Core) (m n : Draft) (t : Took) (s : Step) → old ≡ core_at w site → n ≡ m → t ≡ took_by old n → s ≡ step_taken t
    → ◌≡◌ {A = Result Step WorldFault} (Ok (step_taken (took_by (core_at w site) m))) (Ok s)
took_told w site old m n t s old_is same took is = ap (λ (x : Step). Ok x) (sym (is ∙ ap step_taken (took ∙ (λ i. took_by (old_is i) (same i)))))

-- a world with a delta more
pub world_cut : (cores : List Core) (deltas more : List (List Placed)) (w : State) (site : ℕ) (count : ℕ → ℕ) (d : List Placed) → state_of cores deltas ≡ w → IsWorld cores deltas
    → d ≡ entries_above count (held_at w site) → more ≡ deltas ++ d ∷ [] → IsWorld cores more
world_cut cores deltas more w site count d view world is added = record {
  size = world.size;
  numbered = world.numbered;
  closed =
      let path : more ≡ deltas ++ entries_above count (held_at (state_of cores deltas) site) ∷ []
      = added ∙ ap (λ (l : List Placed). deltas ++ l ∷ []) (is ∙ ap (λ (v : State). entries_above count (held_at v site)) (sym view)) in
      subst (λ (l : List (List Placed)). IsClosed (state_of cores l)) (sym path) (closed_cut (state_of cores deltas) world.closed site count);
}
