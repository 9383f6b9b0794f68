-- A hand, by what the site answers to the entries that are new to it. Proof plumbing.
use Rattle.std.proofs.Common.{◌≡◌, ◌≢◌, ◌∙◌, ap, sym, subst, ℕ, ◌-◌, ◌<◌, ◌≤◌, true, false, List, [], ◌++◌, filter, length, arith, get_or, nat_eq}
use Rattle.std.specs.Prelude.{Option, None, MatchOption, Result, Ok, Err, slice_set, slice_index_or}
use Rattle.std.proofs.lemmas.Bool.Decides.{nat_tests}
use Rattle.std.proofs.lemmas.List.{get_or_default, length-map}
use Rattle.sct_delta.specs.Entries.{Placed, held_from, holds, IsDelta}
use Rattle.sct_delta.specs.declared.fault.DeltaFault.{DeltaFault}
use Rattle.sct_delta.specs.declared.fault.DeltaFault.TheVariants as delta
use Rattle.sct_site.specs.Cores.{Core, arrivals_joined, fresh_entries, is_above, refusal_by}
use Rattle.sct_world.specs.Closed.{IsClosed}
use Rattle.sct_world.specs.Faults.{IsNoFork}
use Rattle.sct_world.specs.Histories.{step_handed, after_handed}
use Rattle.sct_world.specs.Inside.{deltas_kept, entries_kept, held_by, state_of, IsKeeping}
use Rattle.sct_world.specs.States.{State, is_no_site, held_at, core_at, delta_at}
use Rattle.sct_world.specs.declared.event.Step.TheVariants as step
use Rattle.sct_world.specs.declared.fault.WorldFault.TheVariants as fault
use Rattle.sct_world.specs.declared.world.KeptDelta.{KeptDelta}
use Rattle.sct_world.proofs.KeepLemmas.{keeping_on, state_same}
use Rattle.sct_world.proofs.NewLemmas.{fresh_alike, refusal_alike}
use Rattle.sct_world.proofs.WorldLemmas.{closed_now, hand_refused, hand_no_fork, hand_accepted, old_is, state_handed, world_handed}

above_0 : (n : ℕ) → n ≢ 0 → nat_eq n 0 ≡ false
above_0 n other = grind (arith, nat_tests)

module _ (cores : List Core) (deltas : List KeptDelta) (w : State) (view : state_of cores (deltas_kept cores deltas) ≡ w) (keeping : IsKeeping cores deltas)
    (site : ℕ) (there : is_no_site w site ≡ false) (old : Core) (read : old ≡ get_or cores (site - 1) old) (after : Core)
    (number : ℕ) (some : number ≢ 0) (within : number ≤ length deltas) (new : List Placed)
    (new_is : new ≡ filter (is_above (λ o. held_from o (held_at w site))) (slice_index_or w.deltas (number - 1) [])) (shape : IsDelta (slice_index_or w.deltas (number - 1) [])) where
  abbrev all : List (List Placed)
  all = deltas_kept cores deltas

  abbrev d : List Placed
  d = get_or w.deltas (number - 1) []

  above : nat_eq number 0 ≡ false
  above = above_0 number some

  size : length all ≡ length deltas
  size = length-map deltas (entries_kept (held_by cores))

  inside_all : number ≤ length all
  inside_all = omega (arith, size, within)

  place : number - 1 < length all
  place = let one : number ≢ 0 = some in grind (arith, size, within, one)

  cut : d ≡ get_or all (number - 1) d
  cut = ap (λ (v : State). get_or v.deltas (number - 1) []) (sym view) ∙ get_or_default all (number - 1) [] d place

  core_is : old ≡ core_at w site
  core_is = old_is cores all w view keeping.world site there old read

  closed : IsClosed w
  closed = closed_now cores all w view keeping.world site there old read

  own : (e : Placed) → holds d e ≡ true → holds (held_at w e.origin) e ≡ true
  own e among = closed.cut (number - 1) e among

  -- the site refuses what is new as it does the delta, and takes the same of it
  same_refusal : refusal_by old new ≡ refusal_by old d
  same_refusal =
      (λ i. refusal_by (core_is i) (new_is i))
      ∙ refusal_alike w closed site d own shape
      ∙ ap (λ (c : Core). refusal_by c d) (sym core_is)

  same_fresh : fresh_entries old.arrivals new ≡ fresh_entries old.arrivals d
  same_fresh =
      (λ i. fresh_entries (ap (λ (c : Core). c.arrivals) core_is i) (new_is i))
      ∙ fresh_alike w closed site d own shape
      ∙ ap (λ (c : Core). fresh_entries c.arrivals d) (sym core_is)

  told : (refusal : DeltaFault) → MatchOption (refusal_by old new) (refusal ≡ delta.Memory) (λ first. refusal ≡ first) → MatchOption (refusal_by old d) (refusal ≡ delta.Memory) (λ first. refusal ≡ first)
  told refusal is = subst (λ (r : Option DeltaFault). MatchOption r (refusal ≡ delta.Memory) (λ first. refusal ≡ first)) same_refusal is

  pub is_refused : (refusal : DeltaFault) → MatchOption (refusal_by old new) (refusal ≡ delta.Memory) (λ first. refusal ≡ first)
      → fault.Delta refusal ≢ fault.Delta delta.Memory → step_handed (core_at w site) (delta_at w.deltas number) ≡ Err (fault.Delta refusal)
  is_refused refusal is other = hand_refused cores all w view keeping.world site there old read after number d above inside_all cut refusal (told refusal is) other

  pub is_no_fork : (refusal : DeltaFault) → MatchOption (refusal_by old new) (refusal ≡ delta.Memory) (λ first. refusal ≡ first) → IsNoFork refusal
  is_no_fork refusal is = hand_no_fork cores all w view keeping.world site there old read after number d above inside_all cut refusal (told refusal is)

  module _ (none : refusal_by old new ≡ None) where
    not_refused : refusal_by old d ≡ None
    not_refused = sym same_refusal ∙ none

    pub is_accepted : (fresh : ℕ) → fresh ≡ length (fresh_entries old.arrivals new) → step_handed (core_at w site) (delta_at w.deltas number) ≡ Ok (step.Accepted fresh)
    is_accepted fresh is = hand_accepted cores all w view keeping.world site there old read after number d above inside_all cut not_refused fresh (is ∙ ap length same_fresh)

    module _ (came : after.arrivals ≡ arrivals_joined old.arrivals new) where
      joined : after.arrivals ≡ arrivals_joined old.arrivals d
      joined = came ∙ ap (λ (l : List Placed). old.arrivals ++ l) same_fresh

      pub state_after : state_of (slice_set cores (site - 1) after) (deltas_kept (slice_set cores (site - 1) after) deltas) ≡ after_handed w site (delta_at w.deltas number)
      state_after =
          state_same cores deltas w view keeping site there old read after (fresh_entries old.arrivals new) came
          ∙ state_handed cores all w view keeping.world site there old read after number d above inside_all cut not_refused joined

      pub keeping_after : after.number ≡ old.number → after.group ≡ old.group → IsKeeping (slice_set cores (site - 1) after) deltas
      keeping_after same_number same_group =
          keeping_on cores deltas w view keeping site there old read after (fresh_entries old.arrivals new) came
          (world_handed cores all w view keeping.world site there old read after number d above inside_all cut not_refused joined same_number same_group)
