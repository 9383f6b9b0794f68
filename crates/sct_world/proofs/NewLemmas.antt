-- Of a delta of a world, a site accepts or refuses what is numbered above its own vector as it does the whole. Proof plumbing.
use Rattle.std.proofs.Common.{◌≡◌, ◌∙◌, refl, ap, sym, subst, inl, inr, ℕ, ◌+◌, ◌-◌, ◌<◌, ◌≤◌, Bool, true, false, not, cond, ◌||◌, List, [], ◌∷◌, ◌++◌, filter, length, arith, nat_eq, nat_lt, Option, Some, None}
use Rattle.std.specs.Prelude.{slice_index_or}
use Rattle.std.specs.List.{AllByRecursion, find, list_any, slice_get}
use Rattle.std.specs.Option.{option_or}
use Rattle.std.proofs.Math.Bool.{or-true}
use Rattle.std.proofs.lemmas.Bool.{false≢true, ltb-false, or_parts}
use Rattle.std.proofs.lemmas.Bool.Decides.{nat_tests}
use Rattle.std.proofs.lemmas.Option.{slice_get_cases, slice_get_within}
use Rattle.sct_message.specs.declared.draft.Draft.{Draft}
use Rattle.sct_message.proofs.SameValues.{message_itself}
use Rattle.sct_delta.specs.Entries.{Placed, entries_from, held_from, log_of, numbered, same_entry, holds, IsDelta, HasNoHole}
use Rattle.sct_delta.specs.Laws.{IsFirstGap, IsGap}
use Rattle.sct_delta.specs.Refusals.{fault_of_entry, firsts_after, gap_refusal, fork_refusal, outside_refusal, ahead_refusal, first_refusal, is_ahead, is_fork, is_held, is_outside, is_past, is_same_as, message_at, vector_of}
use Rattle.sct_delta.specs.declared.fault.DeltaFault.{DeltaFault}
use Rattle.sct_delta.specs.declared.fault.DeltaFault.TheVariants as fault
use Rattle.sct_delta.proofs.FirstGapLemmas.{first_gap}
use Rattle.sct_delta.proofs.HeldLemmas.{entry_itself, holds_from, holds_run, passes_none, some_there}
use Rattle.sct_delta.proofs.JoinLemmas.{fresh_at, kept_is, none_told}
use Rattle.sct_delta.proofs.TestLemmas.{filter_agree}
use Rattle.sct_site.specs.Cores.{Core, fresh_entries, is_above, logs_of, refusal_by}
use Rattle.sct_site.proofs.ArrivalLemmas.{length-log}
use Rattle.sct_site.proofs.HeldLemmas.{any_kept, kept_passes, not_0, one_place}
use Rattle.sct_site.proofs.RangeLemmas.{above_of_delta}
use Rattle.sct_world.specs.Closed.{IsClosed}
use Rattle.sct_world.specs.States.{State, held_at, core_at}
use Rattle.sct_world.proofs.NoForkLemmas.{no_other, not_ahead, not_outside}

-- ---- tests over lists

-- what holds of each entry of a list, as a recursion
each_of : (P : Placed → Type 0) (es : List Placed) → ((e : Placed) → holds es e ≡ true → P e) → AllByRecursion P es
each_of P [] each = tt
each_of P (x ∷ es) each =
    (each x (ap (λ (b : Bool). b || holds es x) (entry_itself x)), each_of P es (λ e later. each e (ap (λ (b : Bool). same_entry x e || b) later ∙ or-true (same_entry x e))))

-- a test picks nothing more of what it picked
picked_again : (p : Placed → Bool) (es : List Placed) → filter p (filter p es) ≡ filter p es
picked_again p [] = refl
picked_again p (x ∷ es) =
    elim (p x) as (λ b. p x ≡ b → filter p (cond b (x ∷ filter p es) (filter p es)) ≡ cond b (x ∷ filter p es) (filter p es)) [
      | true ↦ λ t. (λ i. cond (t i) (x ∷ filter p (filter p es)) (filter p (filter p es))) ∙ ap (λ (l : List Placed). x ∷ l) (picked_again p es)
      | false ↦ λ t. picked_again p es
    ] refl

or_nothing : (o : Option DeltaFault) → option_or o None ≡ o
or_nothing None = refl
or_nothing (Some f) = refl

-- ---- a run has each number between two of its own

not_before_first : (h f : ℕ) → f ≤ h → nat_lt (h + 1) f ≡ false
not_before_first h f low = grind (arith, nat_tests)

module _ (ds : List Placed) (o f : ℕ) (ms : List Draft) (run : entries_from o ds ≡ numbered o f ms) where
  stands : (e : Placed) → e.origin ≡ o → holds ds e ≡ cond (nat_lt e.n f) false (is_same_as e.message (slice_get ms (e.n - f)))
  stands e of =
      holds_from e ds
      ∙ ap (λ (p : ℕ). holds (entries_from p ds) e) of
      ∙ ap (λ (l : List Placed). holds l e) run
      ∙ holds_run o f ms e of

  -- the run has an entry under the next number
  next_in_run : (h n : ℕ) (m : Draft) → f ≤ h → h + 1 < n → holds ds (record { origin = o; n = n; message = m }) ≡ true
      → (x : Draft) × (holds ds (record { origin = o; n = h + 1; message = x }) ≡ true)
  next_in_run h n m low past among =
      let later : nat_lt n f ≡ false = grind (arith, nat_tests, low, past) in
      let there : slice_get ms (n - f) ≡ Some m
      = some_there m (slice_get ms (n - f)) (ap (λ (b : Bool). cond b false (is_same_as m (slice_get ms (n - f)))) (sym later) ∙ sym (stands (record { origin = o; n = n; message = m }) refl) ∙ among) in
      let size : n - f < length ms = slice_get_within ms (n - f) m there in
      elim ((slice_get_cases ms (h + 1 - f)).1) as (λ c. (x : Draft) × (holds ds (record { origin = o; n = h + 1; message = x }) ≡ true)) [
        | inl found ↦ (
          found.0,
          stands (record { origin = o; n = h + 1; message = found.0 }) refl
              ∙ ap (λ (b : Bool). cond b false (is_same_as found.0 (slice_get ms (h + 1 - f)))) (not_before_first h f low)
              ∙ ap (is_same_as found.0) found.2
              ∙ message_itself found.0,
        )
        | inr beyond ↦ absurd (let end : length ms ≤ h + 1 - f = beyond.0 in omega (arith, end, size, low, past))
      ]

  -- no entry has a lower number than the first
  from_first : (e : Placed) → e.origin ≡ o → holds ds e ≡ true → nat_lt e.n f ≡ false
  from_first e of among =
      elim (nat_lt e.n f) as (λ b. cond b false (is_same_as e.message (slice_get ms (e.n - f))) ≡ true → b ≡ false) [
        | true ↦ λ t. absurd (false≢true t)
        | false ↦ λ t. refl
      ] (sym (stands e of) ∙ among)

-- ---- a gap is a gap of what is new

module _ (log : ℕ → List Draft) (count : ℕ → ℕ) (counts : (o : ℕ) → vector_of log o ≡ count o) (d : List Placed) (shape : IsDelta d) where
  abbrev new : List Placed
  new = filter (is_above count) d

  above_past : (o n : ℕ) → vector_of log o + 1 < n → nat_lt (count o) n ≡ true
  above_past o n past = let e : vector_of log o ≡ count o = counts o in grind (arith, nat_tests, past, e)

  to_new : (o least : ℕ) → IsGap log d o least → IsGap log new o least
  to_new o least gap = record {
    message = gap.message;
    among = kept_is (is_above count) (record { origin = o; n = least; message = gap.message }) (above_past o least gap.past) d ∙ gap.among;
    none_below = λ e in_new of. gap.none_below e (any_kept (is_above count) (λ x. same_entry x e) d in_new) of;
    past = gap.past;
  }

  -- no entry of the origin is below the gap
  none_lower : (o least : ℕ) (gap : IsGap log new o least) (e : Placed) → holds d e ≡ true → e.origin ≡ o → least ≤ e.n
  none_lower o least gap e in_d of =
      elim (nat_lt (count e.origin) e.n) as (λ b. nat_lt (count e.origin) e.n ≡ b → least ≤ e.n) [
        | true ↦ λ t. gap.none_below e (kept_is (is_above count) e t d ∙ in_d) of
        | false ↦ λ t.
            let run : HasNoHole o d = shape.runs o in
            let same : count e.origin ≡ vector_of log o = ap count of ∙ sym (counts o) in
            let below : e.n ≤ count e.origin = ltb-false (count e.origin) e.n t in
            let from : run.first ≤ e.n = ltb-false e.n run.first (from_first d o run.first (log_of o d) run.follow e of in_d) in
            let past : vector_of log o + 1 < least = gap.past in
            let next : (x : Draft) × (holds d (record { origin = o; n = vector_of log o + 1; message = x }) ≡ true)
            = next_in_run d o run.first (log_of o d) run.follow (vector_of log o) least gap.message (omega (arith, same, below, from)) past (any_kept (is_above count) (λ x. same_entry x (record { origin = o; n = least; message = gap.message })) d gap.among) in
            let is_new : nat_lt (count o) (vector_of log o + 1) ≡ true = let c : vector_of log o ≡ count o = counts o in grind (arith, nat_tests, c) in
            let low : least ≤ vector_of log o + 1
            = gap.none_below (record { origin = o; n = vector_of log o + 1; message = next.0 }) (kept_is (is_above count) (record { origin = o; n = vector_of log o + 1; message = next.0 }) is_new d ∙ next.1) refl in
            absurd (omega (arith, past, low))
      ] refl

  from_new : (o least : ℕ) → IsGap log new o least → IsGap log d o least
  from_new o least gap = record {
    message = gap.message;
    among = any_kept (is_above count) (λ x. same_entry x (record { origin = o; n = least; message = gap.message })) d gap.among;
    none_below = none_lower o least gap;
    past = gap.past;
  }

  abbrev gap_at : Placed → DeltaFault
  gap_at entry = fault.Gap entry.origin (vector_of log entry.origin) entry.n

  -- the first gap is the same
  first_in_new : (e : Placed) → gap_refusal log d ≡ Some (gap_at e) → gap_refusal log new ≡ Some (gap_at e)
  first_in_new e is =
      let told : (vector_of log e.origin ≡ vector_of log e.origin) × IsFirstGap log d e.origin e.n = (first_gap log d e.origin (vector_of log e.origin) e.n shape).0 is in
      let first : IsFirstGap log d e.origin e.n = told.1 in
      (first_gap log new e.origin (vector_of log e.origin) e.n (above_of_delta count d shape)).1
      (refl, record { gap = to_new e.origin e.n first.gap; first = λ other number gap. first.first other number (from_new other number gap) })

  first_in_all : (e : Placed) → gap_refusal log new ≡ Some (gap_at e) → gap_refusal log d ≡ Some (gap_at e)
  first_in_all e is =
      let told : (vector_of log e.origin ≡ vector_of log e.origin) × IsFirstGap log new e.origin e.n = (first_gap log new e.origin (vector_of log e.origin) e.n (above_of_delta count d shape)).0 is in
      let first : IsFirstGap log new e.origin e.n = told.1 in
      (first_gap log d e.origin (vector_of log e.origin) e.n shape).1
      (refl, record { gap = from_new e.origin e.n first.gap; first = λ other number gap. first.first other number (to_new other number gap) })

  none_is_some : (f : DeltaFault) → ◌≡◌ {A = Option DeltaFault} None (Some f) → ⊥
  none_is_some f is = cc

  pub same_gap : gap_refusal log new ≡ gap_refusal log d
  same_gap =
      elim (find (is_past log) (firsts_after 0 d)) as (λ r. find (is_past log) (firsts_after 0 d) ≡ r → gap_refusal log new ≡ gap_refusal log d) [
        | None ↦ λ none.
            let nothing : gap_refusal log d ≡ None = ap (fault_of_entry gap_at) none in
            elim (find (is_past log) (firsts_after 0 new)) as (λ r. find (is_past log) (firsts_after 0 new) ≡ r → gap_refusal log new ≡ gap_refusal log d) [
              | None ↦ λ also. ap (fault_of_entry gap_at) also ∙ sym nothing
              | Some e ↦ λ is. absurd (none_is_some (gap_at e) (sym nothing ∙ first_in_all e (ap (fault_of_entry gap_at) is)))
            ] refl
        | Some e ↦ λ is. let told : gap_refusal log d ≡ Some (gap_at e) = ap (fault_of_entry gap_at) is in first_in_new e told ∙ sym told
      ] refl

-- ---- in a world

module _ (w : State) (closed : IsClosed w) (s : ℕ) where
  abbrev log : ℕ → List Draft
  log = logs_of (held_at w s)

  -- of entries that their origins hold, a gap alone is refused
  only_gap : (ds : List Placed) → ((e : Placed) → holds ds e ≡ true → holds (held_at w e.origin) e ≡ true) → refusal_by (core_at w s) ds ≡ gap_refusal log ds
  unfolding first_refusal
  only_gap ds own =
      let group : ℕ = length w.held in
      (λ i. option_or (none_told (λ e. fault.BadSite) (is_outside group) ds (passes_none (is_outside group) ds (λ e among. not_outside w closed s e (own e among))) i)
      (option_or (none_told (λ e. fault.OwnAhead e.n) (is_ahead s log) ds (passes_none (is_ahead s log) ds (λ e among. not_ahead w closed s e (own e among))) i)
      (option_or (gap_refusal log ds)
      (none_told (λ e. fault.Fork e.origin e.n) (is_fork log) ds (passes_none (is_fork log) ds (λ e among. no_other w closed s e (own e among) (message_at (log e.origin) e.n) refl)) i))))
      ∙ or_nothing (gap_refusal log ds)

  module _ (d : List Placed) (own : (e : Placed) → holds d e ≡ true → holds (held_at w e.origin) e ≡ true) (shape : IsDelta d) where
    abbrev count : ℕ → ℕ
    count o = held_from o (held_at w s)

    abbrev above : List Placed
    above = filter (is_above count) d

    counted : (o : ℕ) → vector_of log o ≡ count o
    counted o = length-log o (held_at w s)

    from_1 : (e : Placed) → holds d e ≡ true → 1 ≤ e.n
    from_1 e among =
        let place : nat_eq e.n 0 ≡ false = not_0 (log_of e.origin (held_at w e.origin)) e.n e.message (one_place (held_at w e.origin) (closed.arrivals e.origin) e (own e among)) in
        grind (arith, nat_tests)

    agrees : (e : Placed) → holds d e ≡ true → is_above count e ≡ not (is_held log e)
    agrees e among =
        sym (
        fresh_at (log e.origin) e.n e.message (from_1 e among) (no_other w closed s e (own e among) (message_at (log e.origin) e.n) refl)
        ∙ ap (λ (k : ℕ). nat_lt k e.n) (counted e.origin)
        )

    -- what is above the vector is what is not held
    above_is_fresh : above ≡ fresh_entries (held_at w s) d
    above_is_fresh = filter_agree (is_above count) (λ e. not (is_held log e)) d (each_of (λ e. is_above count e ≡ not (is_held log e)) d agrees)

    pub fresh_alike : fresh_entries (held_at w s) above ≡ fresh_entries (held_at w s) d
    fresh_alike = ap (fresh_entries (held_at w s)) above_is_fresh ∙ picked_again (λ e. not (is_held log e)) d

    pub refusal_alike : refusal_by (core_at w s) above ≡ refusal_by (core_at w s) d
    refusal_alike =
        only_gap above (λ e among. own e (any_kept (is_above count) (λ x. same_entry x e) d among))
        ∙ same_gap log count counted d shape
        ∙ sym (only_gap d own)
