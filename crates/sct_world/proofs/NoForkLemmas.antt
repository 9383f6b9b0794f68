-- In a world no fork comes, and events keep what that rests on. Proof plumbing.
use Rattle.std.proofs.Common.{◌≡◌, ◌∙◌, ◌⊎◌, refl, ap, sym, subst, inl, inr, ℕ, zero, suc, ◌+◌, ◌-◌, true, false, not, cond, ◌&&◌, ◌||◌, List, [], ◌∷◌, ◌++◌, length, arith, nat_eq, nat_lt, get_or}
use Rattle.std.specs.Prelude.{Option, Some, None, IfSome, slice_set, slice_index_or}
use Rattle.std.specs.List.{find}
use Rattle.std.proofs.lemmas.Bool.Decides.{nat_tests}
use Rattle.std.proofs.lemmas.Bool.{eqb-true, eqb-false}
use Rattle.std.proofs.lemmas.List.{get_or-set_same, get_or-set_other, length-set}
use Rattle.std.proofs.lemmas.Option.{same_Some}
use Rattle.std.proofs.Math.Bool.{or-false}
use Rattle.sct_message.specs.declared.draft.Draft.{Draft}
use Rattle.sct_message.specs.Order.{same_message}
use Rattle.sct_set.proofs.ContentsLemmas.{same_itself}
use Rattle.sct_delta.specs.Entries.{Placed, log_of, same_entry, holds, IsArrivals, HasNoHole}
use Rattle.sct_delta.specs.Refusals.{message_at, is_other_than, is_held, is_fork, is_ahead, is_past, is_outside, has_site, firsts_after, first_refusal, outside_refusal, ahead_refusal, gap_refusal, vector_of}
use Rattle.sct_delta.specs.declared.fault.DeltaFault.TheVariants as fault
use Rattle.sct_delta.proofs.HeldLemmas.{one_entry}
use Rattle.sct_delta.proofs.JoinLemmas.{passed}
use Rattle.sct_site.specs.Cores.{logs_of, entries_above, fresh_entries, arrivals_joined, arrivals_taken, is_repeat, own_entry, refusal_by}
use Rattle.sct_site.proofs.ArrivalLemmas.{arrivals-joined, arrivals-push}
use Rattle.sct_site.proofs.HeldLemmas.{among_above, any_kept, held_number, kept_first, one_of, one_place, or_else, run_above, told_all, told_never, within}
use Rattle.sct_world.specs.Closed.{IsClosed}
use Rattle.sct_world.specs.Faults.{IsNoFork}
use Rattle.sct_world.specs.States.{State, is_no_site, held_at, core_at, with_held}
use Rattle.sct_world.proofs.StateLemmas.{held-with_same, inside}

-- ---- no fork

module _ (w : State) (closed : IsClosed w) (s : ℕ) where
  -- what is held at the number of an entry is this entry
  pub no_other : (e : Placed) → holds (held_at w e.origin) e ≡ true → (o : Option Draft) → message_at (log_of e.origin (held_at w s)) e.n ≡ o → is_other_than e.message o ≡ false
  no_other e own None is = refl
  no_other e own (Some x) is =
      let found : Placed = record { origin = e.origin; n = e.n; message = x } in
      let there : message_at (log_of e.origin (held_at w e.origin)) e.n ≡ Some x
      = one_place (held_at w e.origin) (closed.arrivals e.origin) found (closed.held s found (held_number (held_at w s) (closed.arrivals s) e.origin e.n x is)) in
      let same : x ≡ e.message = same_Some x e.message (sym there ∙ one_place (held_at w e.origin) (closed.arrivals e.origin) e own) in
      ap (λ (y : Draft). not (same_message y e.message)) same ∙ ap not (same_itself e.message)

  -- no entry that its origin holds is above the origin's own count
  pub not_ahead : (e : Placed) → holds (held_at w e.origin) e ≡ true → is_ahead s (logs_of (held_at w s)) e ≡ false
  not_ahead e own =
      elim (nat_eq e.origin s) as (λ b. nat_eq e.origin s ≡ b → (b && nat_lt (length (log_of s (held_at w s))) e.n) ≡ false) [
        | true ↦ λ same.
            let site : e.origin ≡ s = grind (arith, nat_tests) in
            within (log_of s (held_at w s)) e.n e.message
            (ap (λ (o : ℕ). message_at (log_of o (held_at w o)) e.n) (sym site) ∙ one_place (held_at w e.origin) (closed.arrivals e.origin) e own)
        | false ↦ λ other. refl
      ] refl

  -- an entry that its origin holds is of a site of the world
  pub not_outside : (e : Placed) → holds (held_at w e.origin) e ≡ true → is_outside (length w.held) e ≡ false
  not_outside e own = ap not (closed.inside e.origin e own)

  -- so a site refuses a delta neither for a fork nor for an entry ahead of its owner, nor for one of no site
  pub no_fork_here : (k : ℕ) → IfSome (first_refusal s (length w.held) (logs_of (held_at w s)) (slice_index_or w.deltas k [])) IsNoFork
  unfolding first_refusal
  no_fork_here k =
      let group : ℕ = length w.held in
      let d : List Placed = slice_index_or w.deltas k [] in
      let log : ℕ → List Draft = logs_of (held_at w s) in
      or_else IsNoFork (outside_refusal group d) _ (told_never IsNoFork (λ e. fault.BadSite) (is_outside group) d (λ e held. not_outside e (closed.cut k e held)))
      (or_else IsNoFork (ahead_refusal s log d) _ (told_never IsNoFork (λ e. fault.OwnAhead e.n) (is_ahead s log) d (λ e held. not_ahead e (closed.cut k e held)))
      (or_else IsNoFork (gap_refusal log d) _ (told_all IsNoFork (λ e. fault.Gap e.origin (vector_of log e.origin) e.n) (is_past log) (firsts_after 0 d) (λ e. tt) (find (is_past log) (firsts_after 0 d)))
      (told_never IsNoFork (λ e. fault.Fork e.origin e.n) (is_fork log) d (λ e held. no_other e (closed.cut k e held) (message_at (log e.origin) e.n) refl))))

-- ---- one site holds other entries

has_it : (n site : ℕ) → (nat_lt site 1 || nat_lt n site) ≡ false → has_site n site ≡ true
has_it n site there = grind (arith, nat_tests)

module _ (w : State) (s : ℕ) (there : is_no_site w s ≡ false) (es : List Placed) where
  abbrev Put : ℕ → Type 0
  Put x = ((held_at (with_held w s es) x ≡ es) × (x - 1 ≡ s - 1)) ⊎ (held_at (with_held w s es) x ≡ held_at w x)

  held_where : (x : ℕ) → Put x
  held_where x =
      elim (nat_eq (x - 1) (s - 1)) as (λ b. nat_eq (x - 1) (s - 1) ≡ b → Put x) [
        | true ↦ λ same.
            let place : x - 1 ≡ s - 1 = eqb-true (x - 1) (s - 1) same in
            inl (ap (λ (k : ℕ). get_or (slice_set w.held (s - 1) es) k []) place ∙ get_or-set_same w.held (s - 1) es [] (inside (length w.held) s there), place)
        | false ↦ λ other. inr (get_or-set_other w.held (s - 1) (x - 1) es [] (eqb-false (x - 1) (s - 1) other))
      ] refl

module _ (w : State) (closed : IsClosed w) (s : ℕ) (there : is_no_site w s ≡ false) (es : List Placed) (arrive : IsArrivals es)
    (keeps : (e : Placed) → holds (held_at w s) e ≡ true → holds es e ≡ true)
    (owned : (e : Placed) → holds es e ≡ true → (holds (held_at w e.origin) e ≡ true) ⊎ (e.origin ≡ s)) where
  still : (x : ℕ) (e : Placed) → holds (held_at w x) e ≡ true → holds (held_at (with_held w s es) x) e ≡ true
  still x e held =
      elim (held_where w s there es x) as (λ c. holds (held_at (with_held w s es) x) e ≡ true) [
        | inl at ↦ ap (λ (l : List Placed). holds l e) at.0 ∙ keeps e (ap (λ (k : ℕ). holds (get_or w.held k []) e) (sym at.1) ∙ held)
        | inr other ↦ ap (λ (l : List Placed). holds l e) other ∙ held
      ]

  at_own : (e : Placed) → holds es e ≡ true → holds (held_at (with_held w s es) e.origin) e ≡ true
  at_own e in_list =
      elim (owned e in_list) as (λ c. holds (held_at (with_held w s es) e.origin) e ≡ true) [
        | inl held ↦ still e.origin e held
        | inr own ↦ ap (λ (o : ℕ). holds (held_at (with_held w s es) o) e) own ∙ ap (λ (l : List Placed). holds l e) (held-with_same w s es there) ∙ in_list
      ]

  of_world : (e : Placed) → holds es e ≡ true → has_site (length w.held) e.origin ≡ true
  of_world e in_list =
      elim (owned e in_list) as (λ c. has_site (length w.held) e.origin ≡ true) [
        | inl held ↦ closed.inside e.origin e held
        | inr own ↦ ap (has_site (length w.held)) own ∙ has_it (length w.held) s there
      ]

  in_world : (x : ℕ) (e : Placed) → holds (held_at (with_held w s es) x) e ≡ true → has_site (length w.held) e.origin ≡ true
  in_world x e in_list =
      elim (held_where w s there es x) as (λ c. has_site (length w.held) e.origin ≡ true) [
        | inl at ↦ of_world e (ap (λ (l : List Placed). holds l e) (sym at.0) ∙ in_list)
        | inr other ↦ closed.inside x e (ap (λ (l : List Placed). holds l e) (sym other) ∙ in_list)
      ]

  pub closed_with : IsClosed (with_held w s es)
  closed_with = record {
    arrivals = λ x. elim (held_where w s there es x) as (λ c. IsArrivals (held_at (with_held w s es) x)) [
      | inl at ↦ subst (λ (l : List Placed). IsArrivals l) (sym at.0) arrive
      | inr other ↦ subst (λ (l : List Placed). IsArrivals l) (sym other) (closed.arrivals x)
    ];
    inside = λ x e in_list. ap (λ (n : ℕ). has_site n e.origin) (length-set w.held (s - 1) es) ∙ in_world x e in_list;
    runs = closed.runs;
    held = λ x e in_list. elim (held_where w s there es x) as (λ c. holds (held_at (with_held w s es) e.origin) e ≡ true) [
      | inl at ↦ at_own e (ap (λ (l : List Placed). holds l e) (sym at.0) ∙ in_list)
      | inr other ↦ still e.origin e (closed.held x e (ap (λ (l : List Placed). holds l e) (sym other) ∙ in_list))
    ];
    cut = λ k e in_list. still e.origin e (closed.cut k e in_list);
  }

-- ---- a take, an accepted delta, a cut

module _ (w : State) (closed : IsClosed w) (s : ℕ) (there : is_no_site w s ≡ false) where
  pub closed_taken : (m : Draft) → IsClosed (with_held w s (arrivals_taken (core_at w s) m))
  unfolding arrivals_taken
  closed_taken m =
      elim (is_repeat (core_at w s) m) as (λ b. IsClosed (with_held w s (cond b (held_at w s) (held_at w s ++ own_entry (core_at w s) m ∷ [])))) [
        | true ↦ closed_with w closed s there (held_at w s) (closed.arrivals s) (λ e held. held) (λ e held. inl (closed.held s e held))
        | false ↦
            closed_with w closed s there (held_at w s ++ own_entry (core_at w s) m ∷ []) (arrivals-push (held_at w s) (own_entry (core_at w s) m) (closed.arrivals s) refl)
            (λ e held. kept_first (held_at w s) (own_entry (core_at w s) m ∷ []) e held)
            (λ e held. elim (one_of (held_at w s) (own_entry (core_at w s) m ∷ []) e held) as (λ c. (holds (held_at w e.origin) e ≡ true) ⊎ (e.origin ≡ s)) [
              | inl was ↦ inl (closed.held s e was)
              | inr new ↦ inr (ap (λ (x : Placed). x.origin) (sym (one_entry (own_entry (core_at w s) m) e (sym (or-false (same_entry (own_entry (core_at w s) m) e)) ∙ new))))
            ])
      ]

  pub closed_joined : (k : ℕ) → refusal_by (core_at w s) (slice_index_or w.deltas k []) ≡ None → IsClosed (with_held w s (arrivals_joined (held_at w s) (slice_index_or w.deltas k [])))
  closed_joined k none =
      closed_with w closed s there (arrivals_joined (held_at w s) (slice_index_or w.deltas k []))
      (arrivals-joined s (length w.held) (held_at w s) (slice_index_or w.deltas k []) (closed.arrivals s) (closed.runs k) (passed s (length w.held) (logs_of (held_at w s)) (slice_index_or w.deltas k []) none))
      (λ e held. kept_first (held_at w s) (fresh_entries (held_at w s) (slice_index_or w.deltas k [])) e held)
      (λ e held. elim (one_of (held_at w s) (fresh_entries (held_at w s) (slice_index_or w.deltas k [])) e held) as (λ c. (holds (held_at w e.origin) e ≡ true) ⊎ (e.origin ≡ s)) [
        | inl was ↦ inl (closed.held s e was)
        | inr new ↦ inl (closed.cut k e (any_kept (λ x. not (is_held (logs_of (held_at w s)) x)) (λ x. same_entry x e) (slice_index_or w.deltas k []) new))
      ])

last_or : (ds : List (List Placed)) (x : List Placed) (k : ℕ) → (get_or (ds ++ x ∷ []) k [] ≡ get_or ds k []) ⊎ (get_or (ds ++ x ∷ []) k [] ≡ x)
last_or [] x zero = inr refl
last_or [] x (suc k) = inl refl
last_or (d ∷ ds) x zero = inl refl
last_or (d ∷ ds) x (suc k) = last_or ds x k

pub closed_cut : (w : State) → IsClosed w → (s : ℕ) (count : ℕ → ℕ) → IsClosed (record { held = w.held; deltas = w.deltas ++ entries_above count (held_at w s) ∷ [] })
closed_cut w closed s count = record {
  arrivals = closed.arrivals;
  inside = closed.inside;
  runs = λ k o. elim (last_or w.deltas (entries_above count (held_at w s)) k) as (λ c. HasNoHole o (get_or (w.deltas ++ entries_above count (held_at w s) ∷ []) k [])) [
    | inl old ↦ subst (λ (l : List Placed). HasNoHole o l) (sym old) (closed.runs k o)
    | inr new ↦ subst (λ (l : List Placed). HasNoHole o l) (sym new) (run_above count (held_at w s) (closed.arrivals s) o)
  ];
  held = closed.held;
  cut = λ k e in_list. elim (last_or w.deltas (entries_above count (held_at w s)) k) as (λ c. holds (held_at w e.origin) e ≡ true) [
    | inl old ↦ closed.cut k e (ap (λ (l : List Placed). holds l e) (sym old) ∙ in_list)
    | inr new ↦ closed.held s e (among_above count (held_at w s) e (ap (λ (l : List Placed). holds l e) (sym new) ∙ in_list))
  ];
}
