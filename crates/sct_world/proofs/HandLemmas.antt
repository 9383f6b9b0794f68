-- What one site hands to another, and why it is refused. Proof plumbing.
use Rattle.std.proofs.Common.{◌≡◌, ◌≢◌, ◌∙◌, refl, ap, sym, subst, inl, inr, ℕ, ◌+◌, ◌<◌, ◌≤◌, Bool, true, false, not, cond, ◌||◌, List, [], ◌∷◌, ◌++◌, filter, length, arith, nat_eq, nat_lt, get_or}
use Rattle.std.specs.Prelude.{Option, Some, None, IfSome, MatchOption, Result, Ok, Err, IfOk, IfErr, slice_set}
use Rattle.std.specs.Result.{IsErrAnd}
use Rattle.std.specs.List.{list_any, find}
use Rattle.std.proofs.lemmas.Bool.Decides.{nat_tests}
use Rattle.std.proofs.lemmas.Bool.{false≢true, ltb-true, and_parts, eqb-true, eqb-false}
use Rattle.std.proofs.lemmas.Option.{slice_get_read, get_or_from_slice_get}
use Rattle.std.proofs.lemmas.List.{append-nil, get_or-set_same, get_or-set_other, length-set}
use Rattle.sct_message.specs.declared.draft.Draft.{Draft}
use Rattle.sct_message.specs.Order.{same_message}
use Rattle.sct_message.proofs.AscendingLemmas.{any_ascending}
use Rattle.sct_message.proofs.Members.{list_any-filter}
use Rattle.sct_set.proofs.ContentsLemmas.{same_itself}
use Rattle.sct_delta.specs.Entries.{Placed, is_from, entries_from, log_of, held_from, same_entry, holds, IsArrivals, IsDelta}
use Rattle.sct_delta.specs.Laws.{IsFitting, IsReached}
use Rattle.sct_delta.specs.Refusals.{message_at, is_other_than, is_held, is_fork, is_ahead, is_past, is_outside, has_site, firsts_after, fault_of_entry, first_refusal, outside_refusal, ahead_refusal, gap_refusal, vector_of}
use Rattle.sct_delta.specs.declared.fault.DeltaFault.{DeltaFault}
use Rattle.sct_delta.specs.declared.fault.DeltaFault.TheVariants as fault
use Rattle.sct_delta.proofs.EntryLemmas.{from-append}
use Rattle.sct_delta.proofs.FittingLemmas.{refused_where_it_does_not_fit}
use Rattle.sct_delta.proofs.HeldLemmas.{passes_none, one_entry}
use Rattle.sct_delta.proofs.JoinLemmas.{IsPassed, passed}
use Rattle.sct_message.proofs.Tests.{and_implied, none_kept as filter_none}
use Rattle.sct_delta.proofs.TestLemmas.{none_also}
use Rattle.sct_site.specs.Cores.{Core, IsSite, logs_of, is_above, entries_above, fresh_entries, arrivals_joined, refusal_by}
use Rattle.sct_site.proofs.AboveLemmas.{entry_total, entry_same}
use Rattle.sct_site.proofs.ArrivalLemmas.{length-log}
use Rattle.sct_site.proofs.HeldLemmas.{among_above, any_kept, at_number, found_in, held_number, joined_holds, kept_first, kept_passes, not_0, one_of, one_place, or_else, told_never, within}
use Rattle.sct_world.specs.Settling.{no_core, core_in, held_by_some, IsSiteKept, AreSitesKept, IsWhy, IsAhead, HoldApart, HasAll, HasEach, IsWholeSite, IsWholeOfOne, OfOneGroup}
use Rattle.sct_world.proofs.KeptLemmas.{place_some, same_kept}

-- ---- numbers and tests

above_0 : (n : ℕ) → nat_eq n 0 ≡ false → nat_lt 0 n ≡ true
above_0 n e = grind (arith, nat_tests)

no_site_0 : (group o : ℕ) → has_site group o ≡ true → o ≢ 0
no_site_0 group o there is = absurd (grind (arith, nat_tests))

still_past : (k n : ℕ) → nat_lt (0 + 1) n ≡ false → nat_lt (k + 1) n ≡ false
still_past k n e = grind (arith, nat_tests)

has_first : (size n : ℕ) → nat_eq n 0 ≡ false → nat_lt size n ≡ false → nat_lt size 1 ≡ false
has_first size n above within = grind (arith, nat_tests)

-- ---- the whole of what a site holds

entry_above : (es : List Placed) → IsArrivals es → (e : Placed) → holds es e ≡ true → nat_eq e.n 0 ≡ false
entry_above es arrive e held = not_0 (log_of e.origin es) e.n e.message (one_place es arrive e held)

module _ (count : ℕ → ℕ) (empty : (o : ℕ) → count o ≡ 0) (es : List Placed) (arrive : IsArrivals es) (d : List Placed) (cut : d ≡ entries_above count es) where
  pub whole_among : (e : Placed) → holds d e ≡ true → holds es e ≡ true
  whole_among e held = among_above count es e (ap (λ (l : List Placed). holds l e) (sym cut) ∙ held)

  all_above : (e : Placed) → nat_lt (count e.origin) e.n ≡ true → holds (entries_above count es) e ≡ holds es e
  unfolding entries_above
  all_above e above =
      any_ascending entry_total entry_same (λ x. same_entry x e) (filter (is_above count) es)
      ∙ list_any-filter (λ x. same_entry x e) (is_above count) es
      ∙ ap (λ (p : Placed → Bool). list_any p es) (λ i x. and_implied (is_above count x) (same_entry x e) (λ same. ap (is_above count) (one_entry x e same) ∙ above) i)

  pub whole_has : (e : Placed) → holds es e ≡ true → holds d e ≡ true
  whole_has e held =
      ap (λ (l : List Placed). holds l e) cut
      ∙ all_above e (ap (λ (k : ℕ). nat_lt k e.n) (empty e.origin) ∙ above_0 e.n (entry_above es arrive e held))
      ∙ held

-- ---- what is found is refused for what it is

module _ (P : DeltaFault → Type 0) (tells : Placed → DeltaFault) (p : Placed → Bool) (ds : List Placed) where
  told_found : ((e : Placed) → holds ds e ≡ true → p e ≡ true → P (tells e)) → IfSome (fault_of_entry tells (find p ds)) P
  told_found each =
      elim (find p ds) as (λ o. find p ds ≡ o → IfSome (fault_of_entry tells o) P) [
        | None ↦ λ is. tt
        | Some e ↦ λ is. let found : (holds ds e ≡ true) × (p e ≡ true) = found_in p ds e is in each e found.0 found.1
      ] refl

none_told : (P : DeltaFault → Type 0) (tells : Placed → DeltaFault) (p : Placed → Bool) (ds : List Placed) → list_any p ds ≡ false → IfSome (fault_of_entry tells (find p ds)) P
none_told P tells p [] none = tt
none_told P tells p (d ∷ ds) none =
    elim (p d) as (λ b. (b || list_any p ds) ≡ false → IfSome (fault_of_entry tells (cond b (Some d) (find p ds))) P) [
      | true ↦ λ e. absurd (false≢true (sym e))
      | false ↦ λ e. none_told P tells p ds e
    ] none

another : (m : Draft) (o : Option Draft) → is_other_than m o ≡ true → (Q : Type 0) → ((x : Draft) → o ≡ Some x → m ≢ x → Q) → Q
another m None other Q found = absurd (false≢true other)
another m (Some x) other Q found =
    found x refl (λ same. false≢true (sym (ap not (ap (λ (y : Draft). same_message y m) (sym same) ∙ same_itself m)) ∙ other))

-- ---- one site hands all that it holds to another

module _ (cores : List Core) (from to : ℕ) (there : to < length cores) (giver : IsSite (core_in cores from)) (taker : IsSite (core_in cores to))
    (one_group : (core_in cores from).group ≡ (core_in cores to).group) (d : List Placed) (shape : IsDelta d)
    (among : (e : Placed) → holds d e ≡ true → holds (core_in cores from).arrivals e ≡ true)
    (has : (e : Placed) → holds (core_in cores from).arrivals e ≡ true → holds d e ≡ true) where
  abbrev own : ℕ
  own = (core_in cores to).number

  abbrev held : List Placed
  held = (core_in cores to).arrivals

  abbrev gives : List Placed
  gives = (core_in cores from).arrivals

  -- the delta begins each origin with its first entry
  first_of : (e : Placed) → holds d e ≡ true → IsReached (λ o. []) d e.origin
  first_of e in_delta =
      let here : holds gives e ≡ true = among e in_delta in
      let place : message_at (log_of e.origin gives) e.n ≡ Some e.message = one_place gives giver.order e here in
      at_number (log_of e.origin gives) 1 refl (has_first (length (log_of e.origin gives)) e.n (entry_above gives giver.order e here) (within (log_of e.origin gives) e.n e.message place))
      (IsReached (λ o. []) d e.origin)
      (λ m is. record {
        entry = record { origin = e.origin; n = 1; message = m };
        among = has _ (held_number gives giver.order e.origin 1 m is);
        from = refl;
        reached = omega arith;
      })

  fits_nothing : IsFitting 0 (core_in cores from).group (λ o. []) d
  fits_nothing = record {
    inside = λ e in_delta. giver.inside e (among e in_delta);
    known = λ e in_delta is. absurd (no_site_0 (core_in cores from).group e.origin (giver.inside e (among e in_delta)) is);
    no_gap = first_of;
    no_fork = λ e in_delta low.
        let above : nat_eq e.n 0 ≡ false = entry_above gives giver.order e (among e in_delta) in
        let none : e.n ≤ 0 = low in
        absurd (eqb-false e.n 0 above (omega (arith, none)));
  }

  no_gap : (log : ℕ → List Draft) → list_any (is_past log) (firsts_after 0 d) ≡ false
  no_gap log =
      let f : IsPassed 0 (core_in cores from).group (λ o. []) d
      = passed 0 (core_in cores from).group (λ o. []) d ((refused_where_it_does_not_fit 0 (core_in cores from).group (λ o. []) d shape).1 fits_nothing) in
      none_also (is_past (λ o. [])) (is_past log) (λ e. still_past (length (log e.origin)) e.n) (firsts_after 0 d) f.no_gap

  why_ahead : (e : Placed) → holds d e ≡ true → is_ahead own (logs_of held) e ≡ true → IsAhead cores e.n
  why_ahead e in_delta is =
      let parts : (nat_eq e.origin own ≡ true) × (nat_lt (length (log_of own held)) e.n ≡ true) = and_parts (nat_eq e.origin own) (nat_lt (length (log_of own held)) e.n) is in
      let owner : e.origin ≡ own = eqb-true e.origin own parts.0 in
      let above : length (log_of own held) < e.n = ltb-true (length (log_of own held)) e.n parts.1 in
      let count : length (log_of own held) ≡ held_from e.origin held = length-log own held ∙ ap (λ (o : ℕ). held_from o held) (sym owner) in
      record { holder = from; owner = to; entry = e; there = there; held = among e in_delta; number = refl; of_owner = owner; above = omega (arith, above, count) }

  why_fork : (e : Placed) → holds d e ≡ true → is_fork (logs_of held) e ≡ true → HoldApart cores e.origin e.n
  why_fork e in_delta is =
      another e.message (message_at (log_of e.origin held) e.n) is (HoldApart cores e.origin e.n) (λ x at different. record {
        one = from;
        other = to;
        message = e.message;
        another = x;
        held = among e in_delta;
        also_held = held_number held taker.order e.origin e.n x at;
        different = different;
      })

  why_refused : IfSome (refusal_by (core_in cores to) d) (IsWhy cores)
  unfolding first_refusal
  why_refused =
      let log : ℕ → List Draft = logs_of held in
      let group : ℕ = (core_in cores to).group in
      or_else (IsWhy cores) (outside_refusal group d) _ (told_never (IsWhy cores) (λ e. fault.BadSite) (is_outside group) d (λ e in_delta.
      ap not (ap (λ (g : ℕ). has_site g e.origin) (sym one_group) ∙ giver.inside e (among e in_delta))))
      (or_else (IsWhy cores) (ahead_refusal own log d) _ (told_found (IsWhy cores) (λ e. fault.OwnAhead e.n) (is_ahead own log) d why_ahead)
      (or_else (IsWhy cores) (gap_refusal log d) _ (none_told (IsWhy cores) (λ e. fault.Gap e.origin (vector_of log e.origin) e.n) (is_past log) (firsts_after 0 d) (no_gap log))
      (told_found (IsWhy cores) (λ e. fault.Fork e.origin e.n) (is_fork log) d why_fork)))

  why_told : (o : Option DeltaFault) (refusal : DeltaFault) → MatchOption o (refusal ≡ fault.Memory) (λ first. refusal ≡ first) → IfSome o (IsWhy cores) → IsWhy cores refusal
  why_told None refusal told why = subst (IsWhy cores) (sym told) tt
  why_told (Some first) refusal told why = subst (IsWhy cores) (sym told) why

  pub why : (refusal : DeltaFault) → MatchOption (refusal_by (core_in cores to) d) (refusal ≡ fault.Memory) (λ first. refusal ≡ first) → IsWhy cores refusal
  why refusal told = why_told (refusal_by (core_in cores to) d) refusal told why_refused

  module _ (none : refusal_by (core_in cores to) d ≡ None) (new : Core) (number : new.number ≡ own) (group : new.group ≡ (core_in cores to).group)
      (came : new.arrivals ≡ arrivals_joined held d) where
    fitting : IsFitting own (core_in cores to).group (logs_of held) d
    fitting = (refused_where_it_does_not_fit own (core_in cores to).group (logs_of held) d shape).0 none

    -- no own entry is new
    not_own : (e : Placed) → holds (fresh_entries held d) e ≡ true → is_from own e ≡ false
    not_own e fresh =
        let in_delta : holds d e ≡ true = any_kept (λ x. not (is_held (logs_of held) x)) (λ x. same_entry x e) d fresh in
        elim (nat_eq e.origin own) as (λ b. nat_eq e.origin own ≡ b → b ≡ false) [
          | true ↦ λ same.
              let owner : e.origin ≡ own = eqb-true e.origin own same in
              let known : e.n ≤ vector_of (logs_of held) own = fitting.known e in_delta owner in
              let here : is_held (logs_of held) e ≡ true = fitting.no_fork e in_delta (subst (λ (o : ℕ). e.n ≤ vector_of (logs_of held) o) (sym owner) known) in
              absurd (false≢true (sym (ap not here) ∙ kept_passes (λ x. not (is_held (logs_of held) x)) d e fresh))
          | false ↦ λ other. refl
        ] refl

    taken : IsSiteKept cores (core_in cores to) new
    taken = record {
      number = number;
      group = group;
      keeps = λ e was. ap (λ (l : List Placed). holds l e) came ∙ kept_first held (fresh_entries held d) e was;
      no_other = λ e is. elim (one_of held (fresh_entries held d) e (ap (λ (l : List Placed). holds l e) (sym came) ∙ is)) as (λ c. held_by_some cores e ≡ true) [
        | inl was ↦ place_some cores to e was
        | inr fresh ↦ place_some cores from e (among e (any_kept (λ x. not (is_held (logs_of held) x)) (λ x. same_entry x e) d fresh))
      ];
      own =
          ap (entries_from own) came
          ∙ from-append own held (fresh_entries held d)
          ∙ ap (λ (l : List Placed). entries_from own held ++ l) (filter_none (is_from own) (fresh_entries held d) (passes_none (is_from own) (fresh_entries held d) not_own))
          ∙ append-nil (entries_from own held);
      grows = (fresh_entries held d, sym came);
    }

    put : core_in (slice_set cores to new) to ≡ new
    put = get_or-set_same cores to new no_core there

    pub handed_kept : AreSitesKept cores (slice_set cores to new)
    handed_kept = record {
      size = length-set cores to new;
      each = λ k. elim (nat_eq k to) as (λ b. nat_eq k to ≡ b → IsSiteKept cores (core_in cores k) (core_in (slice_set cores to new) k)) [
        | true ↦ λ same.
            subst (λ (p : ℕ). IsSiteKept cores (core_in cores p) (core_in (slice_set cores to new) p)) (sym (eqb-true k to same))
            (subst (λ (c : Core). IsSiteKept cores (core_in cores to) c) (sym put) taken)
        | false ↦ λ other.
            subst (λ (c : Core). IsSiteKept cores (core_in cores k) c) (sym (get_or-set_other cores to k new no_core (eqb-false k to other))) (same_kept cores k)
      ] refl;
    }

    pub handed_all : HasAll (core_in cores from) (core_in (slice_set cores to new) to)
    handed_all e was =
        ap (λ (c : Core). holds c.arrivals e) put
        ∙ ap (λ (l : List Placed). holds l e) came
        ∙ joined_holds held d taker.order e (has e was)

-- ---- in the code's words

read_is : (cores : List Core) (k : ℕ) (x : Core) → k < length cores → x ≡ get_or cores k x → core_in cores k ≡ x
read_is cores k x there is = get_or_from_slice_get cores k x no_core (slice_get_read cores (length cores) k x refl there is)

pub on_err : {X : Type 0} → (r : Result X DeltaFault) (P : DeltaFault → Type 0) (f : DeltaFault) → IsErrAnd r (λ g. g ≡ f) → P f → IfErr r P
on_err (Ok x) P f is why = tt
on_err (Err g) P f is why = subst P (sym is) why

-- the whole of a site holds what the site holds
whole_cut : (count : ℕ → ℕ) (empty : (o : ℕ) → count o ≡ 0) (core : Core) → IsSite core → (d : List Placed) → d ≡ entries_above count core.arrivals → IsDelta d → IsWholeSite d core
whole_cut count empty core site d cut shape = record {
  site = site;
  shape = shape;
  among = whole_among count empty core.arrivals site.order d cut;
  has = whole_has count empty core.arrivals site.order d cut;
}

pub whole_on : (count : ℕ → ℕ) → ((o : ℕ) → count o ≡ 0) → (core : Core) → IsSite core → (r : Result (List Placed) DeltaFault)
    → IfOk r (λ d. d ≡ entries_above count core.arrivals) → IfOk r (λ d. IsDelta d) → IfOk r (λ d. IsWholeSite d core)
whole_on count empty core site (Ok d) cut shape = whole_cut count empty core site d cut shape
whole_on count empty core site (Err f) cut shape = tt

pub whole_there : (cores : List Core) (k : ℕ) (x : Core) → k < length cores → x ≡ get_or cores k x → (d : List Placed) → IsWholeSite d x → IsWholeSite d (core_in cores k)
whole_there cores k x there is d whole = subst (λ (c : Core). IsWholeSite d c) (sym (read_is cores k x there is)) whole

module _ (cores : List Core) (to : ℕ) (there : to < length cores) (alike : OfOneGroup cores) (d : List Placed) (one : IsWholeOfOne d cores)
    (y : Core) (y_is : y ≡ get_or cores to y) (taker : IsSite y) where
  to_is : core_in cores to ≡ y
  to_is = read_is cores to y there y_is

  taker_is : IsSite (core_in cores to)
  taker_is = subst (λ (c : Core). IsSite c) (sym to_is) taker

  whole : IsWholeSite d (core_in cores one.place)
  whole = one.whole

  one_group : (core_in cores one.place).group ≡ (core_in cores to).group
  one_group = alike one.place one.there ∙ sym (alike to there)

  pub hand_why : (refusal : DeltaFault) → MatchOption (refusal_by y d) (refusal ≡ fault.Memory) (λ first. refusal ≡ first) → IsWhy cores refusal
  hand_why refusal told =
      why cores one.place to there whole.site taker_is one_group d whole.shape whole.among whole.has refusal
      (subst (λ (c : Core). MatchOption (refusal_by c d) (refusal ≡ fault.Memory) (λ first. refusal ≡ first)) (sym to_is) told)

  module _ (none : refusal_by y d ≡ None) (new : Core) (number : new.number ≡ y.number) (group : new.group ≡ y.group) (came : new.arrivals ≡ arrivals_joined y.arrivals d) where
    not_refused : refusal_by (core_in cores to) d ≡ None
    not_refused = ap (λ (c : Core). refusal_by c d) to_is ∙ none

    pub hand_kept : AreSitesKept cores (slice_set cores to new)
    hand_kept =
        handed_kept cores one.place to there whole.site taker_is one_group d whole.shape whole.among whole.has not_refused new
        (number ∙ ap (λ (c : Core). c.number) (sym to_is))
        (group ∙ ap (λ (c : Core). c.group) (sym to_is))
        (came ∙ ap (λ (c : Core). arrivals_joined c.arrivals d) (sym to_is))

    pub hand_each : HasEach d (core_in (slice_set cores to new) to)
    hand_each e in_delta =
        handed_all cores one.place to there whole.site taker_is one_group d whole.shape whole.among whole.has not_refused new
        (number ∙ ap (λ (c : Core). c.number) (sym to_is))
        (group ∙ ap (λ (c : Core). c.group) (sym to_is))
        (came ∙ ap (λ (c : Core). arrivals_joined c.arrivals d) (sym to_is))
        e (whole.among e in_delta)

pub hand_other : (cores : List Core) (to : ℕ) (new : Core) (k : ℕ) → k ≢ to → core_in (slice_set cores to new) k ≡ core_in cores k
hand_other cores to new k other = get_or-set_other cores to k new no_core other
