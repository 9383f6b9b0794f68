-- What logs hold once a delta that fits was joined. It serves the laws of logs, and the sites and worlds above.
use Rattle.std.proofs.Common.{◌≡◌, ◌∙◌, refl, ap, sym, ℕ, ◌+◌, ◌-◌, ◌<◌, ◌≤◌, Bool, true, false, not, cond, ◌||◌, List, [], ◌∷◌, filter, length, drop, arith, nat_eq, nat_lt, Option, Some, None, zero, suc}
use Rattle.std.specs.List.{list_any, find, slice_get}
use Rattle.std.specs.Option.{is_none, option_or}
use Rattle.std.proofs.Math.Seq.{drop-nil}
use Rattle.std.proofs.lemmas.Bool.{false≢true, or_parts, lt-ltb}
use Rattle.std.proofs.lemmas.Bool.Decides.{nat_tests}
use Rattle.std.proofs.lemmas.List.Folds.{list_any-append}
use Rattle.std.proofs.lemmas.List.Kept.{IsStrictlySortedBy-filter}
use Rattle.sct_message.specs.declared.draft.Draft.{Draft}
use Rattle.sct_delta.specs.Entries.{Placed, is_from, entries_from, log_of, numbered, same_entry, holds, place_order, HasNoHole, IsDelta}
use Rattle.sct_delta.specs.Refusals.{message_at, is_same_as, is_other_than, is_held, is_new, is_outside, is_ahead, is_past, is_fork, fault_of_entry, firsts_after, first_refusal, outside_refusal, ahead_refusal, gap_refusal, fork_refusal, vector_of, fresh_in, joined}
use Rattle.sct_delta.specs.Sites.{is_site}
use Rattle.sct_delta.specs.declared.fault.DeltaFault.{DeltaFault}
use Rattle.sct_delta.specs.declared.fault.DeltaFault.TheVariants as fault
use Rattle.sct_delta.proofs.EntryLemmas.{numbered-append, log_is, run_is, not_zero}
use Rattle.sct_delta.proofs.HeldLemmas.{one_entry, holds_from, held_as_run}
use Rattle.sct_message.proofs.Tests.{none_kept as filter_none}
use Rattle.sct_delta.proofs.TestLemmas.{all_kept, filter_comm, none_also, none_kept}

-- ---- a delta is refused for nothing

-- nothing of a delta is refused, test by test
pub record IsPassed (own group : ℕ) (log : ℕ → List Draft) (delta : List Placed) : Type 0 where
  pub inside : list_any (is_outside group) delta ≡ false
  pub known : list_any (is_ahead own log) delta ≡ false
  pub no_gap : list_any (is_past log) (firsts_after 0 delta) ≡ false
  pub no_fork : list_any (is_fork log) delta ≡ false

pub told_none : (tells : Placed → DeltaFault) (p : Placed → Bool) (ds : List Placed) → fault_of_entry tells (find p ds) ≡ None → list_any p ds ≡ false
told_none tells p [] none = refl
told_none tells p (d ∷ ds) none =
    elim (p d) as (λ b. fault_of_entry tells (cond b (Some d) (find p ds)) ≡ None → (b || list_any p ds) ≡ false) [
      | true ↦ λ e. cc
      | false ↦ λ e. told_none tells p ds e
    ] none

pub none_told : (tells : Placed → DeltaFault) (p : Placed → Bool) (ds : List Placed) → list_any p ds ≡ false → fault_of_entry tells (find p ds) ≡ None
none_told tells p [] none = refl
none_told tells p (d ∷ ds) none =
    let parts : (p d ≡ false) × (list_any p ds ≡ false) = or_parts (p d) (list_any p ds) none in
    (λ i. fault_of_entry tells (cond (parts.0 i) (Some d) (find p ds))) ∙ none_told tells p ds parts.1

neither : (a b : Option DeltaFault) → option_or a b ≡ None → (a ≡ None) × (b ≡ None)
neither None b e = (refl, e)
neither (Some f) b e = cc

pub passed : (own group : ℕ) (log : ℕ → List Draft) (delta : List Placed) → first_refusal own group log delta ≡ None → IsPassed own group log delta
unfolding first_refusal
passed own group log delta none =
    let one : (outside_refusal group delta ≡ None) × (option_or (ahead_refusal own log delta) (option_or (gap_refusal log delta) (fork_refusal log delta)) ≡ None)
    = neither _ _ none in
    let two : (ahead_refusal own log delta ≡ None) × (option_or (gap_refusal log delta) (fork_refusal log delta) ≡ None) = neither _ _ one.1 in
    let three : (gap_refusal log delta ≡ None) × (fork_refusal log delta ≡ None) = neither _ _ two.1 in record {
      inside = told_none (λ entry. fault.BadSite) (is_outside group) delta one.0;
      known = told_none (λ entry. fault.OwnAhead entry.n) (is_ahead own log) delta two.0;
      no_gap = told_none (λ entry. fault.Gap entry.origin (vector_of log entry.origin) entry.n) (is_past log) (firsts_after 0 delta) three.0;
      no_fork = told_none (λ entry. fault.Fork entry.origin entry.n) (is_fork log) delta three.1;
    }

pub unrefused : (own group : ℕ) (log : ℕ → List Draft) (delta : List Placed) → IsPassed own group log delta → first_refusal own group log delta ≡ None
unfolding first_refusal
unrefused own group log delta p =
    λ i. option_or (none_told (λ entry. fault.BadSite) (is_outside group) delta p.inside i)
    (option_or (none_told (λ entry. fault.OwnAhead entry.n) (is_ahead own log) delta p.known i)
    (option_or (none_told (λ entry. fault.Gap entry.origin (vector_of log entry.origin) entry.n) (is_past log) (firsts_after 0 delta) p.no_gap i)
    (none_told (λ entry. fault.Fork entry.origin entry.n) (is_fork log) delta p.no_fork i)))

-- ---- where an origin begins

other_origin : (x o p : ℕ) → nat_eq x p ≡ true → nat_eq o p ≡ false → nat_eq x o ≡ false
other_origin x o p e g = grind (arith, nat_tests)

pub swapped : (x o : ℕ) → nat_eq x o ≡ false → nat_eq o x ≡ false
swapped x o e = grind (arith, nat_tests)

pub is_the_first : (x e : Placed) (es fs : List Placed) → (x ∷ es) ≡ (e ∷ fs) → x ≡ e
is_the_first x e es fs is = cc

-- the first entry of an origin is not past its next number
pub first_reached : (log : ℕ → List Draft) (o previous : ℕ) (es : List Placed) (e : Placed) (rest : List Placed) → nat_eq o previous ≡ false
    → list_any (is_past log) (firsts_after previous es) ≡ false → entries_from o es ≡ e ∷ rest → is_past log e ≡ false
first_reached log o previous [] e rest new none is = cc
first_reached log o previous (x ∷ es) e rest new none is =
    elim (nat_eq x.origin previous) as (λ b. nat_eq x.origin previous ≡ b → list_any (is_past log) (cond b (firsts_after previous es) (x ∷ firsts_after x.origin es)) ≡ false → is_past log e ≡ false) [
      | true ↦ λ t f. first_reached log o previous es e rest new f (ap (λ (b : Bool). cond b (x ∷ entries_from o es) (entries_from o es)) (sym (other_origin x.origin o previous t new)) ∙ is)
      | false ↦ λ t f.
          elim (nat_eq x.origin o) as (λ b. nat_eq x.origin o ≡ b → cond b (x ∷ entries_from o es) (entries_from o es) ≡ e ∷ rest → is_past log e ≡ false) [
            | true ↦ λ u is. ap (is_past log) (sym (is_the_first x e (entries_from o es) rest is)) ∙ (or_parts _ _ f).0
            | false ↦ λ u is. first_reached log o x.origin es e rest (swapped x.origin o u) (or_parts _ _ f).1 is
          ] refl is
    ] refl none

-- ---- what of a run is not held

past_none : (i : ℕ) → true ≡ nat_lt 0 (i + 1)
past_none i = grind (arith, nat_tests)

within_first : (k : ℕ) → false ≡ nat_lt (suc k) 1
within_first k = grind (arith, nat_tests)

one_place_on : (k i : ℕ) → nat_lt k (i + 1) ≡ nat_lt (suc k) (suc i + 1)
one_place_on k i = grind (arith, nat_tests)

fresh_place : (ms : List Draft) (i : ℕ) (m : Draft) → is_other_than m (slice_get ms i) ≡ false → not (is_same_as m (slice_get ms i)) ≡ nat_lt (length ms) (i + 1)
fresh_place [] i m e = past_none i
fresh_place (x ∷ ms) zero m e = e ∙ within_first (length ms)
fresh_place (x ∷ ms) (suc i) m e = fresh_place ms i m e ∙ one_place_on (length ms) i

pub fresh_at : (ms : List Draft) (n : ℕ) (m : Draft) → 1 ≤ n → is_other_than m (message_at ms n) ≡ false → not (is_same_as m (message_at ms n)) ≡ nat_lt (length ms) n
fresh_at ms n m above e =
    (λ i. not (is_same_as m (cond (not_zero n above i) None (slice_get ms (n - 1)))))
    ∙ fresh_place ms (n - 1) m (sym (λ i. is_other_than m (cond (not_zero n above i) None (slice_get ms (n - 1)))) ∙ e)
    ∙ ap (nat_lt (length ms)) (omega arith)

fresh_of_run : (log : ℕ → List Draft) (o f : ℕ) (ms : List Draft) → 1 ≤ f → list_any (is_fork log) (numbered o f ms) ≡ false
    → filter (λ e. not (is_held log e)) (numbered o f ms) ≡ filter (λ e. nat_lt (vector_of log o) e.n) (numbered o f ms)
fresh_of_run log o f [] above none = refl
fresh_of_run log o f (m ∷ ms) above none =
    let entry : Placed = record { origin = o; n = f; message = m } in
    let parts : (is_fork log entry ≡ false) × (list_any (is_fork log) (numbered o (f + 1) ms) ≡ false) = or_parts _ _ none in
    let rest : filter (λ e. not (is_held log e)) (numbered o (f + 1) ms) ≡ filter (λ e. nat_lt (vector_of log o) e.n) (numbered o (f + 1) ms) =
    fresh_of_run log o (f + 1) ms (omega arith) parts.1 in
    λ i. cond (fresh_at (log o) f m above parts.0 i) (entry ∷ rest i) (rest i)

pub all_above : (o h n : ℕ) (ms : List Draft) → h < n → filter (λ e. nat_lt h e.n) (numbered o n ms) ≡ numbered o n ms
all_above o h n [] above = refl
all_above o h n (m ∷ ms) above = rw (lt-ltb h n above) (ap (λ (l : List Placed). record { origin = o; n = n; message = m } ∷ l) (all_above o h (n + 1) ms (omega arith)))

further : (h n : ℕ) → nat_lt h n ≡ true → h < n + 1
further h n t = grind (arith, nat_tests)

at_count : (h n : ℕ) → nat_lt h n ≡ true → n ≤ h + 1 → n ≡ h + 1
at_count h n t reached = grind (arith, nat_tests)

none_to_drop : (h n : ℕ) → nat_lt h n ≡ true → h + 1 - n ≡ 0
none_to_drop h n t = grind (arith, nat_tests)

not_reached : (h n : ℕ) → nat_lt h n ≡ false → n + 1 ≤ h + 1
not_reached h n t = grind (arith, nat_tests)

one_to_drop : (h n : ℕ) → nat_lt h n ≡ false → h + 1 - n ≡ suc (h + 1 - (n + 1))
one_to_drop h n t = grind (arith, nat_tests)

pub not_past : (h n : ℕ) → nat_lt (h + 1) n ≡ false → n ≤ h + 1
not_past h n t = grind (arith, nat_tests)

one_first : (k : ℕ) → 1 + k ≡ k + 1
one_first k = omega arith

-- of a run that begins at most at the next number, what is above a count begins at the next number
pub above_count : (o h n : ℕ) (ms : List Draft) → n ≤ h + 1 → filter (λ e. nat_lt h e.n) (numbered o n ms) ≡ numbered o (h + 1) (drop (h + 1 - n) ms)
above_count o h n [] reached = ap (numbered o (h + 1)) (sym (drop-nil (h + 1 - n)))
above_count o h n (m ∷ ms) reached =
    let entry : Placed = record { origin = o; n = n; message = m } in
    elim (nat_lt h n) as (λ b. nat_lt h n ≡ b → cond b (entry ∷ filter (λ x. nat_lt h x.n) (numbered o (n + 1) ms)) (filter (λ x. nat_lt h x.n) (numbered o (n + 1) ms)) ≡ numbered o (h + 1) (drop (h + 1 - n) (m ∷ ms))) [
      | true ↦ λ t.
          ap (λ (l : List Placed). entry ∷ l) (all_above o h (n + 1) ms (further h n t))
          ∙ ap (λ (k : ℕ). numbered o k (m ∷ ms)) (at_count h n t reached)
          ∙ ap (λ (k : ℕ). numbered o (h + 1) (drop k (m ∷ ms))) (sym (none_to_drop h n t))
      | false ↦ λ t. above_count o h (n + 1) ms (not_reached h n t) ∙ ap (numbered o (h + 1)) (sym (ap (λ (k : ℕ). drop k (m ∷ ms)) (one_to_drop h n t)))
    ] refl

-- ---- what is fresh of a delta

-- what is fresh of a run that begins at most at the next number begins at the next number
fresh_follows : (log : ℕ → List Draft) (delta : List Placed) (o first : ℕ) (ms : List Draft) → 1 ≤ first → first ≤ vector_of log o + 1
    → list_any (is_fork log) delta ≡ false → entries_from o delta ≡ numbered o first ms
    → entries_from o (fresh_in log delta) ≡ numbered o (vector_of log o + 1) (drop (vector_of log o + 1 - first) ms)
fresh_follows log delta o first ms above reached none is =
    filter_comm (is_from o) (λ e. not (is_held log e)) delta
    ∙ ap (filter (λ e. not (is_held log e))) is
    ∙ fresh_of_run log o first ms above (ap (list_any (is_fork log)) (sym is) ∙ none_kept (is_fork log) (is_from o) delta none)
    ∙ above_count o (vector_of log o) first ms reached

self_numbered : (o n : ℕ) (ms : List Draft) (es : List Placed) → entries_from o es ≡ numbered o n ms → entries_from o es ≡ numbered o n (log_of o es)
self_numbered o n ms es is = is ∙ ap (numbered o n) (sym (log_is o n ms es is))

nothing_fresh : (log : ℕ → List Draft) (delta : List Placed) (o : ℕ) → entries_from o delta ≡ [] → entries_from o (fresh_in log delta) ≡ []
nothing_fresh log delta o is = filter_comm (is_from o) (λ e. not (is_held log e)) delta ∙ ap (filter (λ e. not (is_held log e))) is

fresh_run : (log : ℕ → List Draft) (delta : List Placed) (o first : ℕ) (ms : List Draft) → 1 ≤ first → nat_eq o 0 ≡ false
    → list_any (is_past log) (firsts_after 0 delta) ≡ false → list_any (is_fork log) delta ≡ false → entries_from o delta ≡ numbered o first ms
    → entries_from o (fresh_in log delta) ≡ numbered o (vector_of log o + 1) (log_of o (fresh_in log delta))
fresh_run log delta o first [] above other no_gap no_fork is =
    self_numbered o (vector_of log o + 1) [] (fresh_in log delta) (nothing_fresh log delta o is)
fresh_run log delta o first (m ∷ ms) above other no_gap no_fork is =
    let reached = first_reached log o 0 delta (record { origin = o; n = first; message = m }) (numbered o (first + 1) ms) other no_gap is in
    self_numbered o (vector_of log o + 1) (drop (vector_of log o + 1 - first) (m ∷ ms)) (fresh_in log delta)
    (fresh_follows log delta o first (m ∷ ms) above (not_past (vector_of log o) first reached) no_fork is)

-- no site is 0
inside_site : (group o : ℕ) (e : Placed) → nat_eq o 0 ≡ true → is_outside group e ≡ false → is_from o e ≡ false
inside_site group o e zero_is inside = grind (arith, nat_tests)

none_from_0 : (group : ℕ) (es : List Placed) → list_any (is_outside group) es ≡ false → (o : ℕ) → nat_eq o 0 ≡ true → entries_from o es ≡ []
none_from_0 group es none o zero_is = filter_none (is_from o) es (none_also (is_outside group) (is_from o) (λ e. inside_site group o e zero_is) es none)

-- what is fresh of each origin follows what is held of it
pub fresh_continues : (own group : ℕ) (log : ℕ → List Draft) (delta : List Placed) → ((o : ℕ) → HasNoHole o delta) → IsPassed own group log delta
    → (o : ℕ) → entries_from o (fresh_in log delta) ≡ numbered o (vector_of log o + 1) (log_of o (fresh_in log delta))
fresh_continues own group log delta runs p o =
    elim (nat_eq o 0) as (λ b. nat_eq o 0 ≡ b → entries_from o (fresh_in log delta) ≡ numbered o (vector_of log o + 1) (log_of o (fresh_in log delta))) [
      | true ↦ λ t. self_numbered o (vector_of log o + 1) [] (fresh_in log delta) (nothing_fresh log delta o (none_from_0 group delta p.inside o t))
      | false ↦ λ t. let run : HasNoHole o delta = runs o in fresh_run log delta o run.first (log_of o delta) run.above_0 t p.no_gap p.no_fork run.follow
    ] refl

-- what is fresh of a delta that fits is a delta
pub fresh_is_delta : (own group : ℕ) (log : ℕ → List Draft) (delta : List Placed) → IsDelta delta → IsPassed own group log delta → IsDelta (fresh_in log delta)
fresh_is_delta own group log delta shape p = record {
  runs = λ o. run_is o (vector_of log o + 1) (log_of o (fresh_in log delta)) (fresh_in log delta) (omega arith) (fresh_continues own group log delta shape.runs p o);
  rises = IsStrictlySortedBy-filter place_order (λ e. not (is_held log e)) delta shape.rises;
  sites = all_kept (λ e. is_site e.origin) (λ e. not (is_held log e)) delta shape.sites;
}

-- of a delta that is no fork, the entries whose numbers are not held are those that are not held
pub new_is_fresh : (log : ℕ → List Draft) (ds : List Placed) → list_any (is_fork log) ds ≡ false → filter (is_new log) ds ≡ fresh_in log ds
new_is_fresh log [] none = refl
new_is_fresh log (d ∷ ds) none =
    let parts : (is_fork log d ≡ false) × (list_any (is_fork log) ds ≡ false) = or_parts (is_fork log d) (list_any (is_fork log) ds) none in
    let rest : filter (is_new log) ds ≡ fresh_in log ds = new_is_fresh log ds parts.1 in
    (elim (message_at (log d.origin) d.n) as (λ held. is_other_than d.message held ≡ false → cond (is_none held) (d ∷ filter (is_new log) ds) (filter (is_new log) ds) ≡ cond (not (is_same_as d.message held)) (d ∷ fresh_in log ds) (fresh_in log ds)) [
      | None ↦ λ no_fork. ap (λ (es : List Placed). d ∷ es) rest
      | Some held ↦ λ no_fork. rest ∙ sym (λ i. cond (no_fork i) (d ∷ fresh_in log ds) (fresh_in log ds))
    ]) parts.0

-- so in logs that hold the same, what is new of a delta that fits is what is fresh of it
pub kept_fresh : (own group : ℕ) (log held : ℕ → List Draft) (delta ds es : List Placed) → first_refusal own group log delta ≡ None
    → ((o : ℕ) → held o ≡ log o) → ds ≡ delta → es ≡ filter (is_new held) ds → es ≡ fresh_in log delta
kept_fresh own group log held delta ds es none same whole is =
    is ∙ (λ i. filter (is_new (λ o. same o i)) (whole i)) ∙ new_is_fresh log delta (passed own group log delta none).no_fork

-- ---- what is held once a delta was joined

pub kept_is : (p : Placed → Bool) (e : Placed) → p e ≡ true → (es : List Placed) → holds (filter p es) e ≡ holds es e
kept_is p e passes [] = refl
kept_is p e passes (x ∷ es) =
    elim (p x) as (λ b. p x ≡ b → holds (cond b (x ∷ filter p es) (filter p es)) e ≡ (same_entry x e || holds es e)) [
      | true ↦ λ t. ap (λ (b : Bool). same_entry x e || b) (kept_is p e passes es)
      | false ↦ λ t.
          elim (same_entry x e) as (λ b. same_entry x e ≡ b → holds (filter p es) e ≡ (b || holds es e)) [
            | true ↦ λ u. absurd (false≢true (sym t ∙ ap p (one_entry x e u) ∙ passes))
            | false ↦ λ u. kept_is p e passes es
          ] refl
    ] refl

held_or_fresh : (log : ℕ → List Draft) (delta : List Placed) (e : Placed) → (is_held log e || holds (fresh_in log delta) e) ≡ (is_held log e || holds delta e)
held_or_fresh log delta e =
    elim (is_held log e) as (λ b. is_held log e ≡ b → (b || holds (fresh_in log delta) e) ≡ (b || holds delta e)) [
      | true ↦ λ t. refl
      | false ↦ λ t. kept_is (λ x. not (is_held log x)) e (ap not t) delta
    ] refl

pub joins : (own group : ℕ) (log : ℕ → List Draft) (delta : List Placed) → IsDelta delta → IsPassed own group log delta
    → (e : Placed) → is_held (joined log delta) e ≡ (is_held log e || holds delta e)
joins own group log delta shape p e =
    let o = e.origin in
    let more = log_of o (fresh_in log delta) in
    held_as_run (joined log delta) e
    ∙ ap (λ (l : List Placed). holds l e) (numbered-append o 1 (log o) more)
    ∙ list_any-append (λ x. same_entry x e) (numbered o 1 (log o)) (numbered o (1 + length (log o)) more)
    ∙ (λ i. sym (held_as_run log e) i || holds (numbered o (one_first (length (log o)) i) more) e)
    ∙ ap (λ (l : List Placed). is_held log e || holds l e) (sym (fresh_continues own group log delta shape.runs p o))
    ∙ ap (λ (b : Bool). is_held log e || b) (sym (holds_from e (fresh_in log delta)))
    ∙ held_or_fresh log delta e
