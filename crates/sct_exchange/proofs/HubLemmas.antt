-- In an honest hub no run refuses a delta but for a gap. Proof plumbing.
use Rattle.std.proofs.Common.{◌≡◌, inl, inr, ◌∙◌, refl, ap, sym, subst, ℕ, zero, suc, ◌-◌, Bool, true, false, not, cond, ◌&&◌, List, [], ◌∷◌, ◌++◌, length, map, arith, nat_eq, nat_lt}
use Rattle.std.specs.Prelude.{Option, Some, None, IfSome, Ok}
use Rattle.std.specs.List.{find, slice_get}
use Rattle.std.proofs.lemmas.Bool.{eqb-true, false≢true}
use Rattle.std.proofs.lemmas.Bool.Decides.{nat_tests}
use Rattle.std.proofs.lemmas.Option.{same_Some}
use Rattle.sct_message.specs.declared.draft.Draft.{Draft}
use Rattle.sct_message.specs.Order.{same_message}
use Rattle.sct_message.proofs.SameValues.{message_itself}
use Rattle.sct_lines.specs.LineLaws.{IsOfWholeLines}
use Rattle.sct_delta.specs.DeltaText.{delta_in}
use Rattle.sct_delta.specs.Entries.{Placed, entries_from, log_of, holds, numbered, same_entry, IsArrivals}
use Rattle.sct_delta.specs.Refusals.{message_at, is_same_as, is_other_than, is_held, is_fork, is_ahead, is_past, is_outside, has_site, firsts_after, first_refusal, outside_refusal, ahead_refusal, gap_refusal, vector_of}
use Rattle.sct_delta.specs.declared.fault.DeltaFault.TheVariants as fault
use Rattle.sct_delta.proofs.EntryLemmas.{from-numbered, from-numbered_other, log_is, same_number}
use Rattle.sct_delta.proofs.HeldLemmas.{held_as_run, holds_from, some_there}
use Rattle.sct_delta.proofs.JoinLemmas.{passed}
use Rattle.sct_delta.proofs.LawLemmas.{got_longer}
use Rattle.sct_site.specs.Cores.{Core, arrivals_joined, core_joined, entries_above, fresh_entries, is_open, logs_of, refusal_by}
use Rattle.sct_site.proofs.ArrivalLemmas.{arrivals-joined}
use Rattle.sct_site.proofs.HeldLemmas.{among_above, any_kept, held_number, one_of, or_else, told_all, told_never, within}
use Rattle.sct_site.proofs.SiteLemmas.{has_itself}
use Rattle.sct_exchange.specs.Hubs.{Run, IsHeldByRuns, IsHonestRun, IsHonest, IsTextOfRuns, arrivals_of, core_of, journal_at}
use Rattle.sct_exchange.specs.Journals.{Begins, core_of_journal, own_log}
use Rattle.sct_exchange.specs.Laws.{CutsMayBeGiven, IsEarly, HubsNeverFork}
use Rattle.sct_exchange.specs.Owned.{IsOf, IsTextOf}
use Rattle.sct_exchange.specs.Rounds.{File, files_in}
use Rattle.sct_exchange.specs.Ways.{AreAccepted, IsAmong, IsExchanged}
use Rattle.sct_exchange.proofs.JournalLemmas.{begins_itself, journal_core, journal_site, log_longer}
use Rattle.sct_exchange.proofs.OwnLemmas.{own_kept}
use Rattle.sct_exchange.proofs.WayLemmas.{among_map, delta_shape, exchanged_is, texts_are_deltas}

-- ---- the message of a number

pub its_message : (owned : ℕ → List Draft) (e : Placed) → is_held owned e ≡ true → message_at (owned e.origin) e.n ≡ Some e.message
its_message owned e held = some_there e.message (message_at (owned e.origin) e.n) held

message_more : (xs ys : List Draft) (n : ℕ) (m : Draft) → message_at xs n ≡ Some m → message_at (xs ++ ys) n ≡ Some m
message_more xs ys n m is =
    elim (nat_eq n 0) as (λ b. cond b None (slice_get xs (n - 1)) ≡ Some m → cond b None (slice_get (xs ++ ys) (n - 1)) ≡ Some m) [
      | true ↦ λ e. e
      | false ↦ λ e. got_longer xs ys (n - 1) m e
    ] is

pub held_longer : (owned longer : ℕ → List Draft) → ((o : ℕ) → Begins (owned o) (longer o)) → (e : Placed) → is_held owned e ≡ true → is_held longer e ≡ true
held_longer owned longer begins e held =
    let grown : message_at (longer e.origin) e.n ≡ Some e.message =
    ap (λ (l : List Draft). message_at l e.n) (begins e.origin).is ∙ message_more (owned e.origin) (begins e.origin).rest e.n e.message (its_message owned e held) in
    ap (is_same_as e.message) grown ∙ message_itself e.message

pub text_longer : (owned longer : ℕ → List Draft) → ((o : ℕ) → Begins (owned o) (longer o)) → (group : ℕ) (delta : List Placed) → IsTextOf owned group delta → IsTextOf longer group delta
text_longer owned longer begins group delta text = record {
  shape = text.shape;
  inside = text.inside;
  known = λ e among. held_longer owned longer begins e (text.known e among);
}

-- ---- a site refuses no delta but for a gap

module _ (owned : ℕ → List Draft) (core : Core) (of : IsOf owned core) (delta : List Placed) (text : IsTextOf owned core.group delta) where
  pub not_ahead : (e : Placed) → holds delta e ≡ true → is_ahead core.number (logs_of core.arrivals) e ≡ false
  not_ahead e among =
      elim (nat_eq e.origin core.number) as (λ b. nat_eq e.origin core.number ≡ b → (b && nat_lt (length (log_of core.number core.arrivals)) e.n) ≡ false) [
        | true ↦ λ same.
            let site : e.origin ≡ core.number = eqb-true e.origin core.number same in
            ap (λ (l : List Draft). nat_lt (length l) e.n) of.own
            ∙ within (owned core.number) e.n e.message (ap (λ (o : ℕ). message_at (owned o) e.n) (sym site) ∙ its_message owned e (text.known e among))
        | false ↦ λ other. refl
      ] refl

  pub no_other : (e : Placed) → holds delta e ≡ true → (o : Option Draft) → message_at (log_of e.origin core.arrivals) e.n ≡ o → is_other_than e.message o ≡ false
  no_other e among None is = refl
  no_other e among (Some x) is =
      let found : Placed = record { origin = e.origin; n = e.n; message = x } in
      let there : message_at (owned e.origin) e.n ≡ Some x = its_message owned found (of.known found (held_number core.arrivals of.order e.origin e.n x is)) in
      let same : x ≡ e.message = same_Some x e.message (sym there ∙ its_message owned e (text.known e among)) in
      ap (λ (y : Draft). not (same_message y e.message)) same ∙ ap not (message_itself e.message)

  pub only_early : IfSome (refusal_by core delta) IsEarly
  unfolding first_refusal
  only_early =
      let log : ℕ → List Draft = logs_of core.arrivals in
      or_else IsEarly (outside_refusal core.group delta) _ (told_never IsEarly (λ e. fault.BadSite) (is_outside core.group) delta (λ e among. ap not (text.inside e among)))
      (or_else IsEarly (ahead_refusal core.number log delta) _ (told_never IsEarly (λ e. fault.OwnAhead e.n) (is_ahead core.number log) delta not_ahead)
      (or_else IsEarly (gap_refusal log delta) _ (told_all IsEarly (λ e. fault.Gap e.origin (vector_of log e.origin) e.n) (is_past log) (firsts_after 0 delta) (λ e. tt) (find (is_past log) (firsts_after 0 delta)))
      (told_never IsEarly (λ e. fault.Fork e.origin e.n) (is_fork log) delta (λ e among. no_other e among (message_at (log e.origin) e.n) refl))))

  -- ---- and after it accepted the delta it is as it was

  from_either : (P : Placed → Type 0) → ((e : Placed) → holds core.arrivals e ≡ true → P e) → ((e : Placed) → holds delta e ≡ true → P e)
      → (e : Placed) → holds (arrivals_joined core.arrivals delta) e ≡ true → P e
  from_either P old new e held =
      elim (one_of core.arrivals (fresh_entries core.arrivals delta) e held) as (λ c. P e) [
        | inl was ↦ old e was
        | inr came ↦ new e (any_kept (λ x. not (is_held (logs_of core.arrivals) x)) (λ x. same_entry x e) delta came)
      ]

  pub of_joined : refusal_by core delta ≡ None → IsOf owned (core_joined core delta)
  of_joined fits = record {
    order = arrivals-joined core.number core.group core.arrivals delta of.order text.shape.runs (passed core.number core.group (logs_of core.arrivals) delta fits);
    inside = from_either (λ e. has_site core.group e.origin ≡ true) of.inside text.inside;
    known = from_either (λ e. is_held owned e ≡ true) of.known text.known;
    own = own_kept core delta text.shape fits ∙ of.own;
  }

pub of_accepted : (owned : ℕ → List Draft) (files : List File) (group : ℕ) → ((delta : List Placed) → IsAmong files (Ok delta) → IsTextOf owned group delta)
    → (deltas : List (List Placed)) (before after : Core) → before.group ≡ group → AreAccepted files before deltas after → IsOf owned before → IsOf owned after
of_accepted owned files group texts [] before after same is of = subst (λ (c : Core). IsOf owned c) (sym is) of
of_accepted owned files group texts (delta ∷ deltas) before after same way of =
    of_accepted owned files group texts deltas (core_joined before delta) after same way.2
    (of_joined owned before of delta (subst (λ (g : ℕ). IsTextOf owned g delta) (sym same) (texts delta way.0)) way.1)

-- ---- a site that took its journal

module _ (owned : ℕ → List Draft) (number group : ℕ) (there : has_site group number ≡ true) (log : List Draft) (is : owned number ≡ log) where
  start_order : IsArrivals (numbered number 1 log)
  start_order o =
      elim (nat_eq number o) as (λ b. nat_eq number o ≡ b → entries_from o (numbered number 1 log) ≡ numbered o 1 (log_of o (numbered number 1 log))) [
        | true ↦ λ same.
            let site : number ≡ o = eqb-true number o same in
            subst (λ (x : ℕ). entries_from x (numbered number 1 log) ≡ numbered x 1 (log_of x (numbered number 1 log))) site
            (from-numbered number 1 log ∙ ap (numbered number 1) (sym (log_is number 1 log (numbered number 1 log) (from-numbered number 1 log))))
        | false ↦ λ other. from-numbered_other o number 1 log other ∙ ap (λ (l : List Placed). numbered o 1 (map (λ entry. entry.message) l)) (sym (from-numbered_other o number 1 log other))
      ] refl

  start_origin : (e : Placed) → holds (numbered number 1 log) e ≡ true → number ≡ e.origin
  start_origin e held =
      elim (nat_eq number e.origin) as (λ b. nat_eq number e.origin ≡ b → number ≡ e.origin) [
        | true ↦ λ same. eqb-true number e.origin same
        | false ↦ λ other. absurd (false≢true (ap (λ (l : List Placed). holds l e) (sym (from-numbered_other e.origin number 1 log other)) ∙ sym (holds_from e (numbered number 1 log)) ∙ held))
      ] refl

  pub of_start : IsOf owned (record { number = number; group = group; arrivals = numbered number 1 log })
  of_start = record {
    order = start_order;
    inside = λ e held. ap (has_site group) (sym (start_origin e held)) ∙ there;
    known = λ e held.
        held_as_run owned e
        ∙ ap (λ (o : ℕ). holds (numbered o 1 (owned o)) e) (sym (start_origin e held))
        ∙ ap (λ (l : List Draft). holds (numbered number 1 l) e) is
        ∙ held;
    own = log_is number 1 log (numbered number 1 log) (from-numbered number 1 log) ∙ sym is;
  }

-- ---- hubs

-- the own log of each site, as its newest run makes it
abbrev pub owned_in : List Run → ℕ → List Draft
owned_in runs site = own_log (journal_at runs site)

whole_at : (sites : ℕ) (runs : List Run) → IsHonest sites runs → (site : ℕ) → IsOfWholeLines (journal_at runs site)
whole_at sites [] honest site = refl
whole_at sites (run ∷ runs) honest site =
    elim (nat_eq run.site site) as (λ b. IsOfWholeLines (cond b run.journal (journal_at runs site))) [
      | true ↦ honest.0.whole
      | false ↦ whole_at sites runs honest.1 site
    ]

pub longer_in : (sites : ℕ) (run : Run) (runs : List Run) → IsHonest sites (run ∷ runs) → (site : ℕ) → Begins (owned_in runs site) (owned_in (run ∷ runs) site)
longer_in sites run runs honest site =
    elim (nat_eq run.site site) as (λ b. nat_eq run.site site ≡ b → Begins (owned_in runs site) (own_log (cond b run.journal (journal_at runs site)))) [
      | true ↦ λ same.
          let at : run.site ≡ site = eqb-true run.site site same in
          subst (λ (s : ℕ). Begins (owned_in runs s) (own_log run.journal)) at
          (subst (λ (j : List ℕ). Begins (owned_in runs run.site) (own_log j)) (sym honest.0.longer.is)
          (log_longer (journal_at runs run.site) honest.0.longer.rest (whole_at sites runs honest.1 run.site)))
      | false ↦ λ other. begins_itself (owned_in runs site)
    ] refl

owned_here : (run : Run) (runs : List Run) → owned_in (run ∷ runs) run.site ≡ own_log run.journal
owned_here run runs = ap (λ (b : Bool). own_log (cond b run.journal (journal_at runs run.site))) (same_number run.site)

pub start_of : (sites : ℕ) (run : Run) (runs : List Run) → IsHonestRun sites runs run → IsOf (owned_in (run ∷ runs)) (core_of_journal run.site sites run.journal)
start_of sites run runs is =
    subst (λ (c : Core). IsOf (owned_in (run ∷ runs)) c) (sym (journal_core run.site sites run.journal))
    (of_start (owned_in (run ∷ runs)) run.site sites (has_itself run.site sites is.opened) (own_log run.journal) (owned_here run runs))

-- the way of a run from its journal to its end
pub way_of : (sites : ℕ) (run : Run) (runs : List Run) → IsHonestRun sites runs run → IsExchanged (files_in run.given) (core_of_journal run.site sites run.journal) (core_of sites run)
way_of sites run runs is =
    exchanged_is (core_of_journal run.site sites run.journal) (journal_site run.site sites run.journal is.opened) (files_in run.given) (texts_are_deltas run.given)

-- a text is that of a delta of own logs
pub record IsTextRead (owned : ℕ → List Draft) (sites : ℕ) (text : List ℕ) : Type 0 where
  pub delta : List Placed
  pub is : delta_in text ≡ Ok delta
  pub of : IsTextOf owned sites delta

-- each entry that the site of a run holds is one of own logs, of a site of the group
abbrev pub HeldOf : ℕ → List Run → (ℕ → List Draft) → Type 0
HeldOf sites runs owned =
    (run : Run) → IsAmong runs run → (e : Placed) → holds (arrivals_of sites run) e ≡ true → (has_site sites e.origin ≡ true) × (is_held owned e ≡ true)

pub text_read : (sites : ℕ) (runs : List Run) (owned : ℕ → List Draft) → HeldOf sites runs owned → (text : List ℕ) → IsTextOfRuns sites runs text → IsTextRead owned sites text
text_read sites runs owned all text of = record {
  delta = of.delta;
  is = of.read;
  of = record {
    shape = delta_shape text of.delta of.read;
    inside = λ e among. let by : IsHeldByRuns sites runs e = of.held e among in (all by.run by.among e by.held).0;
    known = λ e among. let by : IsHeldByRuns sites runs e = of.held e among in (all by.run by.among e by.held).1;
  };
}

pub each_delta : (sites : ℕ) (runs : List Run) (owned : ℕ → List Draft) → HeldOf sites runs owned → (texts : List (List ℕ)) → ((text : List ℕ) → IsAmong texts text → IsTextOfRuns sites runs text)
    → (delta : List Placed) → IsAmong (files_in texts) (Ok delta) → IsTextOf owned sites delta
each_delta sites runs owned all texts given delta among =
    let from = among_map delta_in texts (Ok delta) among in
    let read : IsTextRead owned sites from.0 = text_read sites runs owned all from.0 (given from.0 from.1.0) in
    let same : read.delta ≡ delta = let both : Ok read.delta ≡ Ok delta = sym read.is ∙ sym from.1.1 in cc in
    subst (λ (d : List Placed). IsTextOf owned sites d) same read.of

-- the step for one run
pub run_of : (sites : ℕ) (run : Run) (runs : List Run) → IsHonestRun sites runs run → HeldOf sites runs (owned_in (run ∷ runs)) → IsOf (owned_in (run ∷ runs)) (core_of sites run)
run_of sites run runs is all =
    let way : IsExchanged (files_in run.given) (core_of_journal run.site sites run.journal) (core_of sites run) = way_of sites run runs is in
    of_accepted (owned_in (run ∷ runs)) (files_in run.given) sites
    (each_delta sites runs (owned_in (run ∷ runs)) all run.given is.given)
    way.deltas (core_of_journal run.site sites run.journal) (core_of sites run)
    (ap (λ (c : Core). c.group) (journal_core run.site sites run.journal))
    way.accepted
    (start_of sites run runs is)

held_of_longer : (sites : ℕ) (runs : List Run) (owned longer : ℕ → List Draft) → ((o : ℕ) → Begins (owned o) (longer o)) → HeldOf sites runs owned → HeldOf sites runs longer
held_of_longer sites runs owned longer begins all run among e held =
    let was : (has_site sites e.origin ≡ true) × (is_held owned e ≡ true) = all run among e held in
    (was.0, held_longer owned longer begins e was.1)

pub group_along : (files : List File) (deltas : List (List Placed)) (before after : Core) → AreAccepted files before deltas after → after.group ≡ before.group
group_along files [] before after is = ap (λ (c : Core). c.group) is
group_along files (delta ∷ deltas) before after way = group_along files deltas (core_joined before delta) after way.2

pub group_of : (sites : ℕ) (run : Run) (runs : List Run) → IsHonestRun sites runs run → (core_of sites run).group ≡ sites
group_of sites run runs is =
    let way : IsExchanged (files_in run.given) (core_of_journal run.site sites run.journal) (core_of sites run) = way_of sites run runs is in
    group_along (files_in run.given) way.deltas (core_of_journal run.site sites run.journal) (core_of sites run) way.accepted
    ∙ ap (λ (c : Core). c.group) (journal_core run.site sites run.journal)

pub held_in : (sites : ℕ) (runs : List Run) → IsHonest sites runs → HeldOf sites runs (owned_in runs)
held_in sites [] honest run among e held = absurd among
held_in sites (first ∷ runs) honest run among e held =
    let before : HeldOf sites runs (owned_in (first ∷ runs)) = held_of_longer sites runs (owned_in runs) (owned_in (first ∷ runs)) (longer_in sites first runs honest) (held_in sites runs honest.1) in
    elim among as (λ c. (has_site sites e.origin ≡ true) × (is_held (owned_in (first ∷ runs)) e ≡ true)) [
      | inl is ↦
          let of : IsOf (owned_in (first ∷ runs)) (core_of sites first) = run_of sites first runs honest.0 before in
          let here : holds (arrivals_of sites first) e ≡ true = ap (λ (r : Run). holds (arrivals_of sites r) e) (sym is) ∙ held in
          (ap (λ (g : ℕ). has_site g e.origin) (sym (group_of sites first runs honest.0)) ∙ of.inside e here, of.known e here)
      | inr older ↦ before run older e held
    ]

-- what the sites of the runs before hold, by the own logs after a run
pub held_before : (sites : ℕ) (run : Run) (runs : List Run) → IsHonest sites (run ∷ runs) → HeldOf sites runs (owned_in (run ∷ runs))
held_before sites run runs honest = held_of_longer sites runs (owned_in runs) (owned_in (run ∷ runs)) (longer_in sites run runs honest) (held_in sites runs honest.1)

pub cut_texts : CutsMayBeGiven
cut_texts sites [] honest text among = absurd among
cut_texts sites (run ∷ runs) honest text among = elim among as (λ c. IsTextOfRuns sites (run ∷ runs) text) [
  | inl is ↦ record {
    delta = entries_above run.have (arrivals_of sites run);
    read = ap delta_in is ∙ honest.0.written;
    held = λ e there. record { run = run; among = inl refl; held = among_above run.have (arrivals_of sites run) e there };
  }
  | inr older ↦
      let was : IsTextOfRuns sites runs text = cut_texts sites runs honest.1 text older in
      record {
        delta = was.delta;
        read = was.read;
        held = λ e there. let by : IsHeldByRuns sites runs e = was.held e there in record { run = by.run; among = inr by.among; held = by.held };
      }
]

pub never_forks : HubsNeverFork
never_forks sites run runs honest text among =
    let read : IsTextRead (owned_in (run ∷ runs)) sites text = text_read sites runs (owned_in (run ∷ runs)) (held_before sites run runs honest) text (honest.0.given text among) in
    let of : IsOf (owned_in (run ∷ runs)) (core_of sites run) = run_of sites run runs honest.0 (held_before sites run runs honest) in
    record {
      delta = read.delta;
      read = read.is;
      early = only_early (owned_in (run ∷ runs)) (core_of sites run) of read.delta
          (subst (λ (g : ℕ). IsTextOf (owned_in (run ∷ runs)) g read.delta) (sym (group_of sites run runs honest.0)) read.of);
    }
