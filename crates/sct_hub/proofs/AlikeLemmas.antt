-- A keeper's site holds what a site holds that takes its own journal first and is then offered its deltas. Proof plumbing.
use Rattle.std.proofs.Common.{◌≡◌, ◌∙◌, inl, inr, refl, ap, sym, subst, ℕ, Bool, true, false, not, cond, ◌||◌, List, [], ◌∷◌, ◌++◌, filter}
use Rattle.std.specs.Prelude.{None, Some, Ok}
use Rattle.std.specs.Cmp.{both_ways}
use Rattle.std.specs.List.{list_any}
use Rattle.std.specs.Ordering.{eq_by_cmp}
use Rattle.std.proofs.lemmas.Bool.{false_from_ne_true, false≢true}
use Rattle.std.proofs.lemmas.Cmp.{eq_by_cmp_equiv}
use Rattle.sct_message.specs.declared.draft.Draft.{Draft}
use Rattle.sct_message.proofs.AscendingLemmas.{ascending-same}
use Rattle.sct_message.proofs.Members.{tie_is}
use Rattle.sct_delta.specs.DeltaText.{written_delta}
use Rattle.sct_delta.specs.Entries.{Placed, holds, log_of, same_entry}
use Rattle.sct_delta.specs.Refusals.{has_site, is_held, message_at}
use Rattle.sct_delta.proofs.HeldLemmas.{entry_itself, one_entry}
use Rattle.sct_delta.proofs.JoinLemmas.{kept_is}
use Rattle.sct_site.specs.Cores.{Core, IsSite, arrivals_taken, core_joined, core_taken, entries_above, entry_order, fresh_entries, is_above, is_open, logs_of, own_entry, refusal_by}
use Rattle.sct_site.proofs.AboveLemmas.{entry_same, entry_total}
use Rattle.sct_site.proofs.HeldLemmas.{any_kept, held_number, held_stands, joined_holds, kept_first, kept_passes, one_of, one_place, stands_held}
use Rattle.sct_site.proofs.SiteLemmas.{has_itself, site_joined, site_opened, site_taken}
use Rattle.sct_exchange.specs.Journals.{core_of_journal, opened, own_log}
use Rattle.sct_exchange.specs.Owned.{IsOf, IsTextOf}
use Rattle.sct_exchange.specs.Rounds.{File, files_in}
use Rattle.sct_exchange.specs.Sites.{cut_text, site_after}
use Rattle.sct_exchange.specs.Ways.{AreAccepted, IsAmong, IsExchanged}
use Rattle.sct_exchange.proofs.AlikeLemmas.{HasAll, fits_too, none_new}
use Rattle.sct_exchange.proofs.HubLemmas.{group_along, of_accepted, of_start}
use Rattle.sct_exchange.proofs.JournalLemmas.{journal_core, journal_site}
use Rattle.sct_exchange.proofs.WayLemmas.{delta_shape, exchanged_is, texts_are_deltas}
use Rattle.sct_journal.specs.Kept.{AreLines}
use Rattle.sct_hub.specs.Hubs.{own_journal, texts_given}
use Rattle.sct_requests.specs.Steps.{AreKept, core_after, core_given, core_kept, text_in}
use Rattle.sct_requests.proofs.BringLemmas.{Joins, Takes, brings_how, with_own}
use Rattle.sct_hub.proofs.OwnLogLemmas.{own_log_is}
use Rattle.sct_requests.proofs.StepLemmas.{group_after, grows, number_after}

-- ---- a keeper's site is one, and keeps its entries

site_given : (core : Core) (line : List ℕ) → IsSite core → Takes core line → IsSite (core_given core line)
unfolding arrivals_taken
site_given core line site how = subst IsSite (sym (how.is ∙ sym taken)) (site_taken core how.message site)
  where
    taken : core_taken core how.message ≡ with_own core how.message
    taken = ap (λ (b : Bool). record { number = core.number; group = core.group; arrivals = cond b core.arrivals (core.arrivals ++ own_entry core how.message ∷ []) }) how.new

site_joins : (core : Core) (line : List ℕ) → IsSite core → Joins core line → IsSite (core_given core line)
site_joins core line site how = subst IsSite (sym how.is) (site_joined core how.delta site (delta_shape (text_in line) how.delta how.read) how.fits)

site_next : (core : Core) (line : List ℕ) → IsSite core → AreKept core (line ∷ []) → IsSite (core_given core line)
site_next core line site brought = elim (brings_how core line brought.0) [ inl how ↦ site_given core line site how | inr how ↦ site_joins core line site how ]

pub site_along : (lines : List (List ℕ)) (core : Core) → IsSite core → AreKept core lines → IsSite (core_after core lines)
site_along [] core site brought = site
site_along (line ∷ lines) core site brought = site_along lines (core_given core line) (site_next core line site (brought.0, tt)) brought.1

keeps : (core : Core) (line : List ℕ) → HasAll core.arrivals (core_given core line).arrivals
keeps core line e held =
    ap (λ (c : Core). holds c.arrivals e) (grows core line).is ∙ kept_first core.arrivals (grows core line).more e held

keeps_all : (lines : List (List ℕ)) (core : Core) → HasAll core.arrivals (core_after core lines).arrivals
keeps_all [] core e held = held
keeps_all (line ∷ lines) core e held = keeps_all lines (core_given core line) e (keeps core line e held)

-- ---- the entries of the deltas that it accepted

deltas_here : (lines : List (List ℕ)) (core : Core) → IsSite core → AreKept core lines → (delta : List Placed) → IsAmong (files_in (texts_given lines)) (Ok delta)
    → HasAll delta (core_after core lines).arrivals
deltas_here [] core site brought delta among = absurd among
deltas_here (line ∷ lines) core site brought delta among = elim (brings_how core line brought.0) [
  | inl how ↦
      deltas_here lines (core_given core line) (site_given core line site how) brought.1 delta
      (subst (λ (b : Bool). IsAmong (files_in (cond b (text_in line ∷ texts_given lines) (texts_given lines))) (Ok delta)) how.plain among)
  | inr how ↦
      elim (subst (λ (b : Bool). IsAmong (files_in (cond b (text_in line ∷ texts_given lines) (texts_given lines))) (Ok delta)) how.told among) as (λ c. HasAll delta (core_after core (line ∷ lines)).arrivals) [
        | inl is ↦
            let same : how.delta ≡ delta = let both : Ok how.delta ≡ Ok delta = sym how.read ∙ sym is in cc in
            λ e held. keeps_all lines (core_given core line) e
            (ap (λ (c : Core). holds c.arrivals e) how.is ∙ joined_holds core.arrivals how.delta site.order e (ap (λ (d : List Placed). holds d e) same ∙ held))
        | inr later ↦ deltas_here lines (core_given core line) (site_joins core line site how) brought.1 delta later
      ]
]

-- ---- a site whose own log is the same, and which lacks nothing of the deltas, has all

module _ (owned : ℕ → List Draft) (core : Core) (of : IsOf owned core) (final : Core)
    (own : (e : Placed) → e.origin ≡ final.number → holds final.arrivals e ≡ true → holds core.arrivals e ≡ true)
    (known : List Placed → Type 0) (text : (delta : List Placed) → known delta → IsTextOf owned core.group delta)
    (complete : (delta : List Placed) → known delta → refusal_by core delta ≡ None → fresh_entries core.arrivals delta ≡ []) where
  pub all_here : (lines : List (List ℕ)) (before : Core) → core_after before lines ≡ final → IsSite before → before.number ≡ final.number → before.group ≡ core.group → AreKept before lines
      → ((delta : List Placed) → IsAmong (files_in (texts_given lines)) (Ok delta) → known delta) → HasAll before.arrivals core.arrivals → HasAll final.arrivals core.arrivals
  all_here [] before is site number group brought among has = subst (λ (c : Core). HasAll c.arrivals core.arrivals) is has
  all_here (line ∷ lines) before is site number group brought among has = elim (brings_how before line brought.0) [
    | inl how ↦
        all_here lines (core_given before line) is (site_given before line site how)
        (ap (λ (c : Core). c.number) how.is ∙ number) (ap (λ (c : Core). c.group) how.is ∙ group) brought.1
        (λ delta later. among delta (subst (λ (b : Bool). IsAmong (files_in (cond b (text_in line ∷ texts_given lines) (texts_given lines))) (Ok delta)) (sym how.plain) later))
        (λ e held. elim (one_of before.arrivals (own_entry before how.message ∷ []) e (ap (λ (c : Core). holds c.arrivals e) (sym how.is) ∙ held)) as (λ c. holds core.arrivals e ≡ true) [
          | inl old ↦ has e old
          | inr new ↦
              own e (ap (λ (x : Placed). x.origin) (sym (one_entry (own_entry before how.message) e (alone (own_entry before how.message) e new))) ∙ number)
              (ap (λ (c : Core). holds c.arrivals e) (sym is) ∙ keeps_all lines (core_given before line) e held)
        ])
    | inr how ↦
        let here : IsAmong (files_in (texts_given (line ∷ lines))) (Ok how.delta) =
        subst (λ (b : Bool). IsAmong (files_in (cond b (text_in line ∷ texts_given lines) (texts_given lines))) (Ok how.delta)) (sym how.told) (inl (sym how.read)) in
        let its : IsTextOf owned core.group how.delta = text how.delta (among how.delta here) in
        let fits : refusal_by core how.delta ≡ None = fits_too owned core of how.delta its before.arrivals site.order has before.number
        (ap (λ (g : ℕ). refusal_by (record { number = before.number; group = g; arrivals = before.arrivals }) how.delta) (sym group) ∙ how.fits) in
        let none : fresh_entries core.arrivals how.delta ≡ [] = complete how.delta (among how.delta here) fits in
        all_here lines (core_given before line) is (site_joins before line site how)
        (ap (λ (c : Core). c.number) how.is ∙ number) (ap (λ (c : Core). c.group) how.is ∙ group) brought.1
        (λ delta later. among delta (subst (λ (b : Bool). IsAmong (files_in (cond b (text_in line ∷ texts_given lines) (texts_given lines))) (Ok delta)) (sym how.told) (inr later)))
        (λ e held. elim (one_of before.arrivals (fresh_entries before.arrivals how.delta) e (ap (λ (c : Core). holds c.arrivals e) (sym how.is) ∙ held)) as (λ c. holds core.arrivals e ≡ true) [
          | inl old ↦ has e old
          | inr new ↦ none_new core.arrivals how.delta of.order none e (any_kept (λ x. not (is_held (logs_of before.arrivals) x)) (λ x. same_entry x e) how.delta new)
        ])
  ]
    where
      alone : (one e : Placed) → holds (one ∷ []) e ≡ true → same_entry one e ≡ true
      alone one e held = (elim (same_entry one e) as (λ b. (b || false) ≡ true → b ≡ true) [ true ↦ λ h. refl | false ↦ λ h. h ]) held

-- ---- the two tests for one entry are one

test_same : (q e : Placed) → eq_by_cmp entry_order q e ≡ same_entry e q
test_same q e =
    both_ways (eq_by_cmp entry_order q e) (same_entry e q)
    (λ tie. ap (λ (x : Placed). same_entry x q) (sym (tie_is entry_total entry_same q e tie)) ∙ entry_itself q)
    (λ same. ap (λ (x : Placed). eq_by_cmp entry_order q x) (one_entry e q same) ∙ (eq_by_cmp_equiv entry_total).refl q)

any_held : (q : Placed) (es : List Placed) → list_any (eq_by_cmp entry_order q) es ≡ holds es q
any_held q es = ap (λ (p : Placed → Bool). list_any p es) (λ i e. test_same q e i)

part_same : (p : Placed → Bool) (es fs : List Placed) (q : Placed) → holds es q ≡ holds fs q → holds (filter p es) q ≡ holds (filter p fs) q
part_same p es fs q same = (elim (p q) as (λ b. p q ≡ b → holds (filter p es) q ≡ holds (filter p fs) q) [
  | true ↦ λ passes. kept_is p q passes es ∙ same ∙ sym (kept_is p q passes fs)
  | false ↦ λ other. none es other ∙ sym (none fs other)
]) refl
  where
    none : (gs : List Placed) → p q ≡ false → holds (filter p gs) q ≡ false
    none gs other = false_from_ne_true (holds (filter p gs) q) (λ held. absurd (false≢true (sym other ∙ kept_passes p gs q held)))

-- lists that hold the same entries have the same above a vector
pub above_alike : (count : ℕ → ℕ) (es fs : List Placed) → ((e : Placed) → holds es e ≡ holds fs e) → entries_above count es ≡ entries_above count fs
unfolding entries_above
above_alike count es fs alike =
    ascending-same entry_total entry_same (filter (is_above count) es) (filter (is_above count) fs) (λ q.
    any_held q (filter (is_above count) es) ∙ part_same (is_above count) es fs q (alike q) ∙ sym (any_held q (filter (is_above count) fs)))

-- ---- a keeper's site, and the same site made anew from its journal and its deltas

pub number_along : (files : List File) (deltas : List (List Placed)) (before after : Core) → AreAccepted files before deltas after → after.number ≡ before.number
number_along files [] before after is = ap (λ (c : Core). c.number) is
number_along files (delta ∷ deltas) before after way = number_along files deltas (core_joined before delta) after way.2

module _ (site sites : ℕ) (valid : is_open site sites ≡ true) (lines : List (List ℕ)) (are : AreLines lines) (brought : AreKept (opened site sites) lines) where
  abbrev live : Core
  live = core_kept site sites lines

  abbrev journal : List ℕ
  journal = own_journal lines

  abbrev files : List File
  files = files_in (texts_given lines)

  abbrev start : Core
  start = core_of_journal site sites journal

  abbrev again : Core
  again = (site_after site sites journal (texts_given lines)).core

  abbrev owned : ℕ → List Draft
  owned = logs_of live.arrivals

  pub live_site : IsSite live
  live_site = site_along lines (opened site sites) (site_opened site sites valid) brought

  pub live_number : live.number ≡ site
  live_number = number_after lines (opened site sites)

  pub live_group : live.group ≡ sites
  live_group = group_after lines (opened site sites)

  pub own_is : owned site ≡ own_log journal
  own_is = ap (λ (n : ℕ). log_of n live.arrivals) (sym live_number) ∙ own_log_is site sites lines are brought

  of_begin : IsOf owned start
  of_begin = subst (λ (c : Core). IsOf owned c) (sym (journal_core site sites journal)) (of_start owned site sites (has_itself site sites valid) (own_log journal) own_is)

  here : (delta : List Placed) → IsAmong files (Ok delta) → HasAll delta live.arrivals
  here delta among = deltas_here lines (opened site sites) (site_opened site sites valid) brought delta among

  text_is : (delta : List Placed) → IsAmong files (Ok delta) → IsTextOf owned sites delta
  text_is delta among = record {
    shape = texts_are_deltas (texts_given lines) delta among;
    inside = λ e held. ap (λ (g : ℕ). has_site g e.origin) (sym live_group) ∙ live_site.inside e (here delta among e held);
    known = λ e held. held_stands live.arrivals live_site.order e (here delta among e held);
  }

  way : IsExchanged files start again
  way = exchanged_is start (journal_site site sites journal valid) files (texts_are_deltas (texts_given lines))

  start_group : start.group ≡ sites
  start_group = ap (λ (c : Core). c.group) (journal_core site sites journal)

  again_group : again.group ≡ sites
  again_group = group_along files way.deltas start again way.accepted ∙ start_group

  again_number : again.number ≡ site
  again_number = number_along files way.deltas start again way.accepted ∙ ap (λ (c : Core). c.number) (journal_core site sites journal)

  pub of_again : IsOf owned again
  of_again = of_accepted owned files sites text_is way.deltas start again start_group way.accepted of_begin

  own_here : (e : Placed) → e.origin ≡ live.number → holds live.arrivals e ≡ true → holds again.arrivals e ≡ true
  own_here e origin held =
      let place : message_at (log_of e.origin live.arrivals) e.n ≡ Some e.message = one_place live.arrivals live_site.order e held in
      let at : again.number ≡ e.origin = again_number ∙ sym live_number ∙ sym origin in
      let same : log_of e.origin again.arrivals ≡ log_of e.origin live.arrivals =
      subst (λ (n : ℕ). log_of n again.arrivals ≡ log_of n live.arrivals) at of_again.own in
      held_number again.arrivals of_again.order e.origin e.n e.message (ap (λ (l : List Draft). message_at l e.n) same ∙ place)

  all_live : HasAll live.arrivals again.arrivals
  all_live =
      all_here owned again of_again live own_here (λ delta. IsAmong files (Ok delta))
      (λ delta among. subst (λ (g : ℕ). IsTextOf owned g delta) (sym again_group) (text_is delta among))
      way.complete lines (opened site sites) refl (site_opened site sites valid) (sym live_number) (sym again_group) brought
      (λ delta among. among) (λ e held. absurd (false≢true held))

  all_again : HasAll again.arrivals live.arrivals
  all_again e held = stands_held live.arrivals live_site.order e (of_again.known e held)

  pub alike : (e : Placed) → holds live.arrivals e ≡ holds again.arrivals e
  alike e = both_ways (holds live.arrivals e) (holds again.arrivals e) (all_live e) (all_again e)

  pub above_same : (have : ℕ → ℕ) → entries_above have live.arrivals ≡ entries_above have again.arrivals
  above_same have = above_alike have live.arrivals again.arrivals alike

  pub cut_same : (have : ℕ → ℕ) → cut_text have live.arrivals ≡ cut_text have again.arrivals
  cut_same have = ap written_delta (above_same have)
