-- Runs of an honest hub that hold the same entries. Proof plumbing.
use Rattle.std.proofs.Common.{◌≡◌, inl, inr, ◌∙◌, refl, ap, sym, subst, ℕ, suc, ◌+◌, ◌≤◌, true, false, not, List, [], ◌∷◌, length, arith, nat_eq, nat_lt}
use Rattle.std.specs.Prelude.{Some, None, Ok}
use Rattle.std.specs.Cmp.{both_ways}
use Rattle.std.proofs.lemmas.Bool.{false≢true}
use Rattle.std.proofs.lemmas.Bool.Decides.{nat_tests}
use Rattle.std.proofs.lemmas.Option.{same_Some}
use Rattle.sct_message.specs.declared.draft.Draft.{Draft}
use Rattle.sct_delta.specs.DeltaText.{delta_in}
use Rattle.sct_delta.specs.Entries.{Placed, log_of, held_from, holds, same_entry, IsArrivals}
use Rattle.sct_delta.specs.Refusals.{message_at, is_held, is_fork, is_ahead, is_past, is_outside, firsts_after}
use Rattle.sct_delta.proofs.HeldLemmas.{passes_none}
use Rattle.sct_delta.proofs.JoinLemmas.{passed, unrefused, kept_is}
use Rattle.sct_delta.proofs.TestLemmas.{none_also}
use Rattle.sct_set.specs.Archive.{archive_text_of}
use Rattle.sct_site.specs.Cores.{Core, core_joined, fresh_entries, logs_of, refusal_by}
use Rattle.sct_site.proofs.ArrivalLemmas.{length-log}
use Rattle.sct_site.proofs.HeldLemmas.{any_kept, at_number, held_number, kept_first, not_0, one_of, one_place, stands_held, within}
use Rattle.sct_site.proofs.MessageLemmas.{same_messages}
use Rattle.sct_exchange.specs.Hubs.{Run, IsHonestRun, IsHonest, arrivals_of, core_of}
use Rattle.sct_exchange.specs.Journals.{core_of_journal}
use Rattle.sct_exchange.specs.Laws.{AreAmong, EqualVectorsHoldAlike, EqualVectorsWriteAlike, OrderDoesNotMatter}
use Rattle.sct_exchange.specs.Owned.{IsOf, IsTextOf}
use Rattle.sct_exchange.specs.Rounds.{File, files_in}
use Rattle.sct_exchange.specs.Ways.{AreAccepted, HasAllItFits, IsAmong, IsExchanged}
use Rattle.sct_exchange.proofs.HubLemmas.{each_delta, group_of, held_longer, its_message, longer_in, no_other, not_ahead, of_joined, owned_in, run_of, start_of, held_before, way_of}
use Rattle.sct_exchange.proofs.JournalLemmas.{journal_core}
use Rattle.sct_exchange.proofs.WayLemmas.{among_map, mapped}

-- ---- equal vectors

-- Each entry of a list is its origin's message of that number.
record AreOwned (owned : ℕ → List Draft) (es : List Placed) : Type 0 where
  order : IsArrivals es
  known : (e : Placed) → holds es e ≡ true → is_held owned e ≡ true

owned_by_one : (sites : ℕ) (runs : List Run) → IsHonest sites runs → (run : Run) → IsAmong runs run → AreOwned (owned_in runs) (arrivals_of sites run)
owned_by_one sites [] honest run one = absurd one
owned_by_one sites (first ∷ runs) honest run one =
    elim one as (λ c. AreOwned (owned_in (first ∷ runs)) (arrivals_of sites run)) [
      | inl is ↦
          let of : IsOf (owned_in (first ∷ runs)) (core_of sites first) = run_of sites first runs honest.0 (held_before sites first runs honest) in
          subst (λ (r : Run). AreOwned (owned_in (first ∷ runs)) (arrivals_of sites r)) (sym is) (record { order = of.order; known = of.known })
      | inr older ↦
          let was : AreOwned (owned_in runs) (arrivals_of sites run) = owned_by_one sites runs honest.1 run older in
          record { order = was.order; known = λ e held. held_longer (owned_in runs) (owned_in (first ∷ runs)) (longer_in sites first runs honest) e (was.known e held) }
    ]

held_alike : (owned : ℕ → List Draft) (es fs : List Placed) → AreOwned owned es → AreOwned owned fs → (e : Placed) → held_from e.origin es ≡ held_from e.origin fs → holds es e ≡ true → holds fs e ≡ true
held_alike owned es fs one other e same held =
    let place : message_at (log_of e.origin es) e.n ≡ Some e.message = one_place es one.order e held in
    let sizes : length (log_of e.origin es) ≡ length (log_of e.origin fs) = length-log e.origin es ∙ same ∙ sym (length-log e.origin fs) in
    at_number (log_of e.origin fs) e.n (not_0 (log_of e.origin es) e.n e.message place)
    (ap (λ (n : ℕ). nat_lt n e.n) (sym sizes) ∙ within (log_of e.origin es) e.n e.message place)
    (holds fs e ≡ true)
    (λ m is.
    let found : Placed = record { origin = e.origin; n = e.n; message = m } in
    let there : holds fs found ≡ true = held_number fs other.order e.origin e.n m is in
    let message : m ≡ e.message = same_Some m e.message (sym (its_message owned found (other.known found there)) ∙ its_message owned e (one.known e held)) in
    ap (λ (x : Draft). holds fs (record { origin = e.origin; n = e.n; message = x })) (sym message) ∙ there)

pub equal_vectors : EqualVectorsHoldAlike
equal_vectors sites runs honest one other first second same e =
    let mine = owned_by_one sites runs honest one first in
    let theirs = owned_by_one sites runs honest other second in
    both_ways _ _
    (held_alike (owned_in runs) (arrivals_of sites one) (arrivals_of sites other) mine theirs e (same e.origin))
    (held_alike (owned_in runs) (arrivals_of sites other) (arrivals_of sites one) theirs mine e (sym (same e.origin)))

pub write_alike : EqualVectorsWriteAlike
write_alike sites runs honest one other first second same =
    ap archive_text_of (same_messages (arrivals_of sites one) (arrivals_of sites other) (equal_vectors sites runs honest one other first second same))

-- ---- the order of the texts does not matter

-- the second site has every entry of the first
abbrev pub HasAll : List Placed → List Placed → Type 0
HasAll es fs = (e : Placed) → holds es e ≡ true → holds fs e ≡ true

last_there : (n k : ℕ) → nat_lt k n ≡ false → n ≤ k
last_there n k e = grind (arith, nat_tests)

still_near : (k l n : ℕ) → k ≤ l → nat_lt (k + 1) n ≡ false → nat_lt (l + 1) n ≡ false
still_near k l n le e = grind (arith, nat_tests)

full_itself : (n : ℕ) → nat_lt n n ≡ false
full_itself n = grind (arith, nat_tests)

not_none : (n : ℕ) → nat_eq (suc n) 0 ≡ false
not_none n = grind (arith, nat_tests)

by_length : (log : List Draft) (k : ℕ) → ((n : ℕ) (m : Draft) → message_at log n ≡ Some m → nat_lt k n ≡ false) → length log ≤ k
by_length [] k each = omega arith
by_length (m ∷ log) k each =
    let size : ℕ = length (m ∷ log) in
    at_number (m ∷ log) size (not_none (length log)) (full_itself size) (size ≤ k) (λ x is. last_there size k (each size x is))

pub length_within : (es fs : List Placed) → IsArrivals es → IsArrivals fs → HasAll es fs → (o : ℕ) → length (log_of o es) ≤ length (log_of o fs)
length_within es fs first second has o = by_length (log_of o es) (length (log_of o fs)) (λ n m is.
    let e : Placed = record { origin = o; n = n; message = m } in
    within (log_of o fs) n m (one_place fs second e (has e (held_number es first o n m is))))

module _ (owned : ℕ → List Draft) (core : Core) (of : IsOf owned core) (delta : List Placed) (text : IsTextOf owned core.group delta) (es : List Placed) (order : IsArrivals es) (has : HasAll es core.arrivals)
    (own : ℕ) (fits : refusal_by (record { number = own; group = core.group; arrivals = es }) delta ≡ None) where
  -- what an earlier site of the same own logs accepted this site accepts
  pub fits_too : refusal_by core delta ≡ None
  fits_too =
      unrefused core.number core.group (logs_of core.arrivals) delta (record {
        inside = passes_none (is_outside core.group) delta (λ e among. ap not (text.inside e among));
        known = passes_none (is_ahead core.number (logs_of core.arrivals)) delta (not_ahead owned core of delta text);
        no_gap = none_also (is_past (logs_of es)) (is_past (logs_of core.arrivals)) (λ e near. still_near _ _ e.n (length_within es core.arrivals order of.order has e.origin) near)
            (firsts_after 0 delta) (passed own core.group (logs_of es) delta fits).no_gap;
        no_fork = passes_none (is_fork (logs_of core.arrivals)) delta (λ e among. no_other owned core of delta text e among (message_at (log_of e.origin core.arrivals) e.n) refl);
      })

-- what is not new is held
pub none_new : (es ds : List Placed) → IsArrivals es → fresh_entries es ds ≡ [] → HasAll ds es
none_new es ds order none e among =
    elim (is_held (logs_of es) e) as (λ b. is_held (logs_of es) e ≡ b → holds es e ≡ true) [
      | true ↦ λ held. stands_held es order e held
      | false ↦ λ new. absurd (false≢true (ap (λ (l : List Placed). holds l e) (sym none) ∙ kept_is (λ x. not (is_held (logs_of es) x)) e (ap not new) ds ∙ among))
    ] refl

-- from a site whose entries are all here, along deltas that are here, to another one whose entries are all here
all_along : (owned : ℕ → List Draft) (core : Core) → IsOf owned core → (theirs mine : List File) → HasAllItFits mine core
    → ((delta : List Placed) → IsAmong theirs (Ok delta) → IsTextOf owned core.group delta) → ((delta : List Placed) → IsAmong theirs (Ok delta) → IsAmong mine (Ok delta))
    → (deltas : List (List Placed)) (before after : Core) → before.group ≡ core.group → AreAccepted theirs before deltas after → IsOf owned before → HasAll before.arrivals core.arrivals → HasAll after.arrivals core.arrivals
all_along owned core of theirs mine complete texts among [] before after group is was has = subst (λ (c : Core). HasAll c.arrivals core.arrivals) (sym is) has
all_along owned core of theirs mine complete texts among (delta ∷ deltas) before after group way was has =
    let text : IsTextOf owned core.group delta = texts delta way.0 in
    let fits : refusal_by core delta ≡ None = fits_too owned core of delta text before.arrivals was.order has before.number
    (ap (λ (g : ℕ). refusal_by (record { number = before.number; group = g; arrivals = before.arrivals }) delta) (sym group) ∙ way.1) in
    let none : fresh_entries core.arrivals delta ≡ [] = complete delta (among delta way.0) fits in
    all_along owned core of theirs mine complete texts among deltas (core_joined before delta) after group way.2
    (of_joined owned before was delta (subst (λ (g : ℕ). IsTextOf owned g delta) (sym group) text) way.1)
    (λ e held. elim (one_of before.arrivals (fresh_entries before.arrivals delta) e held) as (λ c. holds core.arrivals e ≡ true) [
      | inl old ↦ has e old
      | inr new ↦ none_new core.arrivals delta of.order none e (any_kept (λ x. not (is_held (logs_of before.arrivals) x)) (λ x. same_entry x e) delta new)
    ])

-- a site keeps its entries along accepted deltas
pub kept_along : (files : List File) (deltas : List (List Placed)) (before after : Core) → AreAccepted files before deltas after → HasAll before.arrivals after.arrivals
kept_along files [] before after is e held = ap (λ (c : Core). holds c.arrivals e) is ∙ held
kept_along files (delta ∷ deltas) before after way e held =
    kept_along files deltas (core_joined before delta) after way.2 e (kept_first before.arrivals (fresh_entries before.arrivals delta) e held)

-- a delta of texts that are among others is among the deltas of those
delta_among : (texts others : List (List ℕ)) → AreAmong texts others → (delta : List Placed) → IsAmong (files_in texts) (Ok delta) → IsAmong (files_in others) (Ok delta)
delta_among texts others among delta is =
    let from = among_map delta_in texts (Ok delta) is in
    subst (λ (f : File). IsAmong (files_in others) f) (sym from.1.1) (mapped delta_in others from.0 (among from.0 from.1.0))

-- one run's entries are the other's
all_of_other : (sites : ℕ) (runs : List Run) → IsHonest sites runs → (one other : Run) → IsHonestRun sites runs one → IsHonestRun sites runs other
    → one.site ≡ other.site → one.journal ≡ other.journal → AreAmong one.given other.given → HasAll (arrivals_of sites one) (arrivals_of sites other)
all_of_other sites runs honest one other first second site journal among =
    let owned : ℕ → List Draft = owned_in (other ∷ runs) in
    let texts = held_before sites other runs (second, honest) in
    let of : IsOf owned (core_of sites other) = run_of sites other runs second texts in
    let start : core_of_journal one.site sites one.journal ≡ core_of_journal other.site sites other.journal = λ i. core_of_journal (site i) sites (journal i) in
    let mine : IsExchanged (files_in one.given) (core_of_journal one.site sites one.journal) (core_of sites one) = way_of sites one runs first in
    let theirs : IsExchanged (files_in other.given) (core_of_journal other.site sites other.journal) (core_of sites other) = way_of sites other runs second in
    let group : (core_of sites other).group ≡ sites = group_of sites other runs second in
    all_along owned (core_of sites other) of (files_in one.given) (files_in other.given) theirs.complete
    (λ delta is. subst (λ (g : ℕ). IsTextOf owned g delta) (sym group) (each_delta sites runs owned texts one.given first.given delta is))
    (delta_among one.given other.given among)
    mine.deltas (core_of_journal one.site sites one.journal) (core_of sites one)
    (ap (λ (c : Core). c.group) (journal_core one.site sites one.journal) ∙ sym group)
    mine.accepted
    (subst (λ (c : Core). IsOf owned c) (sym start) (start_of sites other runs second))
    (subst (λ (c : Core). HasAll c.arrivals (arrivals_of sites other)) (sym start)
    (kept_along (files_in other.given) theirs.deltas (core_of_journal other.site sites other.journal) (core_of sites other) theirs.accepted))

pub order_does_not_matter : OrderDoesNotMatter
order_does_not_matter sites runs honest one other first second site journal there back e =
    both_ways _ _
    (all_of_other sites runs honest one other first second site journal there e)
    (all_of_other sites runs honest other one second first (sym site) (sym journal) back e)
