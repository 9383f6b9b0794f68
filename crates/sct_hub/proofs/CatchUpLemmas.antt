-- A cut above a vector that is at most a peer's fits the peer, which then holds what was cut from. Proof plumbing.
use Rattle.std.proofs.Common.{◌≡◌, ◌∙◌, inl, inr, refl, ap, sym, ℕ, ◌+◌, ◌≤◌, Bool, true, false, ◌&&◌, ◌||◌, List, [], ◌∷◌, drop, filter, length, arith, nat_lt}
use Rattle.std.specs.Prelude.{Some, None}
use Rattle.std.specs.FinSet.{nat_cmp-IsAntisymmetric}
use Rattle.std.specs.List.{AllByRecursion, list_all}
use Rattle.std.specs.List.Sorted.{IsStrictlySortedBy}
use Rattle.std.specs.Ordering.{is_eq, nat_cmp, ordering_then}
use Rattle.std.specs.declared.cmp.Ordering.{Ordering}
use Rattle.std.specs.declared.cmp.Ordering.TheVariants.{Less, Equal, Greater}
use Rattle.std.proofs.Math.Bool.{or-true}
use Rattle.std.proofs.lemmas.Bool.{false≢true, le-ltb, lt-ltb, ltb-false}
use Rattle.std.proofs.lemmas.Bool.Decides.{nat_tests}
use Rattle.std.proofs.lemmas.Option.{same_Some}
use Rattle.sct_message.specs.Ascending.{ascending}
use Rattle.sct_message.specs.Order.{message_order}
use Rattle.sct_message.specs.declared.draft.Draft.{Draft}
use Rattle.sct_message.proofs.AscendingLemmas.{ascending-filter, ascending-sorted, ascending_rises}
use Rattle.sct_message.proofs.Members.{ties_itself}
use Rattle.sct_message.proofs.SameValues.{message_itself}
use Rattle.sct_delta.specs.Entries.{IsArrivals, IsDelta, Placed, held_from, holds, is_from, log_of, place_order, same_entry}
use Rattle.sct_delta.specs.Laws.{IsReached}
use Rattle.sct_delta.specs.Refusals.{IsCut, has_site, is_held, is_same_as, message_at}
use Rattle.sct_delta.specs.Sites.{is_site}
use Rattle.sct_delta.proofs.EntryLemmas.{not_zero, rises-numbered}
use Rattle.sct_delta.proofs.FittingLemmas.{refused_where_it_does_not_fit}
use Rattle.sct_delta.proofs.HeldLemmas.{cut_holds, entry_itself, some_there}
use Rattle.sct_site.specs.Cores.{Core, IsSite, arrivals_joined, entries_above, entry_order, fresh_entries, is_above, is_open, logs_of, refusal_by}
use Rattle.sct_site.proofs.AboveLemmas.{entry_same, entry_total, from_above, rises_as_entries}
use Rattle.sct_site.proofs.ArrivalLemmas.{length-log}
use Rattle.sct_site.proofs.HeldLemmas.{among_above, at_number, held_number, held_stands, joined_holds, kept_first, not_0, one_place, run_above, within}
use Rattle.sct_exchange.specs.Journals.{Begins}
use Rattle.sct_exchange.proofs.HubLemmas.{held_longer}
use Rattle.sct_hub.specs.Restored.{AgreeSoFar, HasEachOf, PeersCatchUp}

-- ---- what is cut above a vector

module _ (count : ℕ → ℕ) (es : List Placed) (order : IsArrivals es) where
  above_cut : IsCut (logs_of es) count (entries_above count es)
  unfolding entries_above
  above_cut o =
      sym (ascending-filter entry_total entry_same (is_from o) (filter (is_above count) es))
      ∙ ap (ascending entry_order) (from_above count es order o)
      ∙ ascending-sorted entry_total entry_same _ (rises_as_entries _ (rises-numbered o (count o + 1) (drop (count o) (log_of o es))))

  above_holds : (e : Placed) → holds (entries_above count es) e ≡ (is_held (logs_of es) e && nat_lt (count e.origin) e.n)
  above_holds e = cut_holds (logs_of es) count (entries_above count es) above_cut e

  above_is : (e : Placed) → is_held (logs_of es) e ≡ true → nat_lt (count e.origin) e.n ≡ true → holds (entries_above count es) e ≡ true
  above_is e held above = above_holds e ∙ (λ i. held i && above i)

-- ---- a cut of a site is a delta

held_here : (e : Placed) (es : List Placed) → holds (e ∷ es) e ≡ true
held_here e es = ap (λ (b : Bool). b || holds es e) (entry_itself e)

held_later : (d : Placed) (es : List Placed) (e : Placed) → holds es e ≡ true → holds (d ∷ es) e ≡ true
held_later d es e held = ap (λ (b : Bool). same_entry d e || b) held ∙ or-true (same_entry d e)

never_before : (e : Placed) → entry_order e e ≡ Less → ⊥
never_before e less = false≢true (ap is_eq (sym less) ∙ ties_itself entry_total entry_same e)

by_place : (a b c : Ordering) → (a ≡ Equal → b ≡ Equal → ⊥) → ordering_then a (ordering_then b c) ≡ Less → ordering_then a b ≡ Less
by_place Less b c apart less = refl
by_place Greater b c apart less = less
by_place Equal Less c apart less = refl
by_place Equal Greater c apart less = less
by_place Equal Equal c apart less = absurd (apart refl refl)

place_less : (e d : Placed) → (e.origin ≡ d.origin → e.n ≡ d.n → e ≡ d) → entry_order e d ≡ Less → place_order e d ≡ Less
place_less e d once less =
    by_place (nat_cmp e.origin d.origin) (nat_cmp e.n d.n) (message_order e.message d.message)
    (λ origin number. never_before e (ap (λ (x : Placed). entry_order e x) (once (nat_cmp-IsAntisymmetric e.origin d.origin origin) (nat_cmp-IsAntisymmetric e.n d.n number)) ∙ less)) less

-- no place has two entries of the list
abbrev AreOnce : List Placed → Type 0
AreOnce es = (a b : Placed) → holds es a ≡ true → holds es b ≡ true → a.origin ≡ b.origin → a.n ≡ b.n → a ≡ b

all_less : (e : Placed) (ds : List Placed) → ((d : Placed) → holds ds d ≡ true → e.origin ≡ d.origin → e.n ≡ d.n → e ≡ d)
    → AllByRecursion (λ d. entry_order e d ≡ Less) ds → AllByRecursion (λ d. place_order e d ≡ Less) ds
all_less e [] once less = tt
all_less e (d ∷ ds) once less = (place_less e d (once d (held_here d ds)) less.0, all_less e ds (λ x held. once x (held_later d ds x held)) less.1)

rises_by_place : (ds : List Placed) → AreOnce ds → IsStrictlySortedBy entry_order ds → IsStrictlySortedBy place_order ds
unfolding IsStrictlySortedBy
rises_by_place [] once rises = tt
rises_by_place (d ∷ ds) once rises = (
  all_less d ds (λ x held. once d x (held_here d ds) (held_later d ds x held)) rises.0,
  rises_by_place ds (λ a b p q. once a b (held_later d ds a p) (held_later d ds b q)) rises.1,
)

once_held : (es : List Placed) → IsArrivals es → AreOnce es
once_held es order a b p q origin number =
    let message : a.message ≡ b.message =
    same_Some a.message b.message (sym (one_place es order a p) ∙ (λ i. message_at (log_of (origin i) es) (number i)) ∙ one_place es order b q) in
    λ i. record { origin = origin i; n = number i; message = message i }

pass_each : (p : Placed → Bool) (es : List Placed) → ((e : Placed) → holds es e ≡ true → p e ≡ true) → list_all p es ≡ true
pass_each p [] each = refl
pass_each p (e ∷ es) each = λ i. each e (held_here e es) i && pass_each p es (λ x held. each x (held_later e es x held)) i

pub site_of_group : (number group o : ℕ) → is_open number group ≡ true → has_site group o ≡ true → is_site o ≡ true
site_of_group number group o valid there = grind (arith, nat_tests)

above_rises : (count : ℕ → ℕ) (es : List Placed) → IsStrictlySortedBy entry_order (entries_above count es)
unfolding entries_above
above_rises count es = ascending_rises entry_total entry_same (filter (is_above count) es)

pub cut_shape : (core : Core) → IsSite core → (count : ℕ → ℕ) → IsDelta (entries_above count core.arrivals)
cut_shape core site count = record {
  runs = run_above count core.arrivals site.order;
  rises = rises_by_place (entries_above count core.arrivals)
      (λ a b p q. once_held core.arrivals site.order a b (among_above count core.arrivals a p) (among_above count core.arrivals b q))
      (above_rises count core.arrivals);
  sites = pass_each (λ e. is_site e.origin) (entries_above count core.arrivals)
      (λ e held. site_of_group core.number core.group e.origin site.opened (site.inside e (among_above count core.arrivals e held)));
}

-- ---- the cut fits a site that has no other message under a number, and has as many entries as the vector counts

pub within_log : (log : List Draft) (n : ℕ) (m : Draft) → message_at log n ≡ Some m → n ≤ length log
within_log log n m is = ltb-false (length log) n (within log n m is)

next_within : (log : List Draft) (k n : ℕ) (m : Draft) → message_at log n ≡ Some m → nat_lt k n ≡ true → nat_lt (length log) (k + 1) ≡ false
next_within log k n m is above = let most : n ≤ length log = within_log log n m is in grind (arith, nat_tests)

next_above : (k : ℕ) → nat_lt k (k + 1) ≡ true
next_above k = lt-ltb k (k + 1) (omega arith)

module _ (es : List Placed) (order : IsArrivals es) (taker : Core) (its_order : IsArrivals taker.arrivals) (have : ℕ → ℕ) (shape : IsDelta (entries_above have es))
    (inside : (e : Placed) → holds es e ≡ true → has_site taker.group e.origin ≡ true)
    (own : length (log_of taker.number es) ≤ length (log_of taker.number taker.arrivals))
    (most : (o : ℕ) → have o ≤ length (log_of o taker.arrivals))
    (agree : (e : Placed) → holds es e ≡ true → e.n ≤ length (log_of e.origin taker.arrivals) → holds taker.arrivals e ≡ true) where
  abbrev delta : List Placed
  delta = entries_above have es

  reached : (e : Placed) → holds delta e ≡ true → IsReached (logs_of taker.arrivals) delta e.origin
  reached e among =
      let held : holds es e ≡ true = among_above have es e among in
      let place : message_at (log_of e.origin es) e.n ≡ Some e.message = one_place es order e held in
      let above : nat_lt (have e.origin) e.n ≡ true = and_second (is_held (logs_of es) e) (nat_lt (have e.origin) e.n) (sym (above_holds have es order e) ∙ among) in
      at_number (log_of e.origin es) (have e.origin + 1) (not_zero (have e.origin + 1) (omega arith)) (next_within (log_of e.origin es) (have e.origin) e.n e.message place above)
      (IsReached (logs_of taker.arrivals) delta e.origin)
      (λ m is. record {
        entry = record { origin = e.origin; n = have e.origin + 1; message = m };
        among = above_is have es order (record { origin = e.origin; n = have e.origin + 1; message = m })
            (held_stands es order (record { origin = e.origin; n = have e.origin + 1; message = m }) (held_number es order e.origin (have e.origin + 1) m is))
            (next_above (have e.origin));
        from = refl;
        reached = omega (arith, most e.origin);
      })
    where
      and_second : (a b : Bool) → (a && b) ≡ true → b ≡ true
      and_second true b both = both
      and_second false b both = absurd (false≢true both)

  own_most : (e : Placed) → holds delta e ≡ true → e.origin ≡ taker.number → e.n ≤ length (log_of taker.number taker.arrivals)
  own_most e among is =
      let there : e.n ≤ length (log_of taker.number es) =
      within_log (log_of taker.number es) e.n e.message (ap (λ (o : ℕ). message_at (log_of o es) e.n) (sym is) ∙ one_place es order e (among_above have es e among)) in
      omega (arith, there, own)

  pub cut_fits : refusal_by taker delta ≡ None
  cut_fits =
      (refused_where_it_does_not_fit taker.number taker.group (logs_of taker.arrivals) delta shape).1 (record {
        inside = λ e among. inside e (among_above have es e among);
        known = own_most;
        no_gap = reached;
        no_fork = λ e among below. held_stands taker.arrivals its_order e (agree e (among_above have es e among) below);
      })

  pub cut_has : HasEachOf es (arrivals_joined taker.arrivals delta)
  cut_has e held =
      elim (nat_lt (have e.origin) e.n) as (λ b. nat_lt (have e.origin) e.n ≡ b → holds (arrivals_joined taker.arrivals delta) e ≡ true) [
        | true ↦ λ above. joined_holds taker.arrivals delta its_order e (above_is have es order e (held_stands es order e held) above)
        | false ↦ λ below.
            let low : e.n ≤ have e.origin = ltb-false (have e.origin) e.n below in
            kept_first taker.arrivals (fresh_entries taker.arrivals delta) e (agree e held (omega (arith, low, most e.origin)))
      ] refl

-- ---- logs that agree so far

there_too : (xs ys : List Draft) → Begins xs ys → (n : ℕ) (m : Draft) → message_at xs n ≡ Some m → message_at ys n ≡ Some m
there_too xs ys begins n m is =
    some_there m (message_at ys n)
    (held_longer (λ o. xs) (λ o. ys) (λ o. begins) (record { origin = 0; n = n; message = m }) (ap (is_same_as m) is ∙ message_itself m))

pub agree_at : (one other : List Draft) → AgreeSoFar one other → (n : ℕ) (m : Draft) → message_at one n ≡ Some m → n ≤ length other → message_at other n ≡ Some m
agree_at one other (inl begins) n m is below = there_too one other begins n m is
agree_at one other (inr begins) n m is below =
    at_number other n (not_0 one n m is) (le-ltb (length other) n below) (message_at other n ≡ Some m)
    (λ x there. there ∙ ap (λ (y : Draft). Some y) (same_Some x m (sym (there_too other one begins n x there) ∙ is)))

pub peers_catch : PeersCatchUp
peers_catch giver taker have peers most =
    let shape : IsDelta (entries_above have giver.arrivals) = cut_shape giver peers.giver_is have in
    let inside = λ (e : Placed) (held : holds giver.arrivals e ≡ true). ap (λ (g : ℕ). has_site g e.origin) (sym peers.group) ∙ peers.giver_is.inside e held in
    let own : length (log_of taker.number giver.arrivals) ≤ length (log_of taker.number taker.arrivals) =
    omega (arith, peers.own, length-log taker.number giver.arrivals, length-log taker.number taker.arrivals) in
    let counted = λ (o : ℕ). counted_log o (have o) taker.arrivals (most o) in
    let agree = λ (e : Placed) (held : holds giver.arrivals e ≡ true) (below : e.n ≤ length (log_of e.origin taker.arrivals)).
    held_number taker.arrivals peers.taker_is.order e.origin e.n e.message
    (agree_at (log_of e.origin giver.arrivals) (log_of e.origin taker.arrivals) (peers.agree e.origin) e.n e.message (one_place giver.arrivals peers.giver_is.order e held) below) in
    record {
      fits = cut_fits giver.arrivals peers.giver_is.order taker peers.taker_is.order have shape inside own counted agree;
      has = cut_has giver.arrivals peers.giver_is.order taker peers.taker_is.order have shape inside own counted agree;
    }
  where
    counted_log : (o k : ℕ) (es : List Placed) → k ≤ held_from o es → k ≤ length (log_of o es)
    counted_log o k es le = omega (arith, le, length-log o es)
