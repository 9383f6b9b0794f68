-- What the logs give for a vector is the entries above it among the arrivals. It serves sites.
use Rattle.std.proofs.Common.{◌≡◌, ◌∙◌, refl, ap, sym, ℕ, ◌+◌, ◌-◌, Bool, List, [], ◌∷◌, filter, drop, arith, nat_eq, nat_lt}
use Rattle.std.specs.Cmp.{IsTotalOrder, on_total, then_total}
use Rattle.std.specs.FinSet.{IsAntisymmetric, nat_cmp-IsAntisymmetric}
use Rattle.std.specs.List.{list_any, AllByRecursion}
use Rattle.std.specs.List.Sorted.{IsStrictlySortedBy}
use Rattle.std.specs.Ordering.{nat_cmp, ordering_then, eq_by_cmp}
use Rattle.std.specs.declared.cmp.Ordering.{Ordering}
use Rattle.std.specs.declared.cmp.Ordering.TheVariants.{Less, Equal, Greater}
use Rattle.std.proofs.lemmas.Cmp.{nat_cmp_total}
use Rattle.sct_message.specs.declared.draft.Draft.{Draft}
use Rattle.sct_message.specs.Order.{message_order}
use Rattle.sct_message.specs.OrderLaws.{both_tie, message_total, message_same}
use Rattle.sct_message.proofs.AscendingLemmas.{ascending-same, ascending-sorted}
use Rattle.sct_message.proofs.Members.{list_any-filter, tie_is}
use Rattle.sct_message.proofs.Tests.{and_implied}
use Rattle.sct_delta.specs.Entries.{Placed, is_from, entries_from, log_of, numbered, place_order, IsArrivals, IsDelta}
use Rattle.sct_delta.specs.Refusals.{IsCut}
use Rattle.sct_delta.proofs.EntryLemmas.{same_number}
use Rattle.sct_delta.proofs.JoinLemmas.{above_count}
use Rattle.sct_delta.proofs.TestLemmas.{filter_agree, filter_comm}
use Rattle.sct_site.specs.Cores.{logs_of, entry_order, is_above, entries_above}

-- ---- the order of entries

pub entry_total : IsTotalOrder entry_order
entry_total = then_total (on_total (λ (e : Placed). e.origin) nat_cmp_total)
    (then_total (on_total (λ (e : Placed). e.n) nat_cmp_total) (on_total (λ (e : Placed). e.message) message_total))

pub entry_same : IsAntisymmetric entry_order
entry_same a b e =
    let first : (nat_cmp a.origin b.origin ≡ Equal) × (ordering_then (nat_cmp a.n b.n) (message_order a.message b.message) ≡ Equal) = both_tie _ _ e in
    let rest : (nat_cmp a.n b.n ≡ Equal) × (message_order a.message b.message ≡ Equal) = both_tie _ _ first.1 in
    let origin : a.origin ≡ b.origin = nat_cmp-IsAntisymmetric _ _ first.0 in
    let number : a.n ≡ b.n = nat_cmp-IsAntisymmetric _ _ rest.0 in
    let message : a.message ≡ b.message = message_same _ _ rest.1 in
    λ i. record { origin = origin i; n = number i; message = message i }

-- an earlier place is an earlier entry
still_less : (a b c : Ordering) → ordering_then a b ≡ Less → ordering_then a (ordering_then b c) ≡ Less
still_less Less b c e = refl
still_less Equal Less c e = refl
still_less Equal Equal c e = cc
still_less Equal Greater c e = cc
still_less Greater b c e = cc

all_less : (e : Placed) (ds : List Placed) → AllByRecursion (λ d. place_order e d ≡ Less) ds → AllByRecursion (λ d. entry_order e d ≡ Less) ds
all_less e [] less = tt
all_less e (d ∷ ds) less = (still_less (nat_cmp e.origin d.origin) (nat_cmp e.n d.n) (message_order e.message d.message) less.0, all_less e ds less.1)

pub rises_as_entries : (ds : List Placed) → IsStrictlySortedBy place_order ds → IsStrictlySortedBy entry_order ds
unfolding IsStrictlySortedBy
rises_as_entries [] rises = tt
rises_as_entries (d ∷ ds) rises = (all_less d ds rises.0, rises_as_entries ds rises.1)

-- ---- an entry stands in a list where it stands among the entries of its origin

pub any_of_origin : (q : Placed) (es : List Placed) → list_any (eq_by_cmp entry_order q) (entries_from q.origin es) ≡ list_any (eq_by_cmp entry_order q) es
any_of_origin q es =
    list_any-filter (eq_by_cmp entry_order q) (is_from q.origin) es
    ∙ ap (λ (p : Placed → Bool). list_any p es)
    (λ i e. and_implied (is_from q.origin e) (eq_by_cmp entry_order q e)
    (λ tie. ap (λ (x : Placed). nat_eq x.origin q.origin) (sym (tie_is entry_total entry_same q e tie)) ∙ same_number q.origin) i)

-- ---- the entries above a vector

pub agree_above : (count : ℕ → ℕ) (o n : ℕ) (ms : List Draft) → AllByRecursion (λ e. is_above count e ≡ nat_lt (count o) e.n) (numbered o n ms)
agree_above count o n [] = tt
agree_above count o n (m ∷ ms) = (refl, agree_above count o (n + 1) ms)

pub from_above : (count : ℕ → ℕ) (es : List Placed) → IsArrivals es → (o : ℕ)
    → entries_from o (filter (is_above count) es) ≡ numbered o (count o + 1) (drop (count o) (log_of o es))
from_above count es arrive o =
    let all : count o + 1 - 1 ≡ count o = omega arith in
    filter_comm (is_from o) (is_above count) es
    ∙ ap (filter (is_above count)) (arrive o)
    ∙ filter_agree (is_above count) (λ e. nat_lt (count o) e.n) (numbered o 1 (log_of o es)) (agree_above count o 1 (log_of o es))
    ∙ above_count o (count o) 1 (log_of o es) (omega arith)
    ∙ ap (λ (k : ℕ). numbered o (count o + 1) (drop k (log_of o es))) all

-- a delta that has of each origin what is numbered above the vector, and no more, is the entries above it
pub cut_is : (count : ℕ → ℕ) (es ds : List Placed) → IsArrivals es → IsDelta ds → IsCut (logs_of es) count ds → ds ≡ entries_above count es
unfolding entries_above
cut_is count es ds arrive shape cut =
    sym (ascending-sorted entry_total entry_same ds (rises_as_entries ds shape.rises))
    ∙ ascending-same entry_total entry_same ds (filter (is_above count) es) (λ q.
    sym (any_of_origin q ds)
    ∙ ap (list_any (eq_by_cmp entry_order q)) (cut q.origin ∙ sym (from_above count es arrive q.origin))
    ∙ any_of_origin q (filter (is_above count) es))
