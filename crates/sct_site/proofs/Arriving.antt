-- A beginning of arrivals is one. It serves desks.
use Rattle.std.proofs.Common.{◌≡◌, ◌∙◌, refl, ap, sym, subst, ◌+◌, List, [], ◌∷◌, ◌++◌, length, arith}
use Rattle.std.proofs.lemmas.List.{length-map}
use mathlib.Core.List.{IsPrefix}
use Rattle.sct_delta.specs.Entries.{Placed, entries_from, log_of, numbered, IsArrivals}
use Rattle.sct_delta.proofs.EntryLemmas.{length-numbered, numbered-append, from-append, log-append}

-- two fronts of one list that are as long are the same
same_front : {A : Type 0} (a b c d : List A) → length a ≡ length c → a ++ b ≡ c ++ d → a ≡ c
same_front [] b [] d len e = refl
same_front [] b (y ∷ c) d len e = absurd (omega (arith, len))
same_front (x ∷ a) b [] d len e = absurd (omega (arith, len))
same_front (x ∷ a) b (y ∷ c) d len e = let rest : a ≡ c = same_front a b c d (omega (arith, len)) (cc e) in cc (e, rest)

arrivals_front : (xs ys : List Placed) → IsArrivals (xs ++ ys) → IsArrivals xs
arrivals_front xs ys all o =
    same_front (entries_from o xs) (entries_from o ys) (numbered o 1 (log_of o xs)) (numbered o (1 + length (log_of o xs)) (log_of o ys))
    (sym (length-numbered o 1 (log_of o xs) ∙ length-map (entries_from o xs) (λ entry. entry.message)))
    (sym (from-append o xs ys) ∙ all o ∙ ap (numbered o 1) (log-append o xs ys) ∙ numbered-append o 1 (log_of o xs) (log_of o ys))

pub arrivals_begin : (xs es : List Placed) → IsPrefix xs es → IsArrivals es → IsArrivals xs
arrivals_begin xs es pre all = arrivals_front xs pre.0 (subst IsArrivals (sym pre.1) all)
