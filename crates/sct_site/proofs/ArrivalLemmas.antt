-- What takes and accepted deltas make of arrivals. They serve sites, and the worlds above, whose crate cites them.
use Rattle.std.proofs.Common.{◌≡◌, ◌∙◌, refl, ap, sym, ℕ, ◌+◌, Bool, true, false, cond, List, [], ◌∷◌, ◌++◌, map, length, arith, nat_eq}
use Rattle.std.proofs.lemmas.Bool.Decides.{nat_tests}
use Rattle.std.proofs.lemmas.List.{length-map}
use Rattle.sct_delta.specs.Entries.{Placed, entries_from, log_of, held_from, numbered, IsArrivals, HasNoHole}
use Rattle.sct_delta.proofs.EntryLemmas.{numbered-append, from-append, log-append}
use Rattle.sct_delta.proofs.JoinLemmas.{IsPassed, fresh_continues}
use Rattle.sct_site.specs.Cores.{arrivals_joined, fresh_entries, logs_of}

-- ---- arrivals that follow each other

pub length-log : (o : ℕ) (es : List Placed) → length (log_of o es) ≡ held_from o es
length-log o es = length-map (entries_from o es) (λ entry. entry.message)

-- entries that go on where the arrivals end
pub arrivals-append : (es ds : List Placed) → IsArrivals es
    → ((o : ℕ) → entries_from o ds ≡ numbered o (held_from o es + 1) (log_of o ds)) → IsArrivals (es ++ ds)
arrivals-append es ds arrive follow o =
    from-append o es ds
    ∙ (λ i. arrive o i ++ follow o i)
    ∙ ap (λ (k : ℕ). numbered o 1 (log_of o es) ++ numbered o k (log_of o ds)) (omega (arith, length-log o es))
    ∙ sym (numbered-append o 1 (log_of o es) (log_of o ds))
    ∙ ap (numbered o 1) (sym (log-append o es ds))

-- arrivals joined with a delta that nothing refuses are arrivals
pub arrivals-joined : (own group : ℕ) (es ds : List Placed) → IsArrivals es → ((o : ℕ) → HasNoHole o ds) → IsPassed own group (logs_of es) ds
    → IsArrivals (arrivals_joined es ds)
arrivals-joined own group es ds arrive runs p =
    arrivals-append es (fresh_entries es ds) arrive (λ o.
    fresh_continues own group (logs_of es) ds runs p o
    ∙ ap (λ (n : ℕ). numbered o (n + 1) (log_of o (fresh_entries es ds))) (length-log o es))

-- one entry more, whose number is the next of its origin
one_follows : (e : Placed) (n o : ℕ) → e.n ≡ n → (b : Bool) → nat_eq e.origin o ≡ b → (m : ℕ) → (b ≡ true → m ≡ n)
    → cond b (e ∷ []) [] ≡ numbered o m (map (λ entry. entry.message) (cond b (e ∷ []) []))
one_follows e n o is true same m at =
    let origin : e.origin ≡ o = grind (arith, nat_tests, same) in
    let number : e.n ≡ m = is ∙ sym (at refl) in
    λ i. record { origin = origin i; n = number i; message = e.message } ∷ []
one_follows e n o is false same m at = refl

pub arrivals-push : (es : List Placed) (e : Placed) → IsArrivals es → e.n ≡ held_from e.origin es + 1 → IsArrivals (es ++ e ∷ [])
arrivals-push es e arrive is =
    arrivals-append es (e ∷ []) arrive (λ o.
    one_follows e (held_from e.origin es + 1) o is (nat_eq e.origin o) refl (held_from o es + 1)
    (λ same. let origin : e.origin ≡ o = grind (arith, nat_tests, same) in ap (λ (p : ℕ). held_from p es + 1) (sym origin)))
