-- The number of an entry among arrivals. It serves those who copy a site.
use Rattle.std.proofs.Common.{◌≡◌, ◌∙◌, refl, ap, sym, ℕ, ◌+◌, Bool, cond, List, [], ◌∷◌, ◌++◌, length, map, arith}
use Rattle.std.proofs.lemmas.Bool.{eq-eqb}
use Rattle.std.proofs.lemmas.List.{length-map}
use Rattle.sct_message.specs.declared.draft.Draft.{Draft}
use Rattle.sct_delta.specs.Entries.{Placed, IsArrivals, entries_from, held_from, log_of, numbered}
use Rattle.sct_delta.proofs.EntryLemmas.{from-append, length-numbered, log-append, numbered-append}
use Rattle.sct_site.specs.Cores.{next_entry}
use Rattle.sct_site.proofs.ArrivalLemmas.{length-log}

-- what comes after two fronts that are as long is the same
same_next : {A : Type 0} (a b c d : List A) (x y : A) → length a ≡ length c → a ++ x ∷ b ≡ c ++ y ∷ d → x ≡ y
same_next [] b [] d x y len e = cc e
same_next [] b (z ∷ c) d x y len e = absurd (omega (arith, len))
same_next (z ∷ a) b [] d x y len e = absurd (omega (arith, len))
same_next (z ∷ a) b (w ∷ c) d x y len e = same_next a b c d x y (omega (arith, len)) (cc e)

-- the next arrival has the next number of its origin
pub next_number : (xs ys : List Placed) (e : Placed) → IsArrivals (xs ++ e ∷ ys) → next_entry e.origin xs e.message ≡ e
next_number xs ys e all =
    let o = e.origin in
    let first : entries_from o (e ∷ ys) ≡ e ∷ entries_from o ys = ap (λ (b : Bool). cond b (e ∷ entries_from o ys) (entries_from o ys)) (eq-eqb o o refl) in
    let log : log_of o (e ∷ ys) ≡ e.message ∷ log_of o ys = ap (map (λ (p : Placed). p.message)) first in
    let split : entries_from o xs ++ e ∷ entries_from o ys ≡ numbered o 1 (log_of o xs) ++ numbered o (1 + length (log_of o xs)) (e.message ∷ log_of o ys)
    = ap (λ (l : List Placed). entries_from o xs ++ l) (sym first)
    ∙ sym (from-append o xs (e ∷ ys))
    ∙ all o
    ∙ ap (numbered o 1) (log-append o xs (e ∷ ys))
    ∙ numbered-append o 1 (log_of o xs) (log_of o (e ∷ ys))
    ∙ ap (λ (l : List Draft). numbered o 1 (log_of o xs) ++ numbered o (1 + length (log_of o xs)) l) log in
    let same : e ≡ record { origin = o; n = 1 + length (log_of o xs); message = e.message }
    = same_next (entries_from o xs) (entries_from o ys) (numbered o 1 (log_of o xs)) _ e _
    (sym (length-numbered o 1 (log_of o xs) ∙ length-map (entries_from o xs) (λ entry. entry.message))) split in
    let n : held_from o xs + 1 ≡ 1 + length (log_of o xs) = omega (arith, length-log o xs) in
    ap (λ (k : ℕ). record { origin = o; n = k; message = e.message }) n ∙ sym same
