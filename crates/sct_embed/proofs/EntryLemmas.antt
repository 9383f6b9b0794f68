-- No own entry is numbered above a count before an own entry that is not. Proof plumbing.
use Rattle.std.proofs.Common.{◌≡◌, ◌∙◌, refl, ap, sym, subst, ℕ, ◌+◌, ◌<◌, ◌≤◌, Bool, true, false, cond, ◌&&◌, List, [], ◌∷◌, ◌++◌, filter, length, take, drop, get_or, arith, add-one, nat_eq, nat_lt, drop-cons}
use Rattle.std.proofs.lemmas.Bool.{eq-eqb, le-ltb}
use Rattle.std.proofs.lemmas.List.{take-append-drop}
use Rattle.std.proofs.lemmas.List.Elements.{filter-append, filter_more}
use Rattle.sct_message.specs.declared.draft.Draft.{Draft}
use Rattle.sct_delta.specs.Entries.{IsArrivals, Placed, entries_from, is_from, log_of, numbered}
use Rattle.sct_delta.proofs.EntryLemmas.{from-append}
use Rattle.sct_embed.specs.Asking.{own_above}

-- What passes two tests is what passes the second, of what passes the first.
filter_both : {X : Type 0} (p q : X → Bool) (xs : List X) → filter (λ x. p x && q x) xs ≡ filter q (filter p xs)
filter_both p q [] = refl
filter_both p q (x ∷ xs) =
    elim (p x) as (λ b. cond (b && q x) (x ∷ filter (λ x. p x && q x) xs) (filter (λ x. p x && q x) xs) ≡ filter q (cond b (x ∷ filter p xs) (filter p xs))) [
      | true ↦ (λ i. cond (q x) (x ∷ filter_both p q xs i) (filter_both p q xs i))
      | false ↦ filter_both p q xs
    ]

abbrev is_numbered_above : ℕ → Placed → Bool
is_numbered_above above entry = nat_lt above entry.n

-- In a run no entry before one that is not above a count is above it. The run's first number is at most the number of that one.
none_before : (o n above : ℕ) (before after : List Placed) (e : Placed) (ms : List Draft) → before ++ e ∷ after ≡ numbered o n ms → e.n ≤ above
    → (filter (is_numbered_above above) before ≡ []) × (n ≤ e.n)
none_before o n above [] after e [] is least = cc
none_before o n above [] after e (m ∷ ms) is least =
    let first : e ≡ record { origin = o; n = n; message = m } = cc is in
    let number : e.n ≡ n = ap (λ (x : Placed). x.n) first in (refl, omega (arith, number))
none_before o n above (x ∷ before) after e [] is least = cc
none_before o n above (x ∷ before) after e (m ∷ ms) is least =
    let first : x ≡ record { origin = o; n = n; message = m } = cc is in
    let number : x.n ≡ n = ap (λ (y : Placed). y.n) first in
    let rest : before ++ e ∷ after ≡ numbered o (n + 1) ms = cc is in
    let later : (filter (is_numbered_above above) before ≡ []) × (n + 1 ≤ e.n) = none_before o (n + 1) above before after e ms rest least in
    (rw (le-ltb above x.n (omega (arith, number, later.1))) later.0, omega (arith, later.1))

-- The entries of an origin are those before one of them, that one, and those after it.
around : (o at : ℕ) (es : List Placed) (d : Placed) → at < length es → nat_eq (get_or es at d).origin o ≡ true
    → entries_from o es ≡ entries_from o (take at es) ++ get_or es at d ∷ entries_from o (drop (at + 1) es)
around o at es d inside own =
    ap (entries_from o) (sym (take-append-drop at es))
    ∙ from-append o (take at es) (drop at es)
    ∙ ap (λ (l : List Placed). entries_from o (take at es) ++ entries_from o l) (drop-cons es at d inside)
    ∙ ap (λ (k : ℕ). entries_from o (take at es) ++ entries_from o (get_or es at d ∷ drop k es)) (sym (add-one at))
    ∙ ap (λ (b : Bool). entries_from o (take at es) ++ cond b (get_or es at d ∷ entries_from o (drop (at + 1) es)) (entries_from o (drop (at + 1) es))) own

-- No own entry is above a count up to one that is not.
pub none_up_to : (number above at : ℕ) (es : List Placed) (e : Placed) → IsArrivals es → at < length es → e ≡ get_or es at e → e.origin ≡ number → e.n ≤ above
    → own_above number above (take (at + 1) es) ≡ []
none_up_to number above at es e order inside here own least =
    let found : Placed = get_or es at e in
    let before : List Placed = take at es in
    let own_found : nat_eq found.origin number ≡ true = eq-eqb found.origin number (ap (λ (x : Placed). x.origin) (sym here) ∙ own) in
    let least_found : found.n ≤ above = subst (λ (x : Placed). x.n ≤ above) here least in
    let none : (filter (is_numbered_above above) (entries_from number before) ≡ []) × (1 ≤ found.n) =
    none_before number 1 above (entries_from number before) (entries_from number (drop (at + 1) es)) found (log_of number es)
    (sym (around number at es e inside own_found) ∙ order number) least_found in
    filter_more (λ x. is_from number x && is_numbered_above above x) es at e inside
    ∙ (λ i. own_above number above before ++ cond (own_found i && le-ltb above found.n least_found i) (found ∷ []) [])
    ∙ ap (λ (l : List Placed). l ++ []) (filter_both (is_from number) (is_numbered_above above) before ∙ none.0)

-- The own entries above a count all come from a place on, if none is before it.
pub rest_is_all : (number above at : ℕ) (es : List Placed) → own_above number above (take at es) ≡ [] → own_above number above (drop at es) ≡ own_above number above es
rest_is_all number above at es none =
    ap (λ (l : List Placed). l ++ own_above number above (drop at es)) (sym none)
    ∙ sym (filter-append (λ x. is_from number x && is_numbered_above above x) (take at es) (drop at es))
    ∙ ap (own_above number above) (take-append-drop at es)
