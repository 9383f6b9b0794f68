-- The entries of one origin in a text of a limited size: a front of those that are asked for. Proof plumbing.
use Rattle.std.proofs.Common.{◌≡◌, ◌∙◌, refl, ap, sym, subst, ℕ, zero, suc, ◌+◌, ◌<◌, ◌≤◌, Bool, true, false, cond, ◌&&◌, ◌||◌, List, [], ◌∷◌, ◌++◌, length, max, take, drop, arith, append_assoc, nat_eq, nat_lt}
use Rattle.std.specs.List.{list_all}
use Rattle.std.proofs.lemmas.Bool.{eqb-true, false≢true}
use Rattle.std.proofs.lemmas.List.{append-nil}
use Rattle.sct_message.specs.declared.draft.Draft.{Draft}
use Rattle.sct_delta.specs.Entries.{HasNoHole, IsArrivals, IsDelta, Placed, entries_from, holds, is_from, log_of, numbered, same_entry}
use Rattle.sct_delta.specs.Sites.{is_site}
use Rattle.sct_delta.proofs.EntryLemmas.{from-numbered, from-numbered_other, rises-numbered, run_is}
use Rattle.sct_delta.specs.Refusals.{has_site}
use Rattle.sct_delta.proofs.HeldLemmas.{entry_itself}
use Rattle.sct_site.specs.Cores.{Core, IsSite}
use Rattle.sct_site.proofs.HeldLemmas.{any_kept, kept_first}
use Rattle.sct_site.proofs.RangeLemmas.{above_log}
use Rattle.sct_exchange.specs.Entries.{entries_asked, entries_of, entries_within, has_room_for, with_room}
use Rattle.sct_hub.proofs.CatchUpLemmas.{site_of_group}

-- ---- a front

-- What is taken is what was taken and a front of the rest.
pub record IsFront (most : ℕ) (taken rest : List Placed) : Type 0 where
  pub count : ℕ
  pub is : with_room most taken rest ≡ taken ++ take count rest

front_more : (most : ℕ) (taken : List Placed) (e : Placed) (rest : List Placed) → IsFront most (taken ++ e ∷ []) rest → IsFront most taken (e ∷ rest)
front_more most taken e rest front =
    (elim (nat_eq (length taken) 0 || has_room_for most (taken ++ e ∷ [])) as (λ b. (nat_eq (length taken) 0 || has_room_for most (taken ++ e ∷ [])) ≡ b → IsFront most taken (e ∷ rest)) [
      | true ↦ λ fits. record {
        count = suc front.count;
        is =
            ap (λ (b : Bool). cond b (with_room most (taken ++ e ∷ []) rest) taken) fits
            ∙ front.is
            ∙ append_assoc taken (e ∷ []) (take front.count rest);
      }
      | false ↦ λ full. record {
        count = 0;
        is = ap (λ (b : Bool). cond b (with_room most (taken ++ e ∷ []) rest) taken) full ∙ sym (append-nil taken);
      }
    ]) refl

pub front_is : (most : ℕ) (rest taken : List Placed) → IsFront most taken rest
front_is most [] taken = record { count = 0; is = sym (append-nil taken) }
front_is most (e ∷ rest) taken = front_more most taken e rest (front_is most rest (taken ++ e ∷ []))

-- of some entries at least one is taken
pub some_taken : (most : ℕ) (e : Placed) (rest : List Placed) → (count : ℕ) × (entries_within most (e ∷ rest) ≡ e ∷ take count rest)
some_taken most e rest = let front : IsFront most (e ∷ []) rest = front_is most rest (e ∷ []) in (front.count, front.is)

taken_held : (k : ℕ) (es : List Placed) (e : Placed) → holds (take k es) e ≡ true → holds es e ≡ true
taken_held zero es e held = absurd (false≢true held)
taken_held (suc k) [] e held = held
taken_held (suc k) (x ∷ es) e held =
    (elim (same_entry x e) as (λ b. (b || holds (take k es) e) ≡ true → (b || holds es e) ≡ true) [
      | true ↦ λ h. refl
      | false ↦ λ h. taken_held k es e h
    ]) held

-- ---- each entry that is asked for is held

most_of : (n : ℕ) → max 0 n ≡ n
most_of n = omega arith

of_held : (origin above : ℕ) (es : List Placed) → IsArrivals es → (e : Placed) → holds (entries_of origin above es) e ≡ true → holds es e ≡ true
of_held origin above es order e held =
    any_kept (is_from origin) (λ x. same_entry x e) es
    (ap (λ (l : List Placed). holds l e) (order origin)
    ∙ any_kept (λ x. nat_lt above x.n) (λ x. same_entry x e) (numbered origin 1 (log_of origin es))
    (ap (λ (l : List Placed). holds l e) (sym (above_log origin 0 above (log_of origin es)))
    ∙ ap (λ (n : ℕ). holds (numbered origin (n + 1) (drop n (log_of origin es))) e) (most_of above) ∙ held))

pub asked_held : (origin above most : ℕ) (es : List Placed) → IsArrivals es → (e : Placed) → holds (entries_asked origin above most es) e ≡ true → holds es e ≡ true
asked_held origin above most es order e held =
    let front : IsFront most [] (entries_of origin above es) = front_is most (entries_of origin above es) [] in
    of_held origin above es order e (taken_held front.count (entries_of origin above es) e (ap (λ (l : List Placed). holds l e) (sym front.is) ∙ held))

-- ---- entries of one origin are a delta

take_numbered : (k o n : ℕ) (ms : List Draft) → take k (numbered o n ms) ≡ numbered o n (take k ms)
take_numbered zero o n ms = refl
take_numbered (suc k) o n [] = refl
take_numbered (suc k) o n (m ∷ ms) = ap (λ (l : List Placed). record { origin = o; n = n; message = m } ∷ l) (take_numbered k o (n + 1) ms)

-- The entries that are asked for are messages of the log, numbered from the first.
pub record IsAsked (origin above most : ℕ) (es : List Placed) : Type 0 where
  pub count : ℕ
  pub is : entries_asked origin above most es ≡ numbered origin (above + 1) (take count (drop above (log_of origin es)))

pub asked_is : (origin above most : ℕ) (es : List Placed) → IsAsked origin above most es
asked_is origin above most es =
    let front : IsFront most [] (entries_of origin above es) = front_is most (entries_of origin above es) [] in
    record { count = front.count; is = front.is ∙ take_numbered front.count origin (above + 1) (drop above (log_of origin es)) }

all_sites : (o n : ℕ) (ms : List Draft) → is_site o ≡ true → list_all (λ e. is_site e.origin) (numbered o n ms) ≡ true
all_sites o n [] site = refl
all_sites o n (m ∷ ms) site = λ i. site i && all_sites o (n + 1) ms site i

pub run_shape : (o f : ℕ) (ms : List Draft) → is_site o ≡ true → 1 ≤ f → IsDelta (numbered o f ms)
run_shape o f ms site above = record {
  runs = λ p. (elim (nat_eq o p) as (λ b. nat_eq o p ≡ b → HasNoHole p (numbered o f ms)) [
    | true ↦ λ same. subst (λ (x : ℕ). HasNoHole x (numbered o f ms)) (eqb-true o p same) (run_is o f ms (numbered o f ms) above (from-numbered o f ms))
    | false ↦ λ other. run_is p 1 [] (numbered o f ms) (omega arith) (from-numbered_other p o f ms other)
  ]) refl;
  rises = rises-numbered o f ms;
  sites = all_sites o f ms site;
}

-- what a site is asked for is a delta
pub asked_delta : (core : Core) → IsSite core → (origin above most : ℕ) → IsDelta (entries_asked origin above most core.arrivals)
asked_delta core here origin above most = shape_by (take asked.count (drop above (log_of origin core.arrivals))) asked.is
  where
    asked : IsAsked origin above most core.arrivals
    asked = asked_is origin above most core.arrivals

    shape_by : (ms : List Draft) → entries_asked origin above most core.arrivals ≡ numbered origin (above + 1) ms → IsDelta (entries_asked origin above most core.arrivals)
    shape_by [] is = subst IsDelta (sym is) (run_shape 1 1 [] refl (omega arith))
    shape_by (m ∷ ms) is =
        let first : Placed = record { origin = origin; n = above + 1; message = m } in
        let among : holds (entries_asked origin above most core.arrivals) first ≡ true =
        ap (λ (l : List Placed). holds l first) is ∙ ap (λ (b : Bool). b || holds (numbered origin (above + 1 + 1) ms) first) (entry_itself first) in
        let inside : has_site core.group origin ≡ true = here.inside first (asked_held origin above most core.arrivals here.order first among) in
        subst IsDelta (sym is) (run_shape origin (above + 1) (m ∷ ms) (site_of_group core.number core.group origin here.opened inside) (omega arith))
