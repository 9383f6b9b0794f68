-- Which refusals of deltas may end a worker. Proof plumbing.
use Rattle.std.proofs.Common.{◌≡◌, ◌∙◌, refl, sym, ap, subst, ℕ, ◌≤◌, ◌+◌, ◌&&◌, Bool, true, false, List, [], ◌∷◌, ◌++◌, arith}
use Rattle.std.specs.Prelude.{Option, None, Some, Result, Ok, Err, IfErr, IfOk, MatchOption, OnOk, if◌then◌else◌, nat_eq, nat_le, nat_lt, option_map}
use Rattle.std.specs.List.{find}
use Rattle.std.specs.Option.{option_or}
use Rattle.std.proofs.lemmas.Bool.{false≢true}
use Rattle.std.proofs.lemmas.Bool.Decides.{nat_tests}
use Rattle.sct_message.specs.declared.draft.Draft.{Draft}
use Rattle.sct_delta.specs.Entries.{Placed, held_from}
use Rattle.sct_delta.specs.Refusals.{ahead_refusal, first_refusal, firsts_after, fork_refusal, gap_refusal, is_ahead, is_fork, is_outside, is_past, outside_refusal, fault_of_entry, vector_of}
use Rattle.sct_delta.specs.Shapes.{are_of_sites, delta_refusal, may_be_next}
use Rattle.sct_delta.specs.Sites.{is_site}
use Rattle.sct_delta.specs.declared.fault.DeltaFault.{DeltaFault}
use Rattle.sct_delta.specs.declared.fault.DeltaFault.TheVariants as delta
use Rattle.sct_desk.specs.Locked.{answer_for, answer_to_delta}
use Rattle.sct_site.specs.Cores.{Core, is_repeat, took_by}
use Rattle.sct_site.specs.declared.answers.Accepted.{Accepted}
use Rattle.sct_site.specs.declared.answers.Took.TheVariants as took
use Rattle.sct_desk.specs.Passes.{Told, before, site_with}
use Rattle.sct_workers.specs.declared.fault.WorkFault.{WorkFault}
use Rattle.sct_workers.specs.declared.fault.WorkFault.TheVariants as fault
use Rattle.sct_workers.specs.Faults.{fault_of_delta}
use Rattle.sct_workers.specs.declared.gate.Point.{Point}
use Rattle.sct_workers.specs.Exchanging.{IsHandedOver, IsNumbered, accepted_by}
use Rattle.sct_workers.specs.Holds.{WorkerEndsWhere}
use Rattle.sct_workers.proofs.Holding.{delta_ends}

-- ---- what a site answers to a delta

-- a refusal that a site answers to a delta
abbrev Answers : Option DeltaFault → Type 0
Answers None = Unit {0}
Answers (Some delta.Memory) = ⊥
Answers (Some (delta.Gap origin have first)) = Unit {0}
Answers (Some (delta.Fork origin n)) = Unit {0}
Answers (Some (delta.OwnAhead n)) = Unit {0}
Answers (Some delta.BadSite) = Unit {0}
Answers (Some (delta.BadDelta line)) = ⊥

answers_told : (tells : Placed → DeltaFault) → ((e : Placed) → Answers (Some (tells e))) → (o : Option Placed) → Answers (fault_of_entry tells o)
answers_told tells each None = tt
answers_told tells each (Some e) = each e

answers_or : (a b : Option DeltaFault) → Answers a → Answers b → Answers (option_or a b)
answers_or None b one other = other
answers_or (Some refusal) b one other = one

first_answers : (own group : ℕ) (log : ℕ → List Draft) (entries : List Placed) → Answers (first_refusal own group log entries)
unfolding first_refusal
first_answers own group log entries =
    answers_or (outside_refusal group entries)
    (option_or (ahead_refusal own log entries) (option_or (gap_refusal log entries) (fork_refusal log entries)))
    (answers_told (λ e. delta.BadSite) (λ e. tt) (find (is_outside group) entries))
    (answers_or (ahead_refusal own log entries) (option_or (gap_refusal log entries) (fork_refusal log entries))
    (answers_told (λ e. delta.OwnAhead e.n) (λ e. tt) (find (is_ahead own log) entries))
    (answers_or (gap_refusal log entries) (fork_refusal log entries) (answers_told (λ e. delta.Gap e.origin (vector_of log e.origin) e.n) (λ e. tt) (find (is_past log) (firsts_after 0 entries)))
    (answers_told (λ e. delta.Fork e.origin e.n) (λ e. tt) (find (is_fork log) entries))))

ends_by : (may : Point → Type 0) (refusal : Option DeltaFault) (fresh : ℕ) → Answers refusal → IfErr (accepted_by (answer_for refusal fresh)) (WorkerEndsWhere may)
ends_by may None fresh is = tt
ends_by may (Some delta.Memory) fresh is = absurd is
ends_by may (Some (delta.Gap origin have first)) fresh is = tt
ends_by may (Some (delta.Fork origin n)) fresh is = delta_ends may (delta.Fork origin n) tt
ends_by may (Some (delta.OwnAhead n)) fresh is = delta_ends may (delta.OwnAhead n) tt
ends_by may (Some delta.BadSite) fresh is = delta_ends may delta.BadSite tt
ends_by may (Some (delta.BadDelta line)) fresh is = absurd is

-- what a site answers to a delta may end an exchange worker
pub answer_ends : (may : Point → Type 0) (core : Core) (entries : List Placed) → IfErr (accepted_by (answer_to_delta core entries)) (WorkerEndsWhere may)
answer_ends may core entries = ends_by may _ _ (first_answers core.number core.group _ entries)

-- ---- an entry that was handed over

-- the fault of a worker that hands an entry over: out of memory for its receipt, or by the answer
pub handed_ends : {U : Type 0} (may : Point → Type 0) (core : Core) (entries : List Placed) (answer : Result Accepted DeltaFault) (pushed : Result U WorkFault)
    (result : Result Bool WorkFault) → OnOk pushed (result ≡ accepted_by answer) → IfErr pushed (λ lost. result ≡ Err lost)
    → IfErr pushed (λ e. e ≡ fault.Memory) → answer ≡ answer_to_delta core entries → IfErr result (WorkerEndsWhere may)
handed_ends may core entries answer (Ok u) result kept lost memory is =
    subst (λ (r : Result Bool WorkFault). IfErr r (WorkerEndsWhere may)) (sym (kept ∙ ap accepted_by is)) (answer_ends may core entries)
handed_ends may core entries answer (Err e) result kept lost memory is =
    subst (λ (r : Result Bool WorkFault). IfErr r (WorkerEndsWhere may)) (sym lost) (subst (WorkerEndsWhere may) (sym memory) tt)

over_by : (own size : ℕ) (entry : Placed) (old new : List Told) (receipt : Told) (result : Result Bool WorkFault)
    → result ≡ accepted_by (answer_to_delta (site_with own size (before receipt)) (entry ∷ [])) → new ≡ old ++ receipt ∷ []
    → IfOk result (IsHandedOver own size entry old new)
over_by own size entry old new receipt (Ok accepted) same pushed = record { receipt = receipt; kept = pushed; answer = sym same }
over_by own size entry old new receipt (Err e) same pushed = tt

-- the receipt is kept, and the answer says whether the entry was accepted
pub handed_over : {U : Type 0} (own size : ℕ) (entry : Placed) (entries : List Placed) (old new : List Told) (receipt : Told) (answer : Result Accepted DeltaFault)
    (pushed : Result U WorkFault) (result : Result Bool WorkFault) → OnOk pushed (result ≡ accepted_by answer) → IfErr pushed (λ lost. result ≡ Err lost)
    → OnOk pushed (new ≡ old ++ receipt ∷ []) → answer ≡ answer_to_delta (site_with own size (before receipt)) entries → entries ≡ entry ∷ []
    → IfOk result (IsHandedOver own size entry old new)
handed_over own size entry entries old new receipt answer (Ok u) result kept lost more is one =
    over_by own size entry old new receipt result
    (kept ∙ ap accepted_by (is ∙ ap (λ (es : List Placed). answer_to_delta (site_with own size (before receipt)) es) one)) more
handed_over own size entry entries old new receipt answer (Err e) result kept lost more is one =
    subst (λ (r : Result Bool WorkFault). IfOk r (IsHandedOver own size entry old new)) (sym lost) tt

-- ---- the delta of one entry

-- entries are refused for their sites alone
abbrev ForSites : Option DeltaFault → Type 0
ForSites None = Unit {0}
ForSites (Some delta.BadSite) = Unit {0}
ForSites (Some refusal) = ⊥

for_sites : (of_sites next : Bool) → (of_sites ≡ true → next ≡ true)
    → ForSites (if of_sites then option_map (λ place. delta.BadDelta place) (if next then None else Some 1) else Some delta.BadSite)
for_sites true true so = tt
for_sites true false so = absurd (false≢true (so refl))
for_sites false next so = tt

first_number : (origin n : ℕ) → 1 ≤ n → (is_site origin && true) ≡ true
    → (nat_le 1 n && (if nat_eq 0 origin then nat_eq (0 + 1) n else nat_lt 0 origin)) ≡ true
first_number origin n some of_site =
    let site : 1 ≤ origin = grind (arith, nat_tests, of_site) in
    let a : nat_le 1 n ≡ true = grind (arith, nat_tests, some) in
    let b : nat_eq 0 origin ≡ false = grind (arith, nat_tests, site) in
    let c : nat_lt 0 origin ≡ true = grind (arith, nat_tests, site) in
    rw (a, b, c) refl

one_for_sites : (entry : Placed) → 1 ≤ entry.n → ForSites (delta_refusal (entry ∷ []))
unfolding delta_refusal
one_for_sites entry some = for_sites (are_of_sites (entry ∷ [])) (may_be_next 0 0 entry) (first_number entry.origin entry.n some)

site_ends : (may : Point → Type 0) (refusal : DeltaFault) → ForSites (Some refusal) → WorkerEndsWhere may (fault_of_delta refusal)
site_ends may delta.BadSite is = delta_ends may delta.BadSite tt
site_ends may delta.Memory is = absurd is
site_ends may (delta.Gap origin have first) is = absurd is
site_ends may (delta.Fork origin n) is = absurd is
site_ends may (delta.OwnAhead n) is = absurd is
site_ends may (delta.BadDelta line) is = absurd is

-- why the delta of one numbered entry is refused may end an exchange worker
pub one_ends : (may : Point → Type 0) (entry : Placed) (refusal : DeltaFault) → 1 ≤ entry.n → delta_refusal (entry ∷ []) ≡ Some refusal
    → WorkerEndsWhere may (fault_of_delta refusal)
one_ends may entry refusal some is = site_ends may refusal (subst ForSites is (one_for_sites entry some))

abbrev Makes : Result (List Placed) DeltaFault → Result (List Placed) DeltaFault → Type 0
Makes some other = some ≡ other

-- the same of the refusal that makes it no delta
pub refused_ends : (may : Point → Type 0) (entry : Placed) (entries : List Placed) (refusal : DeltaFault) → 1 ≤ entry.n → entries ≡ entry ∷ []
    → MatchOption (delta_refusal entries) (Makes (Err refusal) (Ok entries)) (λ reason. Makes (Err refusal) (Err reason))
    → WorkerEndsWhere may (fault_of_delta refusal)
refused_ends may entry entries refusal some same why =
    (elim (delta_refusal entries) as (λ o. delta_refusal entries ≡ o → MatchOption o (Makes (Err refusal) (Ok entries)) (λ reason. Makes (Err refusal) (Err reason)) → WorkerEndsWhere may (fault_of_delta refusal)) [
      | None ↦ λ _ is. absurd cc
      | Some reason ↦ λ found is.
          let one : reason ≡ refusal = cc in
          one_ends may entry refusal some (ap delta_refusal (sym same) ∙ found ∙ ap (λ (r : DeltaFault). Some r) one)
    ]) refl why

-- ---- what a site answers to a message

numbered_if : (repeat : Bool) (n : ℕ) → IsNumbered (if repeat then took.Repeat else took.Taken (n + 1))
numbered_if true n = tt
numbered_if false n =
    let some : 1 ≤ n + 1 = omega arith in
    some

pub takes_number : (core : Core) (message : Draft) → IsNumbered (took_by core message)
unfolding took_by
takes_number core message = numbered_if (is_repeat core message) (held_from core.number core.arrivals)
