-- Entries that are held: in logs, among arrivals, in a cut and in a joined delta. It serves sites and the crates above. Proof plumbing.
use Rattle.std.proofs.Common.{◌≡◌, ◌∙◌, ◌⊎◌, refl, ap, sym, inl, inr, ℕ, ◌+◌, ◌-◌, ◌<◌, ◌≤◌, Bool, true, false, not, cond, ◌||◌, List, [], ◌∷◌, ◌++◌, filter, length, arith, nat_eq, nat_lt}
use Rattle.std.specs.Prelude.{Option, Some, None, IfSome}
use Rattle.std.specs.List.{list_any, find, slice_get}
use Rattle.std.specs.Option.{option_or}
use Rattle.std.proofs.lemmas.Bool.Decides.{nat_tests}
use Rattle.std.proofs.lemmas.Bool.{false≢true, or_cases, or_parts}
use Rattle.std.proofs.lemmas.List.Folds.{list_any-append}
use Rattle.std.proofs.lemmas.Option.{slice_get_cases, slice_get_within, same_Some}
use Rattle.std.proofs.Math.Bool.{or-true}
use Rattle.sct_message.specs.declared.draft.Draft.{Draft}
use Rattle.sct_message.specs.Ascending.{ascending}
use Rattle.sct_message.proofs.AscendingLemmas.{any_ascending, ascending-filter, ascending-sorted}
use Rattle.sct_message.proofs.SameValues.{message_itself}
use Rattle.sct_delta.specs.Entries.{Placed, is_from, log_of, same_entry, holds, IsArrivals, HasNoHole}
use Rattle.sct_delta.specs.Refusals.{message_at, is_same_as, is_held, firsts_after, fault_of_entry}
use Rattle.sct_delta.specs.declared.fault.DeltaFault.{DeltaFault}
use Rattle.sct_delta.proofs.EntryLemmas.{rises-numbered, run_is}
use Rattle.sct_delta.proofs.HeldLemmas.{entry_itself, one_entry, held_in_logs, some_there}
use Rattle.sct_delta.proofs.JoinLemmas.{kept_is}
use Rattle.sct_site.specs.Cores.{logs_of, is_above, entry_order, entries_above, fresh_entries, arrivals_joined}
use Rattle.sct_site.proofs.AboveLemmas.{entry_total, entry_same, rises_as_entries, from_above}

-- a held entry stands at its number in the log of its origin
pub one_place : (es : List Placed) → IsArrivals es → (e : Placed) → holds es e ≡ true → message_at (log_of e.origin es) e.n ≡ Some e.message
one_place es arrive e held = some_there e.message (message_at (log_of e.origin es) e.n) (sym (held_in_logs es arrive e) ∙ held)

-- what stands at a number in the log of an origin is a held entry
pub held_number : (es : List Placed) → IsArrivals es → (o n : ℕ) (m : Draft) → message_at (log_of o es) n ≡ Some m → holds es (record { origin = o; n = n; message = m }) ≡ true
held_number es arrive o n m is = held_in_logs es arrive (record { origin = o; n = n; message = m }) ∙ ap (is_same_as m) is ∙ message_itself m

-- ---- what a search finds stands in the list

pub found_in : (p : Placed → Bool) (ds : List Placed) (e : Placed) → find p ds ≡ Some e → (holds ds e ≡ true) × (p e ≡ true)
found_in p [] e is = cc
found_in p (d ∷ ds) e is =
    elim (p d) as (λ b. p d ≡ b → cond b (Some d) (find p ds) ≡ Some e → ((same_entry d e || holds ds e) ≡ true) × (p e ≡ true)) [
      | true ↦ λ passes first.
          let same : d ≡ e = same_Some d e first in
          (ap (λ (b : Bool). b || holds ds e) (ap (λ (x : Placed). same_entry x e) same ∙ entry_itself e), ap p (sym same) ∙ passes)
      | false ↦ λ fails later.
          let rest : (holds ds e ≡ true) × (p e ≡ true) = found_in p ds e later in
          (ap (λ (b : Bool). same_entry d e || b) rest.0 ∙ or-true (same_entry d e), rest.1)
    ] refl is

module _ (P : DeltaFault → Type 0) (tells : Placed → DeltaFault) (p : Placed → Bool) (ds : List Placed) where
  pub told_all : ((e : Placed) → P (tells e)) → (o : Option Placed) → IfSome (fault_of_entry tells o) P
  told_all all None = tt
  told_all all (Some e) = all e

  pub told_never : ((e : Placed) → holds ds e ≡ true → p e ≡ false) → IfSome (fault_of_entry tells (find p ds)) P
  told_never never =
      elim (find p ds) as (λ o. find p ds ≡ o → IfSome (fault_of_entry tells o) P) [
        | None ↦ λ is. tt
        | Some e ↦ λ is.
            let found : (holds ds e ≡ true) × (p e ≡ true) = found_in p ds e is in
            absurd (false≢true (sym (never e found.0) ∙ found.1))
      ] refl

pub or_else : (P : DeltaFault → Type 0) (a b : Option DeltaFault) → IfSome a P → IfSome b P → IfSome (option_or a b) P
or_else P None b p q = q
or_else P (Some f) b p q = p

-- a number that has a message is within the log
pub within : (log : List Draft) (n : ℕ) (m : Draft) → message_at log n ≡ Some m → nat_lt (length log) n ≡ false
within log n m is =
    elim (nat_eq n 0) as (λ b. nat_eq n 0 ≡ b → cond b None (slice_get log (n - 1)) ≡ Some m → nat_lt (length log) n ≡ false) [
      | true ↦ λ zero e. cc
      | false ↦ λ above e.
          let below : n - 1 < length log = slice_get_within log (n - 1) m e in
          grind (arith, nat_tests)
    ] refl is

-- there is a message at each number of a log
pub at_number : (log : List Draft) (n : ℕ) → nat_eq n 0 ≡ false → nat_lt (length log) n ≡ false → (P : Type 0) → ((m : Draft) → message_at log n ≡ Some m → P) → P
at_number log n above inside P some =
    elim ((slice_get_cases log (n - 1)).1) as (λ c. P) [
      | inl found ↦ some found.0 (ap (λ (b : Bool). cond b None (slice_get log (n - 1))) above ∙ found.2)
      | inr past ↦
          let outside : length log ≤ n - 1 = past.0 in
          let never : nat_lt (length log) n ≡ true = grind (arith, nat_tests) in
          absurd (false≢true (sym inside ∙ never))
    ]

pub not_0 : (log : List Draft) (n : ℕ) (m : Draft) → message_at log n ≡ Some m → nat_eq n 0 ≡ false
not_0 log n m is = elim (nat_eq n 0) as (λ b. cond b None (slice_get log (n - 1)) ≡ Some m → b ≡ false) [
  | true ↦ λ e. cc
  | false ↦ λ e. refl
] is

-- ---- lists of entries, one after the other

pub kept_first : (es fs : List Placed) (e : Placed) → holds es e ≡ true → holds (es ++ fs) e ≡ true
kept_first es fs e held = list_any-append (λ x. same_entry x e) es fs ∙ ap (λ (b : Bool). b || holds fs e) held

pub one_of : (es fs : List Placed) (e : Placed) → holds (es ++ fs) e ≡ true → (holds es e ≡ true) ⊎ (holds fs e ≡ true)
one_of es fs e held = or_cases (holds es e) (holds fs e) (sym (list_any-append (λ x. same_entry x e) es fs) ∙ held)

-- a test that is passed in part of a list is passed in it
pub any_kept : (p q : Placed → Bool) (ds : List Placed) → list_any q (filter p ds) ≡ true → list_any q ds ≡ true
any_kept p q [] is = is
any_kept p q (d ∷ ds) is =
    elim (p d) as (λ b. list_any q (cond b (d ∷ filter p ds) (filter p ds)) ≡ true → (q d || list_any q ds) ≡ true) [
      | true ↦ λ some. elim (or_cases (q d) (list_any q (filter p ds)) some) as (λ c. (q d || list_any q ds) ≡ true) [
        | inl first ↦ ap (λ (b : Bool). b || list_any q ds) first
        | inr later ↦ ap (λ (b : Bool). q d || b) (any_kept p q ds later) ∙ or-true (q d)
      ]
      | false ↦ λ later. ap (λ (b : Bool). q d || b) (any_kept p q ds later) ∙ or-true (q d)
    ] is

-- ---- what is cut runs on as the arrivals do, and is among them

pub run_above : (count : ℕ → ℕ) (es : List Placed) → IsArrivals es → (o : ℕ) → HasNoHole o (entries_above count es)
unfolding entries_above
run_above count es arrive o =
    run_is o (count o + 1) _ (entries_above count es) (omega arith)
    (sym (ascending-filter entry_total entry_same (is_from o) (filter (is_above count) es))
    ∙ ap (ascending entry_order) (from_above count es arrive o)
    ∙ ascending-sorted entry_total entry_same _ (rises_as_entries _ (rises-numbered o (count o + 1) _)))

pub among_above : (count : ℕ → ℕ) (es : List Placed) (e : Placed) → holds (entries_above count es) e ≡ true → holds es e ≡ true
unfolding entries_above
among_above count es e held = any_kept (is_above count) (λ x. same_entry x e) es (sym (any_ascending entry_total entry_same (λ x. same_entry x e) (filter (is_above count) es)) ∙ held)

pub none_first : (p : Placed → Bool) (previous : ℕ) (ds : List Placed) → list_any p ds ≡ false → list_any p (firsts_after previous ds) ≡ false
none_first p previous [] none = refl
none_first p previous (d ∷ ds) none =
    let parts : (p d ≡ false) × (list_any p ds ≡ false) = or_parts (p d) (list_any p ds) none in
    elim (nat_eq d.origin previous) as (λ b. list_any p (cond b (firsts_after previous ds) (d ∷ firsts_after d.origin ds)) ≡ false) [
      | true ↦ none_first p previous ds parts.1
      | false ↦ λ i. parts.0 i || none_first p d.origin ds parts.1 i
    ]

-- ---- held in the logs and among the arrivals

pub stands_held : (es : List Placed) → IsArrivals es → (x : Placed) → is_held (logs_of es) x ≡ true → holds es x ≡ true
stands_held es arrive x held = held_in_logs es arrive x ∙ held

pub held_stands : (es : List Placed) → IsArrivals es → (x : Placed) → holds es x ≡ true → is_held (logs_of es) x ≡ true
held_stands es arrive x held = sym (held_in_logs es arrive x) ∙ held

pub kept_last : (es fs : List Placed) (x : Placed) → holds fs x ≡ true → holds (es ++ fs) x ≡ true
kept_last [] fs x held = held
kept_last (e ∷ es) fs x held = ap (λ (b : Bool). same_entry e x || b) (kept_last es fs x held) ∙ or-true (same_entry e x)

-- after a delta was accepted each of its entries is held
pub joined_holds : (es ds : List Placed) → IsArrivals es → (x : Placed) → holds ds x ≡ true → holds (arrivals_joined es ds) x ≡ true
joined_holds es ds arrive x in_delta =
    elim (is_held (logs_of es) x) as (λ b. is_held (logs_of es) x ≡ b → holds (arrivals_joined es ds) x ≡ true) [
      | true ↦ λ held. kept_first es (fresh_entries es ds) x (stands_held es arrive x held)
      | false ↦ λ new. kept_last es (fresh_entries es ds) x (kept_is (λ e. not (is_held (logs_of es) e)) x (ap not new) ds ∙ in_delta)
    ] refl

pub not_past : (length n : ℕ) → nat_lt length n ≡ false → nat_lt (length + 1) n ≡ false
not_past length n e = grind (arith, nat_tests)

pub kept_passes : (p : Placed → Bool) (ds : List Placed) (e : Placed) → holds (filter p ds) e ≡ true → p e ≡ true
kept_passes p [] e held = absurd (false≢true held)
kept_passes p (d ∷ ds) e held =
    elim (p d) as (λ b. p d ≡ b → holds (cond b (d ∷ filter p ds) (filter p ds)) e ≡ true → p e ≡ true) [
      | true ↦ λ passes some. elim (or_cases (same_entry d e) (holds (filter p ds) e) some) as (λ c. p e ≡ true) [
        | inl here ↦ ap p (sym (one_entry d e here)) ∙ passes
        | inr later ↦ kept_passes p ds e later
      ]
      | false ↦ λ fails later. kept_passes p ds e later
    ] refl held
