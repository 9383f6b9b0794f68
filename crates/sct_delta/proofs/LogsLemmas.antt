-- What a caller sees of logs is what shelf and vector keep. Proof plumbing.
use Rattle.std.proofs.Common.{◌≡◌, ◌∙◌, refl, ap, ℕ, ◌≤◌, ◌+◌, List, [], ◌∷◌, map, cond, arith, nat_eq, false, Bool, All, length, Option, Some, None}
use Rattle.std.specs.Prelude.{is_some}
use Rattle.std.specs.BTreeMap.{get, is_at}
use Rattle.std.specs.Global.{Vec, Global}
use Rattle.std.specs.Ordering.{nat_cmp}
use Rattle.std.specs.declared.sync.Arc.{Arc}
use Rattle.std.specs.Arc.{arc_value}
use Rattle.std.proofs.lemmas.List.{length-map}
use Rattle.std.proofs.lemmas.List.Elements.{All-cons, All-head, All-map, All-nil, All-tail, All-weaker}
use Rattle.std.proofs.lemmas.Map.Made.{lookup-map_values}
use Rattle.sct_message.specs.declared.draft.Draft.{Draft}
use Rattle.sct_delta.proofs.EntryLemmas.{same_number}
use Rattle.sct_delta.specs.Inside.{held_logs, log_of_list, logs_on}
use Rattle.sct_delta.specs.Logs.{HeldLogs, Log, messages_of_log, room_of_log, log_in, room_at, KeepsEmptyIfDue, KeepsNoEmpty}
use Rattle.sct_delta.specs.Shelves.{log_on, messages_in_log, places_at, places_on, HasEmptyIfDue, HasNoEmptyLog}
use Rattle.sct_delta.specs.Vectors.{HasNoZero, HasZeroIfDue}
use Rattle.sct_delta.specs.declared.shelf.Shelf.{Shelf}
use Rattle.sct_delta.specs.declared.vector.Vector.{Vector}
use Rattle.std.specs.Option.{option_map}

messages_found : (found : Option (Vec (Arc Draft Global))) → messages_of_log (option_map log_of_list found) ≡ messages_in_log found
messages_found None = refl
messages_found (Some list) = refl

room_found : (found : Option (Vec (Arc Draft Global))) → room_of_log (option_map log_of_list found) ≡ places_on found
room_found None = refl
room_found (Some list) = refl

pub log_is : (group : ℕ) (shelf : Shelf) (vector : Vector) (o : ℕ) → log_in (held_logs group shelf vector) o ≡ log_on shelf o
unfolding log_in logs_on
log_is group shelf vector o =
    ap messages_of_log (lookup-map_values log_of_list (is_at (nat_cmp o)) shelf.logs.entries)
    ∙ messages_found (get nat_cmp shelf.logs o)

pub room_is : (group : ℕ) (shelf : Shelf) (vector : Vector) (o : ℕ)
    → room_at (held_logs group shelf vector) o ≡ cond (is_some (get nat_cmp vector.counts o)) (places_at shelf o) 0
unfolding room_at logs_on
room_is group shelf vector o =
    ap (λ (n : ℕ). cond (is_some (get nat_cmp vector.counts o)) n 0)
    (ap room_of_log (lookup-map_values log_of_list (is_at (nat_cmp o)) shelf.logs.entries)
    ∙ room_found (get nat_cmp shelf.logs o))

-- ---- logs without a message

All-unmap : {X Y : Type 0} (P : Y → Type 0) (f : X → Y) (xs : List X) → All P (map f xs) → All (λ x. P (f x)) xs
All-unmap P f [] all = All-nil (λ x. P (f x))
All-unmap P f (x ∷ xs) all = All-cons (λ y. P (f y)) x xs (All-head P (f x) (map f xs) all) (All-unmap P f xs (All-tail P (f x) (map f xs) all))

-- what logs, and what shelf and vector keep while messages are to come
module _ (group : ℕ) (shelf : Shelf) (vector : Vector) (due : ℕ → ℕ) where
  pub due_kept : HasEmptyIfDue due shelf → HasZeroIfDue due vector → KeepsEmptyIfDue due (held_logs group shelf vector)
  unfolding logs_on
  due_kept filled counted = (
    All-map (λ (kept : ℕ × Log). 1 ≤ length kept.1.messages + due kept.0) (λ (kept : ℕ × Vec (Arc Draft Global)). (kept.0, log_of_list kept.1)) shelf.logs.entries
        (All-weaker (λ (kept : ℕ × Vec (Arc Draft Global)). 1 ≤ length kept.1.items + due kept.0) (λ (kept : ℕ × Vec (Arc Draft Global)). 1 ≤ length (map arc_value kept.1.items) + due kept.0)
        (λ kept some. omega (arith, length-map kept.1.items arc_value, some)) shelf.logs.entries filled),
    counted,
  )

  pub due_stored : KeepsEmptyIfDue due (held_logs group shelf vector) → HasEmptyIfDue due shelf
  unfolding logs_on
  due_stored kept =
      All-weaker (λ (kept : ℕ × Vec (Arc Draft Global)). 1 ≤ length (map arc_value kept.1.items) + due kept.0) (λ (kept : ℕ × Vec (Arc Draft Global)). 1 ≤ length kept.1.items + due kept.0)
      (λ kept some. omega (arith, length-map kept.1.items arc_value, some)) shelf.logs.entries
      (All-unmap (λ (kept : ℕ × Log). 1 ≤ length kept.1.messages + due kept.0) (λ (kept : ℕ × Vec (Arc Draft Global)). (kept.0, log_of_list kept.1)) shelf.logs.entries kept.0)

-- where no message is to come, nothing empty is kept
pub none_due : (held : HeldLogs) (due : ℕ → ℕ) → ((o : ℕ) → due o ≡ 0) → KeepsEmptyIfDue due held → KeepsNoEmpty held
none_due held due none kept = (
  All-weaker (λ (kept : ℕ × Log). 1 ≤ length kept.1.messages + due kept.0) (λ (kept : ℕ × Log). 1 ≤ length kept.1.messages) (λ kept some. omega (arith, none kept.0, some)) held.logs kept.0,
  All-weaker (λ (kept : ℕ × ℕ). 1 ≤ kept.1 + due kept.0) (λ (kept : ℕ × ℕ). 1 ≤ kept.1) (λ kept some. omega (arith, none kept.0, some)) held.counts kept.1,
)

pub due_or_none : (held : HeldLogs) (due : ℕ → ℕ) → KeepsNoEmpty held → KeepsEmptyIfDue due held
due_or_none held due kept = (
  All-weaker (λ (kept : ℕ × Log). 1 ≤ length kept.1.messages) (λ (kept : ℕ × Log). 1 ≤ length kept.1.messages + due kept.0) (λ kept some. omega (arith, some)) held.logs kept.0,
  All-weaker (λ (kept : ℕ × ℕ). 1 ≤ kept.1) (λ (kept : ℕ × ℕ). 1 ≤ kept.1 + due kept.0) (λ kept some. omega (arith, some)) held.counts kept.1,
)

one_due : (number : ℕ) → 1 ≤ cond {A = ℕ} (nat_eq number number) 1 0
one_due number = omega (arith, ap (λ (b : Bool). cond {A = ℕ} b 1 0) (same_number number))

none_else : (number k : ℕ) → nat_eq number k ≡ false → cond {A = ℕ} (nat_eq number k) 1 0 ≤ 0
none_else number k other = omega (arith, ap (λ (b : Bool). cond {A = ℕ} b 1 0) other)

-- room for one more message and then that message leave nothing empty
pub filled_by_one : (number : ℕ) (old roomy new : HeldLogs) → KeepsNoEmpty old
    → ((due : ℕ → ℕ) → 1 ≤ due number → KeepsEmptyIfDue due old → KeepsEmptyIfDue due roomy)
    → ((due later : ℕ → ℕ) → KeepsEmptyIfDue due roomy → ((k : ℕ) → nat_eq number k ≡ false → due k ≤ later k) → KeepsEmptyIfDue later new)
    → KeepsNoEmpty new
filled_by_one number old roomy new was room push =
    let due : ℕ → ℕ = λ k. cond (nat_eq number k) 1 0 in
    none_due new (λ _. 0) (λ _. refl) (push due (λ _. 0) (room due (one_due number) (due_or_none old due was)) (none_else number))

-- logs that keep nothing empty
pub none_empty : (group : ℕ) (shelf : Shelf) (vector : Vector) → HasNoEmptyLog shelf → HasNoZero vector → KeepsNoEmpty (held_logs group shelf vector)
unfolding logs_on
none_empty group shelf vector filled counted = (
  All-map (λ (kept : ℕ × Log). 1 ≤ length kept.1.messages) (λ (kept : ℕ × Vec (Arc Draft Global)). (kept.0, log_of_list kept.1)) shelf.logs.entries
      (All-weaker (λ (kept : ℕ × Vec (Arc Draft Global)). 1 ≤ length kept.1.items) (λ (kept : ℕ × Vec (Arc Draft Global)). 1 ≤ length (map arc_value kept.1.items))
      (λ kept some. omega (arith, length-map kept.1.items arc_value, some)) shelf.logs.entries filled),
  counted,
)
