-- What settled sites hold that stand with what is read of their inputs is what is read of all inputs. Proof plumbing.
use Rattle.std.proofs.Common.{◌≡◌, ◌∙◌, refl, sym, ap, subst, inl, inr, ℕ, zero, suc, ◌+◌, ◌-◌, ◌<◌, ◌≤◌, Bool, true, false, ◌||◌, List, [], ◌∷◌, map, length, arith}
use Rattle.std.specs.FinSet as set
use Rattle.std.specs.FinSet.{contains-empty, contains-union}
use Rattle.std.specs.List.{list_any, slice_index_or, Contains}
use Rattle.std.proofs.lemmas.Bool.{false≢true, or_cases}
use Rattle.std.proofs.lemmas.Bool.Decides.{nat_tests}
use Rattle.std.proofs.Math.Bool.{or-true}
use Rattle.sct_message.specs.declared.draft.Draft.{Draft}
use Rattle.sct_message.specs.Order.{message_order, same_message}
use Rattle.sct_message.specs.OrderLaws.{message_total}
use Rattle.sct_set.proofs.ContentsLemmas.{contains-contents_of, same_contents, same_is, same_itself}
use Rattle.sct_delta.specs.Entries.{Placed, entries_from, holds, messages_of, same_entry}
use Rattle.sct_delta.specs.Refusals.{has_site}
use Rattle.sct_delta.proofs.HeldLemmas.{holds_from, entry_itself, one_entry}
use Rattle.sct_site.specs.Cores.{Core}
use Rattle.sct_world.proofs.KeptLemmas.{HolderOf, some_place}
use Rattle.sct_lines.specs.Lines.{set_read}
use Rattle.sct_world.specs.Settling.{AreSettled, core_in, held_by_some}
use Rattle.sct_workers.specs.Stands.{Stands}
use Rattle.sct_workers.specs.Filling.{AllStand}
use Rattle.sct_commands.specs.Runs.{set_of_all, NoOrderMatters}
use Rattle.sct_commands.proofs.RunLemmas.{as_many}

-- ---- entries and their messages

-- an entry that stands in the list has the message
pub record IsMessageOf (entries : List Placed) (message : Draft) : Type 0 where
  pub entry : Placed
  pub held : holds entries entry ≡ true
  pub is : entry.message ≡ message

message_in : (es : List Placed) (m : Draft) → list_any (λ d. same_message d m) (map (λ e. e.message) es) ≡ true → IsMessageOf es m
message_in [] m is = absurd (false≢true is)
message_in (x ∷ es) m is =
    elim (or_cases (same_message x.message m) (list_any (λ d. same_message d m) (map (λ e. e.message) es)) is) as (λ c. IsMessageOf (x ∷ es) m) [
      | inl here ↦ record {
        entry = x;
        held = ap (λ (b : Bool). b || holds es x) (entry_itself x);
        is = same_is x.message m here;
      }
      | inr later ↦
          let rest : IsMessageOf es m = message_in es m later in
          record {
            entry = rest.entry;
            held = ap (λ (b : Bool). same_entry x rest.entry || b) rest.held ∙ or-true (same_entry x rest.entry);
            is = rest.is;
          }
    ]

pub message_held : (es : List Placed) (m : Draft) → set.contains (messages_of es) m ≡ true → IsMessageOf es m
message_held es m is = message_in es m (sym (contains-contents_of (map (λ e. e.message) es) m) ∙ is)

in_messages : (es : List Placed) (e : Placed) → holds es e ≡ true → list_any (λ d. same_message d e.message) (map (λ x. x.message) es) ≡ true
in_messages [] e held = absurd (false≢true held)
in_messages (x ∷ es) e held =
    elim (or_cases (same_entry x e) (holds es e) held) as (λ c. (same_message x.message e.message || list_any (λ d. same_message d e.message) (map (λ y. y.message) es)) ≡ true) [
      | inl here ↦
          let same : x ≡ e = one_entry x e here in
          ap (λ (b : Bool). b || list_any (λ d. same_message d e.message) (map (λ y. y.message) es))
          (ap (λ (y : Placed). same_message y.message e.message) same ∙ same_itself e.message)
      | inr later ↦
          ap (λ (b : Bool). same_message x.message e.message || b) (in_messages es e later) ∙ or-true (same_message x.message e.message)
    ]

pub held_message : (es : List Placed) (e : Placed) → holds es e ≡ true → set.contains (messages_of es) e.message ≡ true
held_message es e held = contains-contents_of (map (λ x. x.message) es) e.message ∙ in_messages es e held

-- ---- the sites together

has_all : (input : List ℕ) (inputs : List (List ℕ)) (m : Draft)
    → set.contains (set_of_all (input ∷ inputs)) m ≡ (set.contains (set_read input) m || set.contains (set_of_all inputs) m)
has_all input inputs m = contains-union message_total (set_read input) (set_of_all inputs) m

-- the input at a place
abbrev input_in : List (List ℕ) → ℕ → List ℕ
input_in inputs place = slice_index_or inputs place []

stand_at : (number size : ℕ) (cores : List Core) (inputs : List (List ℕ)) → AllStand number size inputs cores → (place : ℕ) → place < length cores
    → Stands (number + place) size (set_read (input_in inputs place)) (core_in cores place)
stand_at number size [] inputs all place there = absurd (omega (arith, there))
stand_at number size (core ∷ cores) [] all place there = absurd all
stand_at number size (core ∷ cores) (input ∷ inputs) all zero there =
    let here : number ≡ number + 0 = omega arith in subst (λ (n : ℕ). Stands n size (set_read input) core) here all.0
stand_at number size (core ∷ cores) (input ∷ inputs) all (suc place) there =
    let next : (number + 1) + place ≡ number + suc place = omega arith in
    subst (λ (n : ℕ). Stands n size (set_read (input_in inputs place)) (core_in cores place)) next
    (stand_at (number + 1) size cores inputs all.1 place (omega (arith, there)))

read_at : (inputs : List (List ℕ)) (place : ℕ) (m : Draft) → place < length inputs → set.contains (set_read (input_in inputs place)) m ≡ true
    → set.contains (set_of_all inputs) m ≡ true
read_at [] place m there read = absurd (omega (arith, there))
read_at (input ∷ inputs) zero m there read = has_all input inputs m ∙ ap (λ (b : Bool). b || set.contains (set_of_all inputs) m) read
read_at (input ∷ inputs) (suc place) m there read =
    has_all input inputs m
    ∙ ap (λ (b : Bool). set.contains (set_read input) m || b) (read_at inputs place m (omega (arith, there)) read)
    ∙ or-true (set.contains (set_read input) m)

-- the number of a site of a group
record IsNumber (size number : ℕ) : Type 0 where
  pub first : 1 ≤ number
  pub last : number ≤ size

number_of : (size number : ℕ) → has_site size number ≡ true → IsNumber size number
number_of size number inside = record { first = grind (arith, nat_tests, inside); last = grind (arith, nat_tests, inside) }

-- What some site holds stands at its origin, as an own entry, which settling does not add; so it is read of that input.
held_is_read : (before after : List Core) (inputs : List (List ℕ)) → AllStand 1 (length inputs) inputs before → AreSettled before after → (e : Placed)
    → held_by_some before e ≡ true → set.contains (set_of_all inputs) e.message ≡ true
held_is_read before after inputs all settled e held =
    let many : length before ≡ length inputs = as_many 1 (length inputs) before inputs all in
    let holder : HolderOf before e = some_place before e held in
    let origin : IsNumber (length inputs) e.origin
    = number_of (length inputs) e.origin ((stand_at 1 (length inputs) before inputs all holder.place holder.there).inside e holder.held) in
    let first = origin.first in
    let last = origin.last in
    let own : ℕ = e.origin - 1 in
    let there : own < length before = omega (arith, first, last, many) in
    let mine : Stands (1 + own) (length inputs) (set_read (input_in inputs own)) (core_in before own) = stand_at 1 (length inputs) before inputs all own there in
    let same : e.origin ≡ 1 + own = omega (arith, first) in
    let number : (core_in before own).number ≡ e.origin = mine.number_is ∙ sym same in
    let then : holds (core_in before own).arrivals e ≡ true =
    holds_from e (core_in before own).arrivals
    ∙ ap (λ (o : ℕ). holds (entries_from o (core_in before own).arrivals) e) (sym number)
    ∙ ap (λ (es : List Placed). holds es e) (sym (settled.kept.each own).own)
    ∙ ap (λ (o : ℕ). holds (entries_from o (core_in after own).arrivals) e) number
    ∙ sym (holds_from e (core_in after own).arrivals)
    ∙ settled.joined own there e
    ∙ held in
    read_at inputs own e.message (omega (arith, there, many)) (mine.own_are e then same)

-- some site holds the message
pub record IsHeldBySome (cores : List Core) (message : Draft) : Type 0 where
  pub entry : Placed
  pub held : held_by_some cores entry ≡ true
  pub is : entry.message ≡ message

read_is_held : (number size : ℕ) (cores : List Core) (inputs : List (List ℕ)) → AllStand number size inputs cores → (m : Draft)
    → set.contains (set_of_all inputs) m ≡ true → IsHeldBySome cores m
read_is_held number size cores [] all m read = absurd (false≢true (sym (contains-empty message_order m) ∙ read))
read_is_held number size [] (input ∷ inputs) all m read = absurd all
read_is_held number size (core ∷ cores) (input ∷ inputs) all m read =
    elim (or_cases (set.contains (set_read input) m) (set.contains (set_of_all inputs) m) (sym (has_all input inputs m) ∙ read)) as (λ c. IsHeldBySome (core ∷ cores) m) [
      | inl here ↦
          let one : IsMessageOf core.arrivals m = message_held core.arrivals m (all.0.holds_all m here) in
          record {
            entry = one.entry;
            held = ap (λ (b : Bool). b || held_by_some cores one.entry) one.held;
            is = one.is;
          }
      | inr later ↦
          let rest : IsHeldBySome cores m = read_is_held (number + 1) size cores inputs all.1 m later in
          record {
            entry = rest.entry;
            held = ap (λ (b : Bool). holds core.arrivals rest.entry || b) rest.held ∙ or-true (holds core.arrivals rest.entry);
            is = rest.is;
          }
    ]

both_ways : (a b : Bool) → (a ≡ true → b ≡ true) → (b ≡ true → a ≡ true) → a ≡ b
both_ways true b there back = sym (there refl)
both_ways false true there back = back refl
both_ways false false there back = refl

-- each of the settled sites has the messages that are read of the inputs
pub union_is : (before after : List Core) (inputs : List (List ℕ)) → AllStand 1 (length inputs) inputs before → AreSettled before after
    → (place : ℕ) → place < length before → messages_of (core_in after place).arrivals ≡ set_of_all inputs
union_is before after inputs all settled place there =
    same_contents (messages_of (core_in after place).arrivals) (set_of_all inputs) (λ m. both_ways _ _
    (λ held.
    let one : IsMessageOf (core_in after place).arrivals m = message_held (core_in after place).arrivals m held in
    ap (set.contains (set_of_all inputs)) (sym one.is)
    ∙ held_is_read before after inputs all settled one.entry (sym (settled.joined place there one.entry) ∙ one.held))
    (λ read.
    let one : IsHeldBySome before m = read_is_held 1 (length inputs) before inputs all m read in
    ap (set.contains (messages_of (core_in after place).arrivals)) (sym one.is)
    ∙ held_message (core_in after place).arrivals one.entry (settled.joined place there one.entry ∙ one.held)))

-- ---- the order of the inputs

-- the message is read of some input
record IsReadFrom (inputs : List (List ℕ)) (message : Draft) : Type 0 where
  pub input : List ℕ
  pub there : Contains inputs input
  pub read : set.contains (set_read input) message ≡ true

read_from : (inputs : List (List ℕ)) (m : Draft) → set.contains (set_of_all inputs) m ≡ true → IsReadFrom inputs m
read_from [] m read = absurd (false≢true (sym (contains-empty message_order m) ∙ read))
read_from (input ∷ inputs) m read =
    elim (or_cases (set.contains (set_read input) m) (set.contains (set_of_all inputs) m) (sym (has_all input inputs m) ∙ read)) as (λ c. IsReadFrom (input ∷ inputs) m) [
      | inl here ↦ record { input = input; there = (0, omega arith, refl); read = here }
      | inr later ↦
          let rest : IsReadFrom inputs m = read_from inputs m later in
          record {
            input = rest.input;
            there = (suc rest.there.0, omega (arith, rest.there.1), rest.there.2);
            read = rest.read;
          }
    ]

from_place : (inputs : List (List ℕ)) (k : ℕ) (input : List ℕ) (m : Draft) → k < length inputs → slice_index_or inputs k input ≡ input
    → set.contains (set_read input) m ≡ true → set.contains (set_of_all inputs) m ≡ true
from_place [] k input m below is read = absurd (omega (arith, below))
from_place (first ∷ inputs) zero input m below is read =
    has_all first inputs m
    ∙ ap (λ (b : Bool). b || set.contains (set_of_all inputs) m) (ap (λ (x : List ℕ). set.contains (set_read x) m) is ∙ read)
from_place (first ∷ inputs) (suc k) input m below is read =
    has_all first inputs m
    ∙ ap (λ (b : Bool). set.contains (set_read first) m || b) (from_place inputs k input m (omega (arith, below)) is read)
    ∙ or-true (set.contains (set_read first) m)

moved : (some others : List (List ℕ)) → ((input : List ℕ) → Contains some input → Contains others input) → (m : Draft)
    → set.contains (set_of_all some) m ≡ true → set.contains (set_of_all others) m ≡ true
moved some others there m read =
    let one : IsReadFrom some m = read_from some m read in
    let at : Contains others one.input = there one.input one.there in
    from_place others at.0 one.input m at.1 at.2 one.read

pub order_matters_not : NoOrderMatters
order_matters_not some others same =
    same_contents (set_of_all some) (set_of_all others) (λ m. both_ways _ _
    (moved some others (λ input. (same input).0) m) (moved others some (λ input. (same input).1) m))
