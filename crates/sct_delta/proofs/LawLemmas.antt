-- The laws of logs and deltas. Proof plumbing.
use Rattle.std.proofs.Common.{◌≡◌, ◌∙◌, refl, ap, sym, ℕ, ◌+◌, ◌-◌, ◌<◌, ◌≤◌, Bool, true, false, not, cond, ◌&&◌, ◌||◌, List, [], ◌∷◌, ◌++◌, length, drop, arith, nat_eq, nat_lt, Option, Some, None, zero, suc, length-append}
use Rattle.std.specs.List.{list_any, slice_get}
use Rattle.std.proofs.lemmas.Bool.{false≢true, not-false, ltb-false}
use Rattle.std.proofs.lemmas.Bool.Decides.{nat_tests}
use Rattle.std.proofs.lemmas.Option.{slice_get_within, same_Some}
use Rattle.std.proofs.Math.Bool.{or-true}
use Rattle.sct_message.specs.declared.draft.Draft.{Draft}
use Rattle.sct_message.specs.Order.{same_message}
use Rattle.sct_delta.specs.Entries.{Placed, entries_from, log_of, numbered, holds, IsDelta}
use Rattle.sct_delta.specs.Refusals.{message_at, is_same_as, is_other_than, is_held, is_ahead, is_past, is_fork, firsts_after, vector_of, fresh_in, joined}
use Rattle.sct_delta.specs.Laws.{IsThere, AreEntrySet, CutsWhatIsAbove, CutsNothingForItself, JoinsBothSides, KeepsWhatWasHeld, JoinsOnce, CatchesUp, NameAlike, JoinsInAnyOrder, Held}
use Rattle.sct_delta.proofs.EntryLemmas.{same_number, not_zero}
use Rattle.sct_delta.proofs.HeldLemmas.{none_passes, passes_none, cut_holds, some_there}
use Rattle.sct_message.proofs.SameValues.{message_is, message_itself}
use Rattle.sct_message.proofs.Tests.{or_swap}
use Rattle.sct_delta.proofs.JoinLemmas.{IsPassed, passed, unrefused, joins}

-- ---- one message at a place

agree : (x : Option Draft) (a b : Draft) → is_same_as a x ≡ true → is_same_as b x ≡ true → a ≡ b
agree None a b e f = absurd (false≢true e)
agree (Some d) a b e f = sym (message_is d a e) ∙ message_is d b f

agree_unless : (x : Option Draft) (a b : Draft) → is_same_as a x ≡ true → is_other_than b x ≡ false → a ≡ b
agree_unless None a b e f = absurd (false≢true e)
agree_unless (Some d) a b e f = sym (message_is d a e) ∙ message_is d b (not-false (same_message d b) f)

no_other : (x : Option Draft) (b : Draft) → ((a : Draft) → is_same_as a x ≡ true → a ≡ b) → is_other_than b x ≡ false
no_other None b same = refl
no_other (Some d) b same = (λ i. not (same_message (same d (message_itself d) i) b)) ∙ ap not (message_itself b)

same_option : (x y : Option Draft) → ((a : Draft) → is_same_as a x ≡ is_same_as a y) → x ≡ y
same_option None None same = refl
same_option None (Some d) same = absurd (false≢true (same d ∙ message_itself d))
same_option (Some d) None same = absurd (false≢true (sym (same d) ∙ message_itself d))
same_option (Some d) (Some e) same = ap (λ (m : Draft). Some m) (sym (message_is e d (sym (same d) ∙ message_itself d)))

same_list : (xs ys : List Draft) → ((i : ℕ) → slice_get xs i ≡ slice_get ys i) → xs ≡ ys
same_list [] [] same = refl
same_list [] (y ∷ ys) same = let first = same zero in cc
same_list (x ∷ xs) [] same = let first = same zero in cc
same_list (x ∷ xs) (y ∷ ys) same = λ i. same_Some x y (same zero) i ∷ same_list xs ys (λ k. same (suc k)) i

pub at_place : (ms : List Draft) (i : ℕ) → message_at ms (i + 1) ≡ slice_get ms i
at_place ms i = (λ j. cond (not_zero (i + 1) (omega arith) j) None (slice_get ms (i + 1 - 1))) ∙ ap (slice_get ms) (omega arith)

-- logs that hold the same entries are the same
pub same_logs : (a b : Held) → ((e : Placed) → is_held a e ≡ is_held b e) → (o : ℕ) → a o ≡ b o
same_logs a b same o =
    same_list (a o) (b o) (λ i. same_option (slice_get (a o) i) (slice_get (b o) i) (λ m.
    ap (is_same_as m) (sym (at_place (a o) i)) ∙ same (record { origin = o; n = i + 1; message = m }) ∙ ap (is_same_as m) (at_place (b o) i)))

-- a number of an origin is held with one message
held_once : (log : Held) (x y : Placed) → is_held log x ≡ true → is_held log y ≡ true → x.origin ≡ y.origin → x.n ≡ y.n → x ≡ y
held_once log x y e f origin n =
    let message = agree (message_at (log y.origin) y.n) x.message y.message (ap (is_same_as x.message) (λ i. message_at (log (sym origin i)) (sym n i)) ∙ e) f in
    λ i. record { origin = origin i; n = n i; message = message i }

-- ---- an entry set

above_zero : (n : ℕ) → nat_eq n 0 ≡ false → 1 ≤ n
above_zero n e = grind (arith, nat_tests)

within_log : (ms : List Draft) (n : ℕ) (m : Draft) → is_same_as m (message_at ms n) ≡ true → (1 ≤ n) × (n ≤ length ms)
within_log ms n m e =
    elim (nat_eq n 0) as (λ b. nat_eq n 0 ≡ b → is_same_as m (cond b None (slice_get ms (n - 1))) ≡ true → (1 ≤ n) × (n ≤ length ms)) [
      | true ↦ λ t f. absurd (false≢true f)
      | false ↦ λ t f. let inside = slice_get_within ms (n - 1) m (some_there m (slice_get ms (n - 1)) f) in let above = above_zero n t in (above, omega (arith, inside, above))
    ] refl e

pub record Stands (ms : List Draft) (i : ℕ) : Type 0 where
  pub message : Draft
  pub stands : slice_get ms i ≡ Some message

standing : (ms : List Draft) (i : ℕ) → i < length ms → Stands ms i
standing [] i inside = absurd (omega (arith, inside))
standing (m ∷ ms) zero inside = record { message = m; stands = refl }
standing (m ∷ ms) (suc i) inside = let s = standing ms i (omega (arith, inside)) in record { message = s.message; stands = s.stands }

stands_at : (log : Held) (o n : ℕ) → 1 ≤ n → n ≤ length (log o) → IsThere (λ entry. is_held log entry ≡ true) o n
stands_at log o n above inside =
    let s = standing (log o) (n - 1) (omega (arith, above, inside)) in
    record {
      message = s.message;
      is_held = (λ i. is_same_as s.message (cond (not_zero n above i) None (slice_get (log o) (n - 1)))) ∙ ap (is_same_as s.message) s.stands ∙ message_itself s.message;
    }

pub entry_set : AreEntrySet
entry_set log = record {
  within = λ e held. within_log (log e.origin) e.n e.message held;
  each = λ o n above inside. stands_at log o n above inside;
  once = λ a b p q origin n. held_once log a b p q origin n;
}

-- ---- cutting

pub cuts_above : CutsWhatIsAbove
cuts_above = cut_holds

drop_all : (ms : List Draft) → drop (length ms) ms ≡ []
drop_all [] = refl
drop_all (m ∷ ms) = drop_all ms

none_of_any : (es : List Placed) → ((o : ℕ) → entries_from o es ≡ []) → es ≡ []
none_of_any [] none = refl
none_of_any (e ∷ es) none =
    let first : (e ∷ entries_from e.origin es) ≡ [] = (λ i. cond (sym (same_number e.origin) i) (e ∷ entries_from e.origin es) (entries_from e.origin es)) ∙ none e.origin in cc

pub cuts_nothing : CutsNothingForItself
cuts_nothing log delta is = none_of_any delta (λ o. is o ∙ ap (numbered o (vector_of log o + 1)) (drop_all (log o)))

-- ---- joining

pub joins_both : JoinsBothSides
joins_both own group log delta shape none = joins own group log delta shape (passed own group log delta none)

pub got_longer : {X : Type 0} (a b : List X) (i : ℕ) (m : X) → slice_get a i ≡ Some m → slice_get (a ++ b) i ≡ Some m
got_longer [] b i m e = cc
got_longer (x ∷ a) b zero m e = e
got_longer (x ∷ a) b (suc i) m e = got_longer a b i m e

stays_at : (a b : List Draft) (n : ℕ) (m : Draft) → is_same_as m (message_at a n) ≡ true → is_same_as m (message_at (a ++ b) n) ≡ true
stays_at a b n m e =
    elim (nat_eq n 0) as (λ z. is_same_as m (cond z None (slice_get a (n - 1))) ≡ true → is_same_as m (cond z None (slice_get (a ++ b) (n - 1))) ≡ true) [
      | true ↦ λ f. f
      | false ↦ λ f. ap (is_same_as m) (got_longer a b (n - 1) m (some_there m (slice_get a (n - 1)) f)) ∙ message_itself m
    ] e

pub keeps : KeepsWhatWasHeld
keeps log delta e held = stays_at (log e.origin) (log_of e.origin (fresh_in log delta)) e.n e.message held

-- ---- what fits still fits where more is held

weaker : (p q : Placed → Bool) (es : List Placed) → ((e : Placed) → p e ≡ false → q e ≡ false) → list_any p es ≡ false → list_any q es ≡ false
weaker p q [] all none = refl
weaker p q (x ∷ es) all none =
    elim (p x) as (λ b. p x ≡ b → (b || list_any p es) ≡ false → (q x || list_any q es) ≡ false) [
      | true ↦ λ t f. absurd (false≢true (sym f))
      | false ↦ λ t f. λ i. all x t i || weaker p q es all f i
    ] refl none

lower : (h k n : ℕ) → h ≤ k → nat_lt h n ≡ false → nat_lt k n ≡ false
lower h k n le e = grind (arith, nat_tests)

grown : (log : Held) (delta : List Placed) (o : ℕ) → vector_of log o ≤ vector_of (joined log delta) o
grown log delta o = omega (arith, length-append (log o) (log_of o (fresh_in log delta)))

not_ahead : (own : ℕ) (log : Held) (delta : List Placed) (e : Placed) → is_ahead own log e ≡ false → is_ahead own (joined log delta) e ≡ false
not_ahead own log delta e none =
    elim (nat_eq e.origin own) as (λ b. (b && nat_lt (vector_of log own) e.n) ≡ false → (b && nat_lt (vector_of (joined log delta) own) e.n) ≡ false) [
      | true ↦ λ f. lower (vector_of log own) (vector_of (joined log delta) own) e.n (grown log delta own) f
      | false ↦ λ f. refl
    ] none

not_past : (log : Held) (delta : List Placed) (e : Placed) → is_past log e ≡ false → is_past (joined log delta) e ≡ false
not_past log delta e none =
    lower (vector_of log e.origin + 1) (vector_of (joined log delta) e.origin + 1) e.n (omega (arith, grown log delta e.origin)) none

not_fork : (own group : ℕ) (log : Held) (a b : List Placed) → IsDelta a → IsPassed own group log a → IsPassed own group log b → NameAlike a b
    → (e : Placed) → holds b e ≡ true → is_fork (joined log a) e ≡ false
not_fork own group log a b shape p q alike e among =
    no_other (message_at (joined log a e.origin) e.n) e.message (λ m held.
    let z : Placed = record { origin = e.origin; n = e.n; message = m } in
    elim (is_held log z) as (λ t. is_held log z ≡ t → (t || holds a z) ≡ true → m ≡ e.message) [
      | true ↦ λ t _. agree_unless (message_at (log e.origin) e.n) m e.message t (none_passes (is_fork log) b q.no_fork e among)
      | false ↦ λ _ u. ap (λ (x : Placed). x.message) (alike z e u among refl refl)
    ] refl (sym (joins own group log a shape p z) ∙ held))

pub passes_after : (own group : ℕ) (log : Held) (a b : List Placed) → IsDelta a → IsPassed own group log a → IsPassed own group log b → NameAlike a b
    → IsPassed own group (joined log a) b
passes_after own group log a b shape p q alike = record {
  inside = q.inside;
  known = weaker (is_ahead own log) (is_ahead own (joined log a)) b (not_ahead own log a) q.known;
  no_gap = weaker (is_past log) (is_past (joined log a)) (firsts_after 0 b) (not_past log a) q.no_gap;
  no_fork = passes_none (is_fork (joined log a)) b (not_fork own group log a b shape p q alike);
}

-- ---- joining again, in any order, and to catch up

held_after : (own group : ℕ) (log : Held) (delta : List Placed) → IsDelta delta → IsPassed own group log delta → (e : Placed) → holds delta e ≡ true → is_held (joined log delta) e ≡ true
held_after own group log delta shape p e among = joins own group log delta shape p e ∙ ap (λ (b : Bool). is_held log e || b) among ∙ or-true (is_held log e)

names_alike : (own group : ℕ) (log : Held) (delta : List Placed) → IsDelta delta → IsPassed own group log delta → NameAlike delta delta
names_alike own group log delta shape p x y among also origin n =
    held_once (joined log delta) x y (held_after own group log delta shape p x among) (held_after own group log delta shape p y also) origin n

or_again : (a b : Bool) → ((a || b) || b) ≡ (a || b)
or_again true b = refl
or_again false true = refl
or_again false false = refl

pub joins_once : JoinsOnce
joins_once own group log delta shape none =
    let p = passed own group log delta none in
    let again = passes_after own group log delta delta shape p p (names_alike own group log delta shape p) in
    record {
      fits = unrefused own group (joined log delta) delta again;
      same = same_logs (joined (joined log delta) delta) (joined log delta) (λ e.
          joins own group (joined log delta) delta shape again e
          ∙ ap (λ (b : Bool). b || holds delta e) (joins own group log delta shape p e)
          ∙ or_again (is_held log e) (holds delta e)
          ∙ sym (joins own group log delta shape p e));
    }

swap_alike : (a b : List Placed) → NameAlike a b → NameAlike b a
swap_alike a b alike x y among also origin n = sym (alike y x also among (sym origin) (sym n))

pub any_order : JoinsInAnyOrder
any_order own group log a b shape_a shape_b none_a none_b alike =
    let p = passed own group log a none_a in
    let q = passed own group log b none_b in
    let b_after = passes_after own group log a b shape_a p q alike in
    let a_after = passes_after own group log b a shape_b q p (swap_alike a b alike) in
    record {
      second_fits = unrefused own group (joined log a) b b_after;
      same = same_logs (joined (joined log a) b) (joined (joined log b) a) (λ e.
          joins own group (joined log a) b shape_b b_after e
          ∙ ap (λ (t : Bool). t || holds b e) (joins own group log a shape_a p e)
          ∙ or_swap (is_held log e) (holds a e) (holds b e)
          ∙ sym (joins own group (joined log b) a shape_a a_after e ∙ ap (λ (t : Bool). t || holds a e) (joins own group log b shape_b q e)));
    }

pub catches_up : CatchesUp
catches_up own group mine theirs count delta shape cut none have e held =
    elim (nat_lt (count e.origin) e.n) as (λ b. nat_lt (count e.origin) e.n ≡ b → is_held (joined mine delta) e ≡ true) [
      | true ↦ λ t. held_after own group mine delta shape (passed own group mine delta none) e
          (cut_holds theirs count delta cut e ∙ (λ i. held i && t i))
      | false ↦ λ t. keeps mine delta e (have e held (ltb-false (count e.origin) e.n t))
    ] refl
