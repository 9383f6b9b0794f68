-- What the events of a site leave under a desk's lock.
use Rattle.std.proofs.Common.{◌≡◌, ◌∙◌, refl, ap, sym, subst, ℕ, ◌≤◌, ◌+◌, ◌-◌, Bool, true, false, not, List, [], ◌∷◌, take, length, arith, length-append, length-take-le, nat_eq}
use Rattle.std.specs.Prelude.{◌≢◌, Option, Some, None, MatchOption, Result, Ok, Err, IfOk, IfErr, IfSome, OnOk, OnErr}
use Rattle.std.specs.List.{find}
use Rattle.std.specs.Option.{option_or}
use Rattle.std.proofs.lemmas.List.{take-append-le}
use Rattle.std.proofs.lemmas.List.Filters.{length-filter_both}
use Rattle.std.proofs.lemmas.Bool.Decides.{nat_tests}
use Rattle.std.proofs.Math.Seq.{take-append_seam}
use mathlib.Core.List.{IsPrefix}
use Rattle.logbook.specs.Pages.{Book}
use Rattle.sct_message.specs.declared.draft.Draft.{Draft}
use Rattle.sct_delta.specs.Entries.{Placed}
use Rattle.sct_delta.specs.Refusals.{ahead_refusal, first_refusal, firsts_after, gap_refusal, is_ahead, is_fork, is_held, is_outside, is_past, outside_refusal, fault_of_entry, vector_of}
use Rattle.sct_delta.specs.declared.fault.DeltaFault.{DeltaFault}
use Rattle.sct_delta.specs.declared.fault.DeltaFault.TheVariants as delta_fault
use Rattle.sct_site.specs.Sights.{Sight}
use Rattle.sct_site.proofs.Prefixes.{prefix_self, prefix_trans, prefix_length, prefix_whole}
use Rattle.sct_site.specs.Cores.{Core, is_repeat, took_by, arrivals_taken, own_entry, logs_of, refusal_by, fresh_entries, arrivals_joined}
use Rattle.sct_site.specs.declared.answers.Accepted.{Accepted}
use Rattle.sct_desk.specs.declared.shown.Shown.{Shown}
use Rattle.sct_desk.specs.declared.shown.ViewUpdate.{ViewUpdate}
use Rattle.sct_desk.specs.declared.fault.DeskFault.{DeskFault}
use Rattle.sct_desk.specs.HeldOk.{IsHeld}
use Rattle.sct_desk.specs.Locked.{Locked, Fails, IsDeltaRefusal, Publishes, answer_for, answer_to_delta, arrivals_for, arrivals_handed, came_by_delta, came_by_take, unpublished}
use Rattle.sct_desk.specs.Passes.{IsReceipt, ReportsRange, Told, before}
use Rattle.sct_desk.specs.Rules.{view_of}

-- ---- more arrivals

-- more arrivals lie under the lock, with a mark for each
pub held_more : (book : Book) (number group : ℕ) (core : Core) (track : Sight) (x : Shown) (bs : List ViewUpdate) (handed : ℕ) (marks : List ℕ)
    → IsHeld book number group core track x bs handed marks
    → (more : Core) (new : List ℕ) → more.number ≡ core.number → more.group ≡ core.group → IsPrefix core.arrivals more.arrivals
    → length more.arrivals ≤ length new
    → IsHeld book number group more track x bs handed new
held_more book number group core track x bs handed marks held more new same_number same_group pre enough = record {
  number_is = same_number ∙ held.number_is;
  group_is = same_group ∙ held.group_is;
  book_is = held.book_is;
  tracked = prefix_trans track.log core.arrivals more.arrivals held.tracked pre;
  bounded = omega (arith, held.bounded, prefix_length core.arrivals more.arrivals pre);
  given = held.given ∙ ap (view_of book) (sym (take-append-le handed core.arrivals pre.0 held.bounded) ∙ ap (take handed) pre.1);
  viewed = held.viewed;
  published = prefix_trans x.track.log core.arrivals more.arrivals held.published pre;
  marked = enough;
}

-- ---- a message is taken

taken_cases : (core : Core) (m : Draft) (b : Bool) → is_repeat core m ≡ b
    → IsPrefix core.arrivals (arrivals_taken core m) × (length (arrivals_taken core m) ≡ length core.arrivals + came_by_take (took_by core m))
unfolding arrivals_taken took_by
taken_cases core m true is = rw is (prefix_self core.arrivals, omega arith)
taken_cases core m false is = rw is ((own_entry core m ∷ [], refl), length-append core.arrivals (own_entry core m ∷ []))

pub taken_longer : (core : Core) (m : Draft) → IsPrefix core.arrivals (arrivals_taken core m)
taken_longer core m = (taken_cases core m (is_repeat core m) refl).0

pub taken_length : (core : Core) (m : Draft) → length (arrivals_taken core m) ≡ length core.arrivals + came_by_take (took_by core m)
taken_length core m = (taken_cases core m (is_repeat core m) refl).1

taken_one : (core : Core) (m : Draft) (b : Bool) → is_repeat core m ≡ b → length (arrivals_taken core m) ≤ length core.arrivals + 1
unfolding arrivals_taken
taken_one core m true is = rw is (omega arith)
taken_one core m false is = rw is (omega (arith, length-append core.arrivals (own_entry core m ∷ [])))

pub taken_most : (core : Core) (m : Draft) → length (arrivals_taken core m) ≤ length core.arrivals + 1
taken_most core m = taken_one core m (is_repeat core m) refl

-- ---- a delta is handed over

fresh_most : (es delta : List Placed) → length (fresh_entries es delta) ≤ length delta
fresh_most es delta =
    omega (arith, length-filter_both (λ entry. not (is_held (logs_of es) entry)) (λ entry. not (not (is_held (logs_of es) entry))) (λ entry. refl) delta)

handed_all : (core : Core) (delta : List Placed) (o : Option DeltaFault)
    → length (arrivals_for o (arrivals_joined core.arrivals delta) core.arrivals) ≤ length core.arrivals + length delta
handed_all core delta None = omega (arith, length-append core.arrivals (fresh_entries core.arrivals delta), fresh_most core.arrivals delta)
handed_all core delta (Some refusal) = omega arith

pub handed_most : (core : Core) (delta : List Placed) → length (arrivals_handed core delta) ≤ length core.arrivals + length delta
handed_most core delta = handed_all core delta (refusal_by core delta)

handed_cases : (core : Core) (delta : List Placed) (o : Option DeltaFault)
    → IsPrefix core.arrivals (arrivals_for o (arrivals_joined core.arrivals delta) core.arrivals)
    × (length (arrivals_for o (arrivals_joined core.arrivals delta) core.arrivals)
    ≡ length core.arrivals + came_by_delta (answer_for o (length (fresh_entries core.arrivals delta))))
handed_cases core delta None = ((fresh_entries core.arrivals delta, refl), length-append core.arrivals (fresh_entries core.arrivals delta))
handed_cases core delta (Some refusal) = (prefix_self core.arrivals, omega arith)

pub handed_longer : (core : Core) (delta : List Placed) → IsPrefix core.arrivals (arrivals_handed core delta)
handed_longer core delta = (handed_cases core delta (refusal_by core delta)).0

pub handed_length : (core : Core) (delta : List Placed) → length (arrivals_handed core delta) ≡ length core.arrivals + came_by_delta (answer_to_delta core delta)
handed_length core delta = (handed_cases core delta (refusal_by core delta)).1

-- what is answered where nothing refuses the delta, and where something does
answered_err : (core : Core) (delta : List Placed) (o : Option DeltaFault) (f : DeltaFault)
    → MatchOption o (f ≡ delta_fault.Memory) (λ first. f ≡ first) → ◌≢◌ {A = Result Accepted DeltaFault} (Err f) (Err delta_fault.Memory)
    → (Err f ≡ answer_for o (length (fresh_entries core.arrivals delta)))
    × (core.arrivals ≡ arrivals_for o (arrivals_joined core.arrivals delta) core.arrivals)
answered_err core delta None f want other = absurd (other (λ i. Err (want i)))
answered_err core delta (Some first) f same other = (λ i. Err (same i), refl)

pub answered : (core new : Core) (delta : List Placed) (r : Result Accepted DeltaFault)
    → IfOk r (λ accepted. accepted.fresh ≡ length (fresh_entries core.arrivals delta)) → OnOk r (refusal_by core delta ≡ None)
    → IfErr r (λ refusal. MatchOption (refusal_by core delta) (refusal ≡ delta_fault.Memory) (λ first. refusal ≡ first))
    → OnOk r (new.arrivals ≡ arrivals_joined core.arrivals delta) → OnErr r (new ≡ core) → r ≢ Err delta_fault.Memory
    → (r ≡ answer_to_delta core delta) × (new.arrivals ≡ arrivals_handed core delta)
answered core new delta (Ok accepted) fresh none why joined unchanged other = (
  (λ i. Ok (record { fresh = fresh i })) ∙ sym (ap (λ (o : Option DeltaFault). answer_for o (length (fresh_entries core.arrivals delta))) none),
  joined ∙ sym (ap (λ (o : Option DeltaFault). arrivals_for o (arrivals_joined core.arrivals delta) core.arrivals) none),
)
answered core new delta (Err f) fresh none why joined unchanged other =
    let is = answered_err core delta (refusal_by core delta) f why other in
    (is.0, ap (λ (c : Core). c.arrivals) unchanged ∙ is.1)

pub answered_so : (core new : Core) (delta : List Placed) (r : Result Accepted DeltaFault)
    → IfOk r (λ accepted. accepted.fresh ≡ length (fresh_entries core.arrivals delta)) → OnOk r (refusal_by core delta ≡ None)
    → IfErr r (λ refusal. MatchOption (refusal_by core delta) (refusal ≡ delta_fault.Memory) (λ first. refusal ≡ first))
    → OnOk r (new.arrivals ≡ arrivals_joined core.arrivals delta) → OnErr r (new ≡ core) → r ≢ Err delta_fault.Memory
    → r ≡ answer_to_delta core delta
answered_so core new delta r fresh none why joined unchanged other = (answered core new delta r fresh none why joined unchanged other).0

pub arrived_so : (core new : Core) (delta : List Placed) (r : Result Accepted DeltaFault)
    → IfOk r (λ accepted. accepted.fresh ≡ length (fresh_entries core.arrivals delta)) → OnOk r (refusal_by core delta ≡ None)
    → IfErr r (λ refusal. MatchOption (refusal_by core delta) (refusal ≡ delta_fault.Memory) (λ first. refusal ≡ first))
    → OnOk r (new.arrivals ≡ arrivals_joined core.arrivals delta) → OnErr r (new ≡ core) → r ≢ Err delta_fault.Memory
    → new.arrivals ≡ arrivals_handed core delta
arrived_so core new delta r fresh none why joined unchanged other = (answered core new delta r fresh none why joined unchanged other).1

-- why a delta is refused
either_refuses : (o p : Option DeltaFault) → IfSome o IsDeltaRefusal → IfSome p IsDeltaRefusal → IfSome (option_or o p) IsDeltaRefusal
either_refuses None p one other = other
either_refuses (Some refusal) p one other = one

entry_refuses : (tells : Placed → DeltaFault) (o : Option Placed) → ((entry : Placed) → IsDeltaRefusal (tells entry))
    → IfSome (fault_of_entry tells o) IsDeltaRefusal
entry_refuses tells None each = tt
entry_refuses tells (Some entry) each = each entry

delta_refuses : (core : Core) (delta : List Placed) → IfSome (refusal_by core delta) IsDeltaRefusal
unfolding first_refusal
delta_refuses core delta =
    let log = logs_of core.arrivals in
    either_refuses (outside_refusal core.group delta) _
    (entry_refuses (λ entry. delta_fault.BadSite) (find (is_outside core.group) delta) (λ entry. tt))
    (either_refuses (ahead_refusal core.number log delta) _
    (entry_refuses (λ entry. delta_fault.OwnAhead entry.n) (find (is_ahead core.number log) delta) (λ entry. tt))
    (either_refuses (gap_refusal log delta) _
    (entry_refuses (λ entry. delta_fault.Gap entry.origin (vector_of log entry.origin) entry.n) (find (is_past log) (firsts_after 0 delta)) (λ entry. tt))
    (entry_refuses (λ entry. delta_fault.Fork entry.origin entry.n) (find (is_fork log) delta) (λ entry. tt))))

refused_as : (o : Option DeltaFault) (f : DeltaFault) → IfSome o IsDeltaRefusal → MatchOption o (f ≡ delta_fault.Memory) (λ first. f ≡ first)
    → ◌≢◌ {A = Result Accepted DeltaFault} (Err f) (Err delta_fault.Memory) → IsDeltaRefusal f
refused_as None f each want other = absurd (other (λ i. Err (want i)))
refused_as (Some first) f each same other = subst IsDeltaRefusal (sym same) each

pub refused_so : (core : Core) (delta : List Placed) (r : Result Accepted DeltaFault)
    → IfErr r (λ refusal. MatchOption (refusal_by core delta) (refusal ≡ delta_fault.Memory) (λ first. refusal ≡ first))
    → r ≢ Err delta_fault.Memory → IfErr r IsDeltaRefusal
refused_so core delta (Ok accepted) why other = tt
refused_so core delta (Err f) why other = refused_as (refusal_by core delta) f (delta_refuses core delta) why other

-- ---- receipts

-- what a receipt shows without what came by its call
pub before_is : (r : Told) (old new : List Placed) (news : ℕ) → r.shown ≡ new → r.count ≡ r.carried + news
    → length new ≡ length old + news → IsPrefix old new → before r ≡ old
before_is r old new news shown count len pre =
    let front : length r.shown - (r.count - r.carried) ≡ length old = omega (arith, ap length shown, count, len) in
    (λ i. take (front i) (shown i)) ∙ ap (take (length old)) (sym pre.1) ∙ take-append_seam old pre.0

-- what a receipt carries came before its call
pub carries_so : (r : Told) (news : ℕ) → ReportsRange r → r.count ≡ r.carried + news → r.from + r.carried ≡ length (before r) + 1
carries_so r news range count =
    let less : length r.shown - (r.count - r.carried) ≤ length r.shown = omega arith in
    let len : length (before r) ≡ length r.shown - (r.count - r.carried) = length-take-le (length r.shown - (r.count - r.carried)) r.shown less in
    omega (arith, len, range.0, range.1, range.2, count)

-- the arrivals before a call that published all, if these begin what it shows
pub before_if : {A : Type 0} (r : Result (A × Told) DeskFault) (book : Book) (number news : ℕ) (mid new : Locked) (old : List Placed)
    → IfOk r (λ t. Publishes book number news mid new t.1) → length new.core.arrivals ≡ length old + news → IsPrefix old new.core.arrivals
    → IfOk r (λ t. before t.1 ≡ old)
before_if (Ok t) book number news mid new old published len pre =
    before_is t.1 old new.core.arrivals news published.arrivals published.receipt_is.count len pre
before_if (Err f) book number news mid new old published len pre = tt

-- a call of which an event came first, by which as many arrivals came as its answer says
pub published_if : {A : Type 0} (came : A → ℕ) (r : Result (A × Told) DeskFault) (book : Book) (number news : ℕ) (old mid new : Locked) (answer : A)
    → mid.published ≡ old.published → IfOk r (λ t. t.0 ≡ answer) → news ≡ came answer → IfOk r (λ t. Publishes book number news mid new t.1)
    → IfOk r (λ t. Publishes book number (came t.0) old new t.1)
published_if came (Ok t) book number news old mid new answer same is count published =
    let as_many : news ≡ came t.0 = count ∙ ap came (sym is) in
    record {
      receipt_is = subst (λ (n : ℕ). IsReceipt book number n t.1) as_many published.receipt_is;
      from = published.from ∙ ap (λ (es : List Placed). length es + 1) same;
      arrivals = published.arrivals;
      shown = published.shown;
    }
published_if came (Err f) book number news old mid new answer same is count published = tt

-- ---- refused calls

fails_cases : (old mid : Locked) (arrivals : List Placed) → mid.core.number ≡ old.core.number → mid.core.group ≡ old.core.group
    → mid.core.arrivals ≡ arrivals → mid.published ≡ old.published
    → IsPrefix old.published old.core.arrivals → IsPrefix old.core.arrivals mid.core.arrivals
    → (b : Bool) → nat_eq (length mid.published) (length mid.core.arrivals) ≡ b → Fails old arrivals mid (unpublished mid)
fails_cases old mid arrivals number group are published pre more true is =
    let len : length mid.published ≡ length mid.core.arrivals = grind (arith, nat_tests, is) in
    let short : length mid.core.arrivals ≤ length old.core.arrivals =
    omega (arith, len, ap length published, prefix_length old.published old.core.arrivals pre) in
    let same : old.core.arrivals ≡ mid.core.arrivals = prefix_whole old.core.arrivals mid.core.arrivals more short in
    rw is (λ i. record { core = record { number = number i; group = group i; arrivals = sym same i }; published = published i })
fails_cases old mid arrivals number group are published pre more false is =
    let le : length mid.published ≤ length mid.core.arrivals =
    omega (arith, ap length published, prefix_length old.published old.core.arrivals pre, prefix_length old.core.arrivals mid.core.arrivals more) in
    let less : length mid.published + 1 ≤ length mid.core.arrivals = grind (arith, nat_tests, is, le) in
    rw is (are, published, (refl, less))

pub fails_is : (old mid : Locked) (arrivals : List Placed) → mid.core.number ≡ old.core.number → mid.core.group ≡ old.core.group
    → mid.core.arrivals ≡ arrivals → mid.published ≡ old.published
    → IsPrefix old.published old.core.arrivals → IsPrefix old.core.arrivals mid.core.arrivals
    → Fails old arrivals mid (unpublished mid)
fails_is old mid arrivals number group are published pre more =
    fails_cases old mid arrivals number group are published pre more (nat_eq (length mid.published) (length mid.core.arrivals)) refl

-- a call after whose event nothing was published
pub fails_after : (old mid new : Locked) (arrivals : List Placed) (f : DeskFault) → mid.core.number ≡ old.core.number
    → mid.core.group ≡ old.core.group → mid.core.arrivals ≡ arrivals → mid.published ≡ old.published
    → IsPrefix old.published old.core.arrivals → IsPrefix old.core.arrivals mid.core.arrivals
    → f ≡ unpublished mid → new ≡ mid → Fails old arrivals new f
fails_after old mid new arrivals f number group are published pre more why same =
    subst (λ (d : DeskFault). Fails old arrivals new d) (sym why)
    (subst (λ (l : Locked). Fails old arrivals l (unpublished mid)) (sym same) (fails_is old mid arrivals number group are published pre more))

-- a call without an event of the site, after which nothing was published
pub fails_same : (old new : Locked) (f : DeskFault) → IsPrefix old.published old.core.arrivals → f ≡ unpublished old → new ≡ old
    → Fails old old.core.arrivals new f
fails_same old new f pre why same =
    fails_after old old new old.core.arrivals f refl refl refl refl pre (prefix_self old.core.arrivals) why same

pub fails_if : {A : Type 0} (old new : Locked) (r : Result A DeskFault) → IsPrefix old.published old.core.arrivals
    → IfErr r (λ refusal. refusal ≡ unpublished old) → OnErr r (new ≡ old) → IfErr r (Fails old old.core.arrivals new)
fails_if old new (Ok x) pre why same = tt
fails_if old new (Err f) pre why same = fails_same old new f pre why same

-- the same of a call with an event
pub fails_if_after : {A : Type 0} (old mid new : Locked) (arrivals : List Placed) (r : Result A DeskFault) → mid.core.number ≡ old.core.number
    → mid.core.group ≡ old.core.group → mid.core.arrivals ≡ arrivals → mid.published ≡ old.published
    → IsPrefix old.published old.core.arrivals → IsPrefix old.core.arrivals mid.core.arrivals
    → IfErr r (λ refusal. refusal ≡ unpublished mid) → OnErr r (new ≡ mid) → IfErr r (Fails old arrivals new)
fails_if_after old mid new arrivals (Ok x) number group are published pre more why same = tt
fails_if_after old mid new arrivals (Err f) number group are published pre more why same =
    fails_after old mid new arrivals f number group are published pre more why same
