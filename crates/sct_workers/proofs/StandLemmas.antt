-- A desk that was closed with all receipts that were kept stands with the messages that were taken. Proof plumbing.
use Rattle.std.proofs.Common.{◌≡◌, ◌∙◌, refl, ap, sym, subst, inl, inr, ℕ, zero, suc, ◌+◌, ◌<◌, ◌≤◌, Bool, true, false, cond, not, List, [], ◌∷◌, ◌++◌, filter, length, arith, nat_eq, nat_lt}
use Rattle.std.specs.FinSet as set
use Rattle.std.specs.FinSet.{contains-union}
use Rattle.std.specs.Prelude.{◌≢◌, Some, Result, Ok, Err, IfErr, IfOk}
use Rattle.std.specs.List.{slice_get}
use Rattle.std.proofs.lemmas.Bool.{false≢true, or_cases, or_left}
use Rattle.std.proofs.lemmas.Bool.Decides.{nat_tests}
use Rattle.std.proofs.lemmas.Option.{slice_get_within}
use Rattle.std.proofs.lemmas.List.Elements.{All-head, All-tail}
use mathlib.Core.List.{IsPrefix}
use Rattle.logbook.specs.Pages.{Book}
use Rattle.sct_message.specs.declared.draft.Draft.{Draft}
use Rattle.sct_message.specs.OrderLaws.{message_total}
use Rattle.sct_message.specs.Sets.{MessageSet}
use Rattle.sct_delta.specs.Entries.{Placed, holds, messages_of, same_entry}
use Rattle.sct_delta.specs.Refusals.{has_site}
use Rattle.sct_delta.specs.Sites.{most_sites}
use Rattle.sct_delta.proofs.HeldLemmas.{and_first, one_entry}
use Rattle.sct_site.specs.Cores.{Core, is_open}
use Rattle.sct_site.proofs.AcceptLemmas.{messages-append}
use Rattle.sct_site.proofs.SiteLemmas.{has_itself}
use Rattle.sct_desk.specs.Passes.{Told, site_with}
use Rattle.sct_desk.specs.Tilings.{AllBegin, FailsToClose, Tiles, tellings, tells}
use Rattle.sct_desk.specs.declared.fault.DeskFault.{DeskFault}
use Rattle.sct_desk.specs.declared.fault.DeskFault.TheVariants as desk
use Rattle.sct_workers.specs.declared.fault.WorkFault.{WorkFault}
use Rattle.sct_workers.specs.Faults.{IsNotClosed, IsRefusalToClose, fault_of_desk}
use Rattle.sct_workers.specs.Kept.{AllKeep, AllShown, Keeps, MayCome, is_shown, shows}
use Rattle.sct_workers.specs.Stands.{Stands}

-- ---- entries and their places

-- an entry of a list stands at some place
place_of : (es : List Placed) (e : Placed) → holds es e ≡ true → (at : ℕ) × (slice_get es at ≡ Some e)
place_of [] e among = absurd (false≢true among)
place_of (x ∷ es) e among =
    elim (or_cases (same_entry x e) (holds es e) among) as (λ c. (at : ℕ) × (slice_get (x ∷ es) at ≡ Some e)) [
      | inl here ↦ (zero, ap (λ (y : Placed). Some y) (one_entry x e here))
      | inr later ↦ let rest = place_of es e later in (suc rest.0, rest.1)
    ]

-- what stands within the front of a list stands there in the front
in_front : (xs ys : List Placed) (at : ℕ) (e : Placed) → at < length xs → slice_get (xs ++ ys) at ≡ Some e → slice_get xs at ≡ Some e
in_front [] ys at e within is = absurd (omega (arith, within))
in_front (x ∷ xs) ys zero e within is = is
in_front (x ∷ xs) ys (suc at) e within is = in_front xs ys at e (omega (arith, within)) is

-- ---- each entry came by some call

-- a receipt that tells a position
record IsToldBy (own position : ℕ) (r : Told) : Type 0 where
  pub site : r.site ≡ own
  pub from : r.from ≤ position
  pub till : position < r.from + r.count

told_by : (own position : ℕ) (r : Told) → tells own position r ≡ true → IsToldBy own position r
told_by own position r does = record {
  site = grind (arith, nat_tests, does);
  from = grind (arith, nat_tests, does);
  till = grind (arith, nat_tests, does);
}

came_by : (book : Book) (own size : ℕ) (held : MessageSet) (es : List Placed) (r : Told) (at : ℕ) (e : Placed) → Keeps book own size held r
    → (r.site ≡ own → IsPrefix r.shown es) → slice_get es at ≡ Some e → tells own (at + 1) r ≡ true → MayCome own size held e
came_by book own size held es r at e keeps begin is does =
    let told : IsToldBy own (at + 1) r = told_by own (at + 1) r does in
    let front : IsPrefix r.shown es = begin told.site in
    let within : at < length r.shown = omega (arith, told.till, keeps.last) in
    keeps.adds at e told.from (in_front r.shown front.0 at e within (ap (λ (l : List Placed). slice_get l at) front.1 ∙ is))

came : (book : Book) (own size : ℕ) (held : MessageSet) (es : List Placed) (rs : List Told) (at : ℕ) (e : Placed) → AllKeep book own size held rs
    → AllBegin own es rs → slice_get es at ≡ Some e → 0 < tellings own (at + 1) rs → MayCome own size held e
came book own size held es [] at e kept begin is some = absurd (omega (arith, some))
came book own size held es (r ∷ rs) at e kept begin is some =
    elim (tells own (at + 1) r) as (λ b. tells own (at + 1) r ≡ b
    → 0 < length (cond b (r ∷ filter (tells own (at + 1)) rs) (filter (tells own (at + 1)) rs)) → MayCome own size held e) [
      | true ↦ λ does _.
          came_by book own size held es r at e (All-head (Keeps book own size held) r rs kept)
          (All-head (λ x. x.site ≡ own → IsPrefix x.shown es) r rs begin) is does
      | false ↦ λ _ later.
          came book own size held es rs at e (All-tail (Keeps book own size held) r rs kept)
          (All-tail (λ x. x.site ≡ own → IsPrefix x.shown es) r rs begin) is later
    ] refl some

-- ---- each message is held

-- what the front of a list has the list has
front_holds : (xs es : List Placed) (m : Draft) → IsPrefix xs es → set.contains (messages_of xs) m ≡ true → set.contains (messages_of es) m ≡ true
front_holds xs es m front has =
    ap (λ (l : List Placed). set.contains (messages_of l) m) (sym front.1)
    ∙ ap (λ s. set.contains s m) (messages-append xs front.0)
    ∙ contains-union message_total (messages_of xs) (messages_of front.0) m
    ∙ or_left (set.contains (messages_of xs) m) (set.contains (messages_of front.0) m) has

shown_holds : (book : Book) (own size : ℕ) (held : MessageSet) (es : List Placed) (rs : List Told) (m : Draft) → AllKeep book own size held rs
    → AllBegin own es rs → is_shown rs m ≡ true → set.contains (messages_of es) m ≡ true
shown_holds book own size held es [] m kept begin shown = absurd (false≢true shown)
shown_holds book own size held es (r ∷ rs) m kept begin shown =
    elim (or_cases (shows m r) (is_shown rs m) shown) as (λ c. set.contains (messages_of es) m ≡ true) [
      | inl here ↦
          let keeps : Keeps book own size held r = All-head (Keeps book own size held) r rs kept in
          front_holds r.shown es m (All-head (λ x. x.site ≡ own → IsPrefix x.shown es) r rs begin keeps.of_desk.0) here
      | inr later ↦
          shown_holds book own size held es rs m (All-tail (Keeps book own size held) r rs kept)
          (All-tail (λ x. x.site ≡ own → IsPrefix x.shown es) r rs begin) later
    ]

-- ---- the core

comes_inside : (own size : ℕ) (held : MessageSet) (e : Placed) → has_site size own ≡ true → MayCome own size held e → (b : Bool) → nat_eq e.origin own ≡ b
    → has_site size e.origin ≡ true
comes_inside own size held e inside comes true mine =
    let same : e.origin ≡ own = grind (arith, nat_tests, mine) in
    ap (has_site size) same ∙ inside
comes_inside own size held e inside comes false other =
    let differ : e.origin ≢ own = grind (arith, nat_tests, other) in
    comes.other_of differ

pub stands : (book : Book) (own size : ℕ) (held : MessageSet) (core : Core) (rs : List Told) → core ≡ site_with own size core.arrivals
    → is_open core.number core.group ≡ true → Tiles own core.arrivals rs → AllKeep book own size held rs → AllShown held rs
    → Stands own size held core
stands book own size held core rs is opened tiles kept shown =
    let number : core.number ≡ own = ap (λ (c : Core). c.number) is in
    let group : core.group ≡ size = ap (λ (c : Core). c.group) is in
    let inside : has_site size own ≡ true = has_itself own size ((λ i. is_open (sym number i) (sym group i)) ∙ opened) in
    let comes = λ (e : Placed) (among : holds core.arrivals e ≡ true).
    let place = place_of core.arrivals e among in
    let within : place.0 < length core.arrivals = slice_get_within core.arrivals place.0 e place.1 in
    let once : tellings own (place.0 + 1) rs ≡ 1 = tiles.once (place.0 + 1) (omega arith) (omega (arith, within)) in
    came book own size held core.arrivals rs place.0 e kept tiles.begin place.1 (omega (arith, once)) in
    record {
      number_is = number;
      group_is = group;
      own_are = λ e among. (comes e among).own_of;
      inside = λ e among. comes_inside own size held e inside (comes e among) (nat_eq e.origin own) refl;
      holds_all = λ m has. shown_holds book own size held core.arrivals rs m kept tiles.begin (shown m has);
    }

-- why a desk is not closed, as a worker's fault
pub not_closed : (own : ℕ) (rs : List Told) (f : DeskFault) (w : WorkFault) → FailsToClose own rs f → w ≡ fault_of_desk f → IsNotClosed w
not_closed own rs desk.BadSite w why is = absurd why
not_closed own rs desk.Memory w why is = absurd why
not_closed own rs (desk.Unpublished from) w why is = absurd why
not_closed own rs desk.NoPlace w why is = absurd why
not_closed own rs (desk.Pending from) w why is = inl is
not_closed own rs (desk.Untold position) w why is = inr is
not_closed own rs desk.Closed w why is = absurd why

pub refused_to_close : (own : ℕ) (rs : List Told) (f : DeskFault) (w : WorkFault) → FailsToClose own rs f → w ≡ fault_of_desk f
    → IsRefusalToClose own rs w
refused_to_close own rs f w why is = record { refusal = f; fails = why; told_by = is }

-- the core of a desk that was to be closed, if a worker has one
pub closed_stands : {N : Type 0} (why : N → DeskFault) (book : Book) (own size : ℕ) (held : MessageSet) (rs : List Told) (closed : Result Core N)
    (result : Result Core WorkFault) → IfOk closed (λ core. result ≡ Ok core) → IfErr closed (λ n. result ≡ Err (fault_of_desk (why n)))
    → IfOk result (λ core. is_open core.number core.group ≡ true) → IfOk closed (λ core. core ≡ site_with own size core.arrivals)
    → IfOk closed (λ core. Tiles own core.arrivals rs) → AllKeep book own size held rs → AllShown held rs → IfOk result (Stands own size held)
closed_stands why book own size held rs (Ok core) result same refused opened is tiles kept shown =
    subst (λ (r : Result Core WorkFault). IfOk r (Stands own size held)) (sym same)
    (stands book own size held core rs is (subst (λ (r : Result Core WorkFault). IfOk r (λ c. is_open c.number c.group ≡ true)) same opened) tiles kept shown)
closed_stands why book own size held rs (Err n) result same refused opened is tiles kept shown =
    subst (λ (r : Result Core WorkFault). IfOk r (Stands own size held)) (sym refused) tt

-- the fault of a worker, if the desk was refused to be closed
pub closed_fails : {N : Type 0} (why : N → DeskFault) (own : ℕ) (rs : List Told) (Q : WorkFault → Type 0) (closed : Result Core N) (result : Result Core WorkFault)
    → IfOk closed (λ core. result ≡ Ok core) → IfErr closed (λ n. result ≡ Err (fault_of_desk (why n))) → IfErr closed (λ n. FailsToClose own rs (why n))
    → ((f : DeskFault) → FailsToClose own rs f → Q (fault_of_desk f)) → IfErr result Q
closed_fails why own rs Q (Ok core) result same refused fails so = subst (λ (r : Result Core WorkFault). IfErr r Q) (sym same) tt
closed_fails why own rs Q (Err n) result same refused fails so = subst (λ (r : Result Core WorkFault). IfErr r Q) (sym refused) (so (why n) fails)
