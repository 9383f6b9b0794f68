-- The state under a desk's lock, and the effects of its calls. Read by an auditor.
use Rattle.std.specs.Prelude.{◌≡◌, ◌+◌, ◌≤◌, ℕ, List, length, Option, Some, None, Result, Ok, Err, if◌then◌else◌, nat_eq}
use Rattle.sct_delta.specs.Entries.{Placed}
use Rattle.sct_delta.specs.declared.fault.DeltaFault.{DeltaFault}
use Rattle.sct_delta.specs.declared.fault.DeltaFault.TheVariants as delta_fault
use Rattle.sct_site.specs.Cores.{Core, refusal_by, fresh_entries, arrivals_joined}
use Rattle.sct_site.specs.declared.answers.Accepted.{Accepted}
use Rattle.sct_site.specs.declared.answers.Took.{Took}
use Rattle.sct_site.specs.declared.answers.Took.TheVariants as took
use Rattle.logbook.specs.Pages.{Book}
use Rattle.sct_desk.specs.Passes.{IsReceipt, Told}
use Rattle.sct_desk.specs.declared.fault.DeskFault.{DeskFault}
use Rattle.sct_desk.specs.declared.fault.DeskFault.TheVariants as fault

-- The site with its arrivals, and the published ones among them. The others are pending.
pub record Locked : Type 0 where
  pub core : Core
  pub published : List Placed

-- nothing is pending
abbrev pub IsShown : Locked → Type 0
IsShown held = held.published ≡ held.core.arrivals

-- the position is that of the first pending arrival
abbrev pub IsHeldBack : ℕ → Locked → Type 0
IsHeldBack from held = (from ≡ length held.published + 1) × (from ≤ length held.core.arrivals)

-- A call by which `news` arrivals came published all arrivals of the site. Its receipt begins at the first one that was
-- pending, and shows all.
pub record Publishes (book : Book) (number news : ℕ) (old new : Locked) (receipt : Told) : Type 0 where
  pub receipt_is : IsReceipt book number news receipt
  pub from : receipt.from ≡ length old.published + 1
  pub arrivals : receipt.shown ≡ new.core.arrivals
  pub shown : IsShown new

-- ---- a delta that is accepted or refused

-- the reasons why a delta is refused: 44, 43, 41 or 42, and no others
abbrev pub IsDeltaRefusal : DeltaFault → Type 0
IsDeltaRefusal delta_fault.BadSite = Unit {0}
IsDeltaRefusal (delta_fault.OwnAhead n) = Unit {0}
IsDeltaRefusal (delta_fault.Gap origin have first) = Unit {0}
IsDeltaRefusal (delta_fault.Fork origin n) = Unit {0}
IsDeltaRefusal other = ⊥

abbrev pub answer_for : Option DeltaFault → ℕ → Result Accepted DeltaFault
answer_for None fresh = Ok (record { fresh = fresh })
answer_for (Some refusal) fresh = Err refusal

-- the answer to the delta: the first reason why it is refused, or how many of its entries were not held
abbrev pub answer_to_delta : Core → List Placed → Result Accepted DeltaFault
answer_to_delta core delta = answer_for (refusal_by core delta) (length (fresh_entries core.arrivals delta))

abbrev pub arrivals_for : Option DeltaFault → List Placed → List Placed → List Placed
arrivals_for None joined arrivals = joined
arrivals_for (Some refusal) joined arrivals = arrivals

-- the arrivals afterwards; a delta that is refused changes nothing
abbrev pub arrivals_handed : Core → List Placed → List Placed
arrivals_handed core delta = arrivals_for (refusal_by core delta) (arrivals_joined core.arrivals delta) core.arrivals

-- ---- how many arrivals came by a call

abbrev pub came_by_take : Took → ℕ
came_by_take (took.Taken n) = 1
came_by_take took.Repeat = 0

abbrev pub came_by_delta : Result Accepted DeltaFault → ℕ
came_by_delta (Ok accepted) = accepted.fresh
came_by_delta (Err refusal) = 0

-- ---- refused calls

-- The call was out of memory: before anything changed, or for the publication. Then the site holds `arrivals`: what it held,
-- and what came by the call.
abbrev pub Fails : Locked → List Placed → Locked → DeskFault → Type 0
Fails old arrivals new fault.Memory = new ≡ old
Fails old arrivals new (fault.Unpublished from) =
    (new.core.arrivals ≡ arrivals) × (new.published ≡ old.published) × IsHeldBack from new
Fails old arrivals new other = ⊥

-- the call was out of memory, before anything changed or for a publication
abbrev pub IsWant : DeskFault → Type 0
IsWant fault.Memory = Unit {0}
IsWant (fault.Unpublished from) = 1 ≤ from
IsWant other = ⊥

-- why nothing was published: 51 if an arrival is pending, else 50
abbrev pub unpublished : Locked → DeskFault
unpublished held =
    if nat_eq (length held.published) (length held.core.arrivals) then fault.Memory
    else fault.Unpublished (length held.published + 1)
