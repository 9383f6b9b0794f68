-- A log without a message is of the origin of which messages are to come.
use Rattle.std.proofs.Common.{All, length, subst, sym, ℕ, List, ◌≤◌}
use Rattle.std.specs.BTreeMap.{BTreeMap}
use Rattle.std.specs.Prelude.{OnOk, Result, Ok, Err}
use Rattle.sct_delta.specs.Shelves.{HasEmptyIfDue}
use Rattle.sct_delta.proofs.DueLemmas.{IsDue, due-insert, due-set}
use Rattle.sct_delta.proofs.EmptyLemmas.{Log}
use Rattle.sct_delta.proofs.shelf.Shelf.room.Goals as goal

abbrev AreDue : (ℕ → ℕ) → List (ℕ × Log) → Type 0
AreDue due es = All (IsDue (λ (log : Log). length log.items) due) es

always : {A E : Type 0} (P : Type 0) (result : Result A E) → P → OnOk result P
always P (Ok a) p = p
always P (Err e) p = tt

kept : (c : goal.After-self-in-Some-1) → (due : ℕ → ℕ) → 1 ≤ due c.args.origin → HasEmptyIfDue due c.args.self.now → AreDue due (c.get_mut.follows.lender c.reserve.new.self).entries
kept c due some all =
    subst (AreDue due) (sym (c.get_mut.follows.holds c.reserve.new.self).0)
    (due-set (λ (log : Log). length log.items) due c.args.origin c.reserve.new.self c.args.self.now.logs.entries some all)

pub returns-in-Some-clause-due : goal.returns-in-Some-clause-due
returns-in-Some-clause-due c = always _ c.reserve.result (kept c)

pub returns-clause-due : goal.returns-clause-due
returns-clause-due c = λ due some all.
    subst (AreDue due) (sym c.in_ok-insert.ensures.entries)
    (due-insert (λ (log : Log). length log.items) due c.args.origin c.reserve-2.new.self c.get_mut.follows.lender-at-none.entries some
    (subst (λ (logs : BTreeMap ℕ Log). AreDue due logs.entries) (sym c.get_mut.follows.holds-at-none) all))
