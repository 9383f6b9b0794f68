-- What a batch changes in the tables of a view, for those who prove it: the new case of each transfer that it touches.
use Rattle.std.specs.FinSet as set
use Rattle.std.specs.Prelude.{ℕ, Bool, Option, None, Some, List, [], ◌∷◌, ◌++◌, ◌&&◌, not, map, filter, flat_map, if◌then◌else◌}
use Rattle.std.specs.List.{list_all}
use Rattle.indexmap.specs.IndexMap.{IndexMap}
use Rattle.sct_message.specs.Keys.{identity_of, transfers_of}
use Rattle.sct_message.specs.Order.{same_identity}
use Rattle.sct_message.specs.Sets.{MessageSet, in_order, is_contradicted}
use Rattle.sct_message.specs.declared.draft.Draft.{Draft}
use Rattle.sct_message.specs.declared.keys.TransferKey.{TransferKey}
use Rattle.sct_view.specs.Kept.{Kept, case_of, is_ready, kept_in, same_key}
use Rattle.sct_view.specs.declared.case.Case.{Case}
use Rattle.sct_view.specs.declared.case.Planned.{Planned}
use Rattle.sct_view.specs.declared.totals.Totals.{Totals}

-- the messages held, with the fresh ones if there are any
abbrev pub with_fresh : MessageSet → Option MessageSet → MessageSet
with_fresh held None = held
with_fresh held (Some fresh) = set.union held fresh

-- a transfer and its new case
abbrev pub Change : Type 0
Change = TransferKey × Kept

-- the change that a planned case makes
abbrev pub change_in : Planned → Change
change_in planned = (planned.transfer, kept_in planned.case)

-- the case of each of these transfers in this set
abbrev pub changes_of : MessageSet → List TransferKey → List Change
changes_of later transfers = map (λ t. (t, case_of later t)) transfers

-- the case of each transfer after the changes, made one after another
abbrev pub case_after : List Change → (TransferKey → Kept) → TransferKey → Kept
case_after [] cases t = cases t
case_after (change ∷ changes) cases t =
    case_after changes (λ k. if same_key change.0 k then change.1 else cases k) t

-- the messages held that a fresh one contradicts: they have its identity, and nothing contradicted it before
abbrev pub newly_contradicted_by : MessageSet → Draft → List Draft
newly_contradicted_by held m =
    filter (λ other. same_identity (identity_of other) (identity_of m) && not (is_contradicted held other)) (in_order held)

-- the transfers that one fresh message touches: its own, and those of the held message that it contradicts
abbrev pub touched_by_one : MessageSet → Draft → List TransferKey
touched_by_one held m = transfers_of m ++ flat_map transfers_of (newly_contradicted_by held m)

-- the tables have a place for each planned case
abbrev pub is_ready_for : {Y Z : Type 0} → IndexMap TransferKey Case Y → IndexMap (List ℕ) Totals Z → Planned → Bool
is_ready_for cases totals planned = is_ready cases totals planned.transfer (kept_in planned.case)

abbrev pub are_ready : {Y Z : Type 0} → IndexMap TransferKey Case Y → IndexMap (List ℕ) Totals Z → List Planned → Bool
are_ready cases totals planned = list_all (is_ready_for cases totals) planned
