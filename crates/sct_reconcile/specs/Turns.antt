-- The rows of a list, read one after another. Proof plumbing.
use Rattle.std.specs.Prelude.{◌≡◌, ◌++◌, ℕ, List, [], Option, Some, None, Result, Ok, Err, ⊤}
use Rattle.std.specs.Global.{Vec}
use Rattle.sct_reconcile.specs.declared.fault.ReconcileFault.{ReconcileFault}
use Rattle.sct_reconcile.specs.declared.fault.ReconcileFault.TheVariants.{BadList, Memory}
use Rattle.sct_reconcile.specs.declared.rows.ListedRow.{ListedRow}

-- a field that may be absent; an absent field is empty
abbrev pub field_or : Option (List ℕ) → List ℕ
field_or (Some field) = field
field_or None = []

-- rows before those of an answer
abbrev pub onto : List ListedRow → Result (List ListedRow) ReconcileFault → Result (List ListedRow) ReconcileFault
onto rows (Ok more) = Ok (rows ++ more)
onto rows (Err fault) = Err fault

-- a call returns the given rows in a vector, or is out of memory
abbrev pub GivesRows : Result (Vec ListedRow) ReconcileFault → Result (List ListedRow) ReconcileFault → Type 0
GivesRows (Ok rows) asked = asked ≡ Ok rows.items
GivesRows (Err (BadList number)) asked = asked ≡ Err (BadList number)
GivesRows (Err Memory) asked = ⊤
