-- The rows of a list, filed by transfer. Proof plumbing.
use Rattle.std.specs.Prelude.{◌≡◌, List}
use Rattle.indexmap.specs.IndexMap.{IndexMap}
use Rattle.sct_message.specs.Order.{same_transfer}
use Rattle.sct_message.specs.declared.keys.TransferKey.{TransferKey}
use Rattle.sct_set.specs.Buckets.{bucket}
use Rattle.sct_reconcile.specs.Reports.{listed_on}
use Rattle.sct_reconcile.specs.declared.rows.ListRow.{ListRow}
use Rattle.sct_reconcile.specs.declared.rows.ListedRow.{ListedRow}

-- the table has at each transfer what the rows on it say
abbrev pub IsFiled : {S : Type 0} → IndexMap TransferKey (List ListRow) S → List ListedRow → Type 0
IsFiled index rows = (key : TransferKey) → bucket same_transfer index key ≡ listed_on rows key
