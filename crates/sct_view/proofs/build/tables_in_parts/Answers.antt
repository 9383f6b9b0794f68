-- The cases of all transfers that have an entry make the cases of the archive.
use Rattle.std.proofs.Common.{◌≡◌, map, subst}
use Rattle.std.specs.Prelude.{IfOk}
use Rattle.indexmap.specs.IndexMap.{keys}
use Rattle.sct_message.specs.declared.keys.TransferKey.{TransferKey}
use Rattle.sct_view.specs.Changes.{change_in}
use Rattle.sct_view.specs.Kept.{case_at}
use Rattle.sct_view.proofs.ChangeLemmas.{cases_built}
use Rattle.sct_view.proofs.EntryLemmas.{filed_keys}
use Rattle.sct_view.proofs.TotalsLemmas.{Cases}
use Rattle.sct_view.proofs.build.tables_in_parts.Goals as goal

pub returns : goal.returns
returns g c =
    subst (λ (cases : Cases). IfOk c.join-tables.result.1 (λ tables. (t : TransferKey) → case_at tables.cases t ≡ cases t))
    (λ i t. cases_built c.args.archive.now (keys c.args.index) (filed_keys c.args.archive.now c.args.index c.requires.filed) (map change_in c.in_ok-planned.planned.items) c.in_ok-planned.ensures t i)
    c.join-tables.ensures.second
