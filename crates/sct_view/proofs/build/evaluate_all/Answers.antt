-- The transfers are those of the index.
use Rattle.std.proofs.Common.{◌≡◌, ◌∙◌, List, map, subst}
use Rattle.std.specs.Prelude.{IfOk}
use Rattle.sct_message.specs.declared.keys.TransferKey.{TransferKey}
use Rattle.sct_view.specs.Changes.{change_in, changes_of}
use Rattle.sct_view.proofs.build.evaluate_all.Goals as goal

pub returns : goal.returns
returns g c =
    subst (λ (ts : List TransferKey). IfOk c.planned_by_halves.result (λ planned. map change_in planned.items ≡ changes_of c.args.archive.now ts))
    (c.as_slice-transfers.ensures ∙ c.keys.ensures.rest) c.planned_by_halves.ensures
