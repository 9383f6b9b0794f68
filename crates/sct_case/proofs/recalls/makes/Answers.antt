-- A recall message makes what its transactions make.
use Rattle.std.proofs.Common.{◌∙◌, ap, sym, List}
use Rattle.std.specs.List.{list_any}
use Rattle.sct_message.specs.declared.draft.RecallTx.{RecallTx}
use Rattle.sct_case.specs.Said.{made_in}
use Rattle.sct_case.specs.Told.{recall_of_it}
use Rattle.sct_message.proofs.Tests.{any_flat_map}
use Rattle.sct_case.proofs.recalls.makes.Goals as goal

pub returns : goal.returns
returns c =
    rw (← c.request.view_is)
    (c.any_makes.ensures
    ∙ ap (λ (txs : List RecallTx). list_any (λ tx. list_any (recall_of_it c.args.cxl.now) (made_in c.args.transfer.now tx)) txs) c.deref.ensures.value
    ∙ sym (any_flat_map (recall_of_it c.args.cxl.now) (made_in c.args.transfer.now) c.request.inside.txs.items))
