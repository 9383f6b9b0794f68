-- A row more is filed by its transfer.
use Rattle.std.proofs.Common.{◌≡◌, ◌++◌, ◌∷◌, [], cond, subst, take}
use Rattle.sct_message.specs.contracts.keys.TransferKeyPartialEq.TheImpl as keys
use Rattle.sct_message.specs.declared.keys.TransferKey.{TransferKey}
use Rattle.sct_set.specs.Buckets.{bucket}
use Rattle.sct_reconcile.specs.Filed.{IsFiled}
use Rattle.sct_reconcile.proofs.FiledLemmas.{filed_more, take_more}
use Rattle.sct_rights.proofs.report.by_transfer.Goals as goal

pub loop-row-preserved : goal.loop-row-preserved
loop-row-preserved c =
    subst (λ rows. IsFiled c.file.new.index rows)
    (take_more c.args.rows.now c.loop-row.row-index c.row-item.result c.loop-row-test.true c.row-item.is)
    (filed_more _ c.keys_are_ordered.ensures.transfers_equal c.loop-row.index c.file.new.index (take c.loop-row.row-index c.args.rows.now) c.row-item.result c.loop-row.invariant
    (subst (λ key. (k : TransferKey) → bucket keys.ghosts.eq c.file.new.index k ≡ cond (keys.ghosts.eq key k) (bucket keys.ghosts.eq c.loop-row.index k ++ c.row-item.result.listed ∷ []) (bucket keys.ghosts.eq c.loop-row.index k)) c.copy.ensures c.in_ok-file.ensures.ok))
