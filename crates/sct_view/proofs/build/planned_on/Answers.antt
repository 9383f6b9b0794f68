-- The messages filed under a transfer are those of the set on it.
use Rattle.sct_view.proofs.RebuildLemmas.{filed-contents}
use Rattle.sct_view.proofs.build.planned_on.Goals as goal

pub evaluate-requires : goal.evaluate-requires
evaluate-requires c =
    filed-contents c.args.archive.now c.args.transfer.now c.requires.0 _ c.requires.1 (c.on_transfer-messages.ensures c.requires.0 c.requires.2)
