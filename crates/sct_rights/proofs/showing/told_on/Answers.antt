-- The messages that are filed under the transfer, as they are shown.
use Rattle.std.proofs.Common.{◌∙◌, ap}
use Rattle.sct_set.specs.Contents.{contents_of}
use Rattle.sct_rights.proofs.ShowingLemmas.{shown_filed}
use Rattle.sct_rights.proofs.TheirsLemmas.{all_on}
use Rattle.sct_rights.proofs.showing.told_on.Goals as goal

pub returns : goal.returns
returns c =
    ap contents_of c.in_ok-told.ensures
    ∙ shown_filed c.args.banks.now c.args.view.now c.args.transfer.now c.args.filed.now c.requires.filed c.on_transfer-on_it.result.now c.on_transfer-on_it.ensures

pub all_shown-requires-clause-on : goal.all_shown-requires-clause-on
all_shown-requires-clause-on c = all_on c.args.view.now c.args.transfer.now c.args.filed.now c.requires.filed c.on_transfer-on_it.result.now c.on_transfer-on_it.ensures
