-- The messages of an archive are filed by transfer, and the cases of these transfers make its tables.
use Rattle.std.proofs.Common.{◌≡◌, ◌∙◌, ap, map, subst}
use Rattle.std.specs.Prelude.{IfOk}
use Rattle.indexmap.specs.IndexMap.{keys}
use Rattle.sct_message.specs.Sets.{messages_in}
use Rattle.sct_message.specs.declared.keys.TransferKey.{TransferKey}
use Rattle.sct_view.specs.Changes.{change_in, changes_of}
use Rattle.sct_view.specs.Filed.{IsFiled}
use Rattle.sct_view.specs.Kept.{case_at}
use Rattle.sct_view.proofs.ChangeLemmas.{cases_built}
use Rattle.sct_view.proofs.EntryLemmas.{filed_keys}
use Rattle.sct_view.proofs.TotalsLemmas.{Cases}
use Rattle.sct_view.proofs.build.tables_of.Goals as goal

pub planned_in_turn-requires : goal.planned_in_turn-requires
planned_in_turn-requires c = (messages_in c.messages.result.now, c.messages.ensures.held, c.in_ok-index.ensures)

pub returns : goal.returns
returns c =
    let filed : IsFiled c.args.archive.now c.in_ok-index.index = (messages_in c.messages.result.now, c.messages.ensures.held, c.in_ok-index.ensures) in
    let planned = c.in_ok-planned.ensures ∙ ap (changes_of c.args.archive.now) (c.as_slice.ensures ∙ c.keys.ensures.rest) in
    subst (λ (cases : Cases). IfOk c.of.result (λ tables. (t : TransferKey) → case_at tables.cases t ≡ cases t))
    (λ i t. cases_built c.args.archive.now (keys c.in_ok-index.index) (filed_keys c.args.archive.now c.in_ok-index.index filed) (map change_in c.in_ok-planned.planned.items) planned t i) c.of.ensures
