-- The view has the messages of the archive.
use Rattle.std.proofs.Common.{◌≡◌, subst}
use Rattle.std.specs.Prelude.{IfOk}
use Rattle.sct_set.specs.Contents.{Contents}
use Rattle.sct_view.specs.StatusText.{status_text_of}
use Rattle.sct_view.specs.TotalsText.{totals_text_of}
use Rattle.sct_world.proofs.answers.answers_of.Goals as goal

pub returns-clause-statuses : goal.returns-clause-statuses
returns-clause-statuses c =
    subst (λ (s : Contents). IfOk c.texts_of.result (λ answers. answers.statuses.items ≡ status_text_of s)) c.in_ok-view.ensures c.texts_of.ensures.statuses

pub returns-clause-totals : goal.returns-clause-totals
returns-clause-totals c =
    subst (λ (s : Contents). IfOk c.texts_of.result (λ answers. answers.totals.items ≡ totals_text_of s)) c.in_ok-view.ensures c.texts_of.ensures.totals
