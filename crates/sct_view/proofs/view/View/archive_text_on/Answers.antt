-- The messages of a case are those on its transfer.
use Rattle.std.proofs.Common.{◌∙◌, ap}
use Rattle.std.specs.FinSet as set
use Rattle.sct_message.specs.Sets.{messages_in}
use Rattle.sct_set.specs.Archive.{archive_text_of}
use Rattle.sct_set.specs.Contents.{contents_of}
use Rattle.sct_view.proofs.OnLemmas.{gathered_on}
use Rattle.sct_view.proofs.view.View.archive_text_on.Goals as goal

pub returns : goal.returns
returns c =
    c.in_ok-text.ensures.text
    ∙ ap archive_text_of
    (c.in_ok-add_all.ensures.ok
    ∙ (λ i. set.union (c.new-archive.ensures i) (contents_of ((ap messages_in c.deref.ensures.value ∙ c.in_ok-gather.ensures) i)))
    ∙ gathered_on c.args.self.now c.args.transfer.now)
