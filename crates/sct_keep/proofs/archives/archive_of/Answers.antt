-- What is added to no message is all that is held.
use Rattle.std.proofs.Common.{◌∙◌, ap}
use Rattle.std.specs.FinSet as set
use Rattle.sct_message.specs.Sets.{MessageSet, messages_in}
use Rattle.sct_set.specs.Contents.{contents_of}
use Rattle.sct_set.proofs.ContentsLemmas.{union-of_none}
use Rattle.sct_keep.proofs.archives.archive_of.Goals as goal

pub returns : goal.returns
returns c =
    c.in_ok-add_all.ensures.ok
    ∙ ap (λ (s : MessageSet). set.union s (contents_of (messages_in c.args.messages.now))) c.new-archive.ensures
    ∙ union-of_none (contents_of (messages_in c.args.messages.now))
