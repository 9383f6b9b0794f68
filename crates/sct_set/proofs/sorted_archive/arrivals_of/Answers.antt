-- What is added to no arrivals is all that there is.
use Rattle.std.proofs.Common.{◌∙◌, ap}
use Rattle.std.specs.FinSet as set
use Rattle.sct_set.specs.Contents.{contents_of}
use Rattle.sct_set.specs.Drafts.{drafts_in}
use Rattle.sct_set.proofs.ContentsLemmas.{HasNoRepeat-none, union-of_none}
use Rattle.sct_set.proofs.sorted_archive.arrivals_of.Goals as goal

pub add_all-requires : goal.add_all-requires
add_all-requires c = rw c.new-arrivals.ensures HasNoRepeat-none

pub returns : goal.returns
returns c =
    c.in_ok-add_all.ensures.ok
    ∙ ap (λ ds. set.union (contents_of ds) (contents_of (drafts_in c.args.messages.now))) c.new-arrivals.ensures
    ∙ union-of_none (contents_of (drafts_in c.args.messages.now))
