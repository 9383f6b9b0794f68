-- A message is disputed where those of its identity are not all the same.
use Rattle.std.proofs.Common.{ap, ◌∙◌}
use Rattle.sct_set.specs.Drafts.{drafts_of}
use Rattle.sct_set.proofs.ArchiveLemmas.{disputed-is}
use Rattle.sct_set.proofs.arrivals.Arrivals.disputes.Goals as goal

pub returns : goal.returns
returns c = c.is_another_among.ensures ∙ disputed-is _ _ _ (c.of.ensures ∙ ap (λ i. drafts_of i c.args.self.now) c.identity.ensures)
