-- The list at the message's digest loses it, where it is not the first of its identity.
use Rattle.std.proofs.Common.{sym, subst, nat_eq, refl, ◌∙◌}
use Rattle.sct_set.specs.Digest.{digest_of}
use Rattle.sct_set.specs.Drafts.{against_in, IsIndexBy}
use Rattle.sct_set.proofs.AgainstLemmas.{against_in-first, against_in-found}
use Rattle.sct_set.proofs.IndexLemmas.{IsIndexBy-unfiled}
use Rattle.sct_set.proofs.arrivals.unfile_by_digest.Goals as goal

pub returns-then-against : goal.returns-then-against
returns-then-against c ds is indexed =
    IsIndexBy-unfiled digest_of nat_eq _ (λ j k. refl) c.args.index.now c.unfile.new.index _ c.args.message.now (against_in ds) c.digest.ensures
    (subst (λ xs. IsIndexBy digest_of nat_eq c.args.index.now xs) (against_in-found ds c.args.message.now (sym is ∙ c.if-against.true)) indexed)
    c.unfile.ensures.taken c.unfile.ensures.no_empty

pub returns-else-against : goal.returns-else-against
returns-else-against c ds is indexed =
    subst (λ xs. IsIndexBy digest_of nat_eq c.args.index.now xs) (against_in-first ds c.args.message.now (sym is ∙ c.if-against.false)) indexed
