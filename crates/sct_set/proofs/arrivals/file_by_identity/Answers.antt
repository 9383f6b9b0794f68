-- The list at the message's identity gains it.
use Rattle.std.proofs.Common.{ap, ◌∙◌}
use Rattle.sct_message.specs.Keys.{identity_of}
use Rattle.sct_message.specs.Order.{same_identity}
use Rattle.sct_set.proofs.IndexLemmas.{on_err, IsIndexBy-filed, IsIndexBy-kept}
use Rattle.sct_set.proofs.arrivals.file_by_identity.Goals as goal

pub returns-clause-ok : goal.returns-clause-ok
returns-clause-ok c ds indexed =
    IsIndexBy-filed identity_of same_identity _ c.keys_are_ordered.ensures.identities_equal c.args.index.now c.file.new.index _ c.in_ok-handle.handle _ ds c.in_ok-handle.ensures.cases
    (c.identity.ensures ∙ ap identity_of c.deref.ensures) indexed c.in_ok-file.ensures.ok c.file.ensures.no_empty

pub returns-in_err-file-clause-err : goal.returns-in_err-file-clause-err
returns-in_err-file-clause-err c =
    on_err c.from_residual-in_err-file.result
    (λ ds indexed. IsIndexBy-kept identity_of same_identity _ c.keys_are_ordered.ensures.identities_equal c.args.index.now c.file.new.index ds indexed c.in_err-file.ensures.err c.file.ensures.no_empty)
