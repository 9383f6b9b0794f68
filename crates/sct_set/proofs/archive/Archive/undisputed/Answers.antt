-- The message of an identity that nothing contradicts.
use Rattle.std.proofs.Common.{◌∙◌, ap, sym}
use Rattle.std.specs.Option.{option_copied}
use Rattle.sct_set.specs.Contradictions.{is_disputed}
use Rattle.sct_set.proofs.UndisputedLemmas.{disputed_one, none_of_it, sole_one}
use Rattle.sct_set.proofs.archive.Archive.undisputed.Goals as goal

pub returns-in_default : goal.returns-in_default
returns-in_default c =
    none_of_it _ _ _ _ c.self.view_is c.of.ensures (sym (ap option_copied c.in_default.is) ∙ c.first.ensures.value)

pub returns-then-disputes : goal.returns-then-disputes
returns-then-disputes c =
    disputed_one _ _ _ _ c.self.view_is c.of.ensures c.in-Some.first.now
    (sym (ap option_copied c.in-Some.is) ∙ c.first.ensures.value)
    (ap (is_disputed c.args.self.now) (sym c.deref.ensures) ∙ sym c.disputes.ensures ∙ c.if-disputes.true)

pub returns : goal.returns
returns c =
    sole_one _ _ _ _ c.self.view_is c.of.ensures c.in-Some.first.now
    (sym (ap option_copied c.in-Some.is) ∙ c.first.ensures.value)
    (ap (is_disputed c.args.self.now) (sym c.deref.ensures) ∙ sym c.disputes.ensures ∙ c.if-disputes.false)
