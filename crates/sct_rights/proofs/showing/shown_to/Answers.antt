-- A message on a transfer that is theirs follows the rules as it is shown.
use Rattle.std.proofs.Common.{◌≡◌, ◌∙◌, ap, rules, subst, true, None}
use Rattle.sct_message.specs.Rules.{first_broken_rule}
use Rattle.sct_message.specs.Transfers.{is_on}
use Rattle.sct_message.specs.declared.draft.Draft.{Draft}
use Rattle.sct_message.specs.declared.draft.Draft.TheVariants as draft
use Rattle.sct_rights.specs.Shown.{shown_to}
use Rattle.sct_rights.proofs.RuleLemmas.{shown_follows}
use Rattle.sct_rights.proofs.showing.shown_to.Goals as goal

pub shown_recall-requires-clause-rules : goal.shown_recall-requires-clause-rules
shown_recall-requires-clause-rules c =
    let same : c.draft.result.now ≡ draft.CancellationRequest c.deref-3.result.now = search rules in
    let on : is_on c.args.transfer.now c.draft.result.now ≡ true = ap (is_on c.args.transfer.now) (c.draft.ensures.elements ∙ c.deref.ensures) ∙ c.requires.on in
    subst (λ (d : Draft). first_broken_rule (shown_to c.args.banks.now c.args.view.now d) ≡ None) same
    (shown_follows c.args.banks.now c.args.view.now c.args.transfer.now c.requires.theirs c.draft.result.now on c.draft.ensures.rules)
