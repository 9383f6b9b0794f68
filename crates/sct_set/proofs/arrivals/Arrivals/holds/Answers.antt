-- A message is held where it is the first of its identity, or among those that came against another.
use Rattle.std.proofs.Common.{ap, sym, ◌∙◌, ◌||◌}
use Rattle.std.specs.List.{list_any}
use Rattle.std.specs.Option.{option_copied}
use Rattle.sct_message.specs.Order.{same_message}
use Rattle.sct_set.specs.Drafts.{against_in, drafts_of}
use Rattle.sct_set.proofs.ArchiveLemmas.{against-is, held-is, held-not}
use Rattle.sct_set.proofs.arrivals.Arrivals.holds.Goals as goal

pub returns-in_default : goal.returns-in_default
returns-in_default c =
    held-not _ _ _ (c.of.ensures ∙ ap (λ i. drafts_of i c.args.self.now) c.identity.ensures) (sym (ap option_copied c.in_default.is) ∙ c.first.ensures.value)

pub returns-then-eq : goal.returns-then-eq
returns-then-eq c =
    let first = held-is _ _ c.args.message.now c.in-Some.first.now (c.of.ensures ∙ ap (λ i. drafts_of i c.args.self.now) c.identity.ensures) (sym (ap option_copied c.in-Some.is) ∙ c.first.ensures.value) in
    let same = ap (λ d. same_message d c.args.message.now) (sym c.deref.ensures) ∙ sym c.eq.ensures ∙ c.if-eq.true in
    c.if-eq.true ∙ ap (λ b. b || list_any (λ d. same_message d c.args.message.now) (against_in c.args.self.now)) (sym same) ∙ first

pub returns-else-eq : goal.returns-else-eq
returns-else-eq c =
    let first = held-is _ _ c.args.message.now c.in-Some.first.now (c.of.ensures ∙ ap (λ i. drafts_of i c.args.self.now) c.identity.ensures) (sym (ap option_copied c.in-Some.is) ∙ c.first.ensures.value) in
    let other = ap (λ d. same_message d c.args.message.now) (sym c.deref.ensures) ∙ sym c.eq.ensures ∙ c.if-eq.false in
    c.is_among.ensures ∙ against-is _ _ _ c.of_digest.ensures
    ∙ ap (λ b. b || list_any (λ d. same_message d c.args.message.now) (against_in c.args.self.now)) (sym other) ∙ first
