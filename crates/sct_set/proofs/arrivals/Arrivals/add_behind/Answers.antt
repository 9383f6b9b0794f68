-- A message that is not the first of its identity is held where it is among those of its digest.
use Rattle.std.proofs.Common.{ap, sym, true, false, ◌∙◌}
use Rattle.std.specs.Arc.{arc_value}
use Rattle.std.specs.List.{list_any}
use Rattle.sct_message.specs.Keys.{identity_of}
use Rattle.sct_message.specs.Order.{same_identity, same_message}
use Rattle.sct_set.specs.Digest.{digest_of}
use Rattle.sct_set.specs.Drafts.{against_in, drafts_alike}
use Rattle.sct_set.proofs.ArchiveLemmas.{added-absent, added-held, against-is, held-behind}
use Rattle.sct_set.proofs.ContentsLemmas.{any_items, with_new-absent, with_new-held}
use Rattle.sct_set.proofs.arrivals.Arrivals.add_behind.Goals as goal

pub returns-then-is_among-clause-answer : goal.returns-then-is_among-clause-answer
returns-then-is_among-clause-answer c =
    let among = c.is_among.ensures
    ∙ ap (λ d. list_any (λ held. same_message (arc_value held) d) c.of_digest.result.now) c.deref.ensures
    ∙ against-is _ _ (arc_value c.args.message.now) (c.of_digest.ensures ∙ ap (λ d. drafts_alike (digest_of d) (against_in c.args.self.now)) c.deref-2.ensures) in
    added-held _ _ (held-behind _ _ true c.requires.other (sym among ∙ c.if-is_among.true))

pub returns-then-is_among-clause-ok : goal.returns-then-is_among-clause-ok
returns-then-is_among-clause-ok c =
    let among = c.is_among.ensures
    ∙ ap (λ d. list_any (λ held. same_message (arc_value held) d) c.of_digest.result.now) c.deref.ensures
    ∙ against-is _ _ (arc_value c.args.message.now) (c.of_digest.ensures ∙ ap (λ d. drafts_alike (digest_of d) (against_in c.args.self.now)) c.deref-2.ensures) in
    with_new-held _ _ (held-behind _ _ true c.requires.other (sym among ∙ c.if-is_among.true))

pub returns-clause-answer : goal.returns-clause-answer
returns-clause-answer c =
    let among = c.is_among.ensures
    ∙ ap (λ d. list_any (λ held. same_message (arc_value held) d) c.of_digest.result.now) c.deref.ensures
    ∙ against-is _ _ (arc_value c.args.message.now) (c.of_digest.ensures ∙ ap (λ d. drafts_alike (digest_of d) (against_in c.args.self.now)) c.deref-2.ensures) in
    added-absent _ _ true (held-behind _ _ false c.requires.other (sym among ∙ c.if-is_among.false))
    (sym (any_items (λ d. same_identity (identity_of d) (identity_of (arc_value c.args.message.now))) c.args.self.now ∙ c.requires.found))

pub returns-clause-ok : goal.returns-clause-ok
returns-clause-ok c =
    let among = c.is_among.ensures
    ∙ ap (λ d. list_any (λ held. same_message (arc_value held) d) c.of_digest.result.now) c.deref.ensures
    ∙ against-is _ _ (arc_value c.args.message.now) (c.of_digest.ensures ∙ ap (λ d. drafts_alike (digest_of d) (against_in c.args.self.now)) c.deref-2.ensures) in
    c.in_ok-push_against.ensures.ok ∙ with_new-absent _ _ (held-behind _ _ false c.requires.other (sym among ∙ c.if-is_among.false))
