-- Each message is tied by its identity and by each of its transfers.
use Rattle.std.proofs.Common.{◌≡◌, ◌∙◌, ◌<◌, sym, subst, arith, length, Some, [], ◌∷◌}
use Rattle.std.proofs.lemmas.List.{length-map}
use Rattle.std.specs.List.{slice_get}
use Rattle.sct_message.specs.Keys.{transfers_of}
use Rattle.sct_message.specs.Sets.{messages_in}
use Rattle.sct_message.specs.declared.draft.Draft.{Draft}
use Rattle.sct_view.specs.Kept.{same_key}
use Rattle.sct_keep.specs.Ties.{IsTiedBy, identities_of, same_id}
use Rattle.sct_keep.proofs.TieLemmas.{AreTiedBelow, all_first, all_tied, got_draft, one_message, within_filed}
use Rattle.sct_keep.proofs.ties.groups_of.Goals as goal

pub tie_by-requires-clause-firsts : goal.tie_by-requires-clause-firsts
tie_by-requires-clause-firsts c =
    let s = c.loop-number.invariant in
    within_filed same_id identities_of (messages_in c.args.messages.now) c.loop-number.number c.loop-number.by_identity c.loop-number.trees s.count s.identities

pub tie_transfers-requires-clause-firsts : goal.tie_transfers-requires-clause-firsts
tie_transfers-requires-clause-firsts c = λ k i h.
    let s = c.loop-number.invariant in
    subst (λ n. i < n) (sym c.in_ok-tie_by.ensures.count)
    (within_filed same_key transfers_of (messages_in c.args.messages.now) c.loop-number.number c.loop-number.first c.loop-number.trees s.count s.transfers k i h)

pub loop-number-preserved : goal.loop-number-preserved
loop-number-preserved c =
    let ms = messages_in c.args.messages.now in
    let n = c.loop-number.number in
    let m = c.deref.result.now in
    let at : slice_get ms n ≡ Some m = got_draft c.args.messages.now n c.index-messages-number.result m c.loop-number-test.true c.index-messages-number.is c.deref.ensures in
    let by_identity : IsTiedBy same_id c.loop-number.by_identity c.tie_by.new.first c.loop-number.trees c.tie_by.new.parents (identities_of m) n =
    subst (λ k. IsTiedBy same_id c.loop-number.by_identity c.tie_by.new.first c.loop-number.trees c.tie_by.new.parents (k ∷ []) n) c.identity.ensures c.in_ok-tie_by.ensures in
    let by_transfers : IsTiedBy same_key c.loop-number.first c.tie_transfers.new.first c.tie_by.new.parents c.tie_transfers.new.parents (transfers_of m) n =
    subst (λ (d : Draft). IsTiedBy same_key c.loop-number.first c.tie_transfers.new.first c.tie_by.new.parents c.tie_transfers.new.parents (transfers_of d) n)
    (c.deref-in-loop-number.ensures ∙ sym c.deref.ensures) c.in_ok-tie_transfers.ensures in
    one_message ms n m at c.loop-number.by_identity c.tie_by.new.first c.loop-number.first c.tie_transfers.new.first
    c.loop-number.trees c.tie_by.new.parents c.tie_transfers.new.parents by_identity by_transfers c.loop-number.invariant

pub returns-clause-groups : goal.returns-clause-groups
returns-clause-groups c =
    let ms = messages_in c.args.messages.now in
    let long : length ms ≡ length c.args.messages.now = length-map _ _ in
    let past = c.loop-number-test.false in
    let end = c.loop-number.auto.number-end in
    let e : c.loop-number.number ≡ length ms = omega (arith, long, past, end) in
    all_tied ms c.loop-number.by_identity c.loop-number.first c.loop-number.trees
    (subst (λ k. AreTiedBelow ms k c.loop-number.by_identity c.loop-number.first c.loop-number.trees) e c.loop-number.invariant)
    c.in_ok-labels.labels.items c.in_ok-labels.ensures

pub returns-clause-first : goal.returns-clause-first
returns-clause-first c =
    let ms = messages_in c.args.messages.now in
    let long : length ms ≡ length c.args.messages.now = length-map _ _ in
    let past = c.loop-number-test.false in
    let end = c.loop-number.auto.number-end in
    let e : c.loop-number.number ≡ length ms = omega (arith, long, past, end) in
    all_first ms c.loop-number.by_identity c.loop-number.first c.loop-number.trees
    (subst (λ k. AreTiedBelow ms k c.loop-number.by_identity c.loop-number.first c.loop-number.trees) e c.loop-number.invariant)
