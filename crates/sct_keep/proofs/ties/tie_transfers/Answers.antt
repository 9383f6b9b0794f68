-- One transfer more.
use Rattle.std.proofs.Common.{◌<◌, sym, subst, arith, length, take, inl, inr}
use Rattle.std.proofs.lemmas.List.{take_all}
use Rattle.sct_message.specs.Keys.{transfers_of}
use Rattle.sct_view.specs.Kept.{same_key}
use Rattle.sct_view.proofs.SlotLemmas.{one_read}
use Rattle.sct_keep.specs.Ties.{IsTiedBy}
use Rattle.sct_keep.proofs.TieLemmas.{then_tied, tied_nowhere}
use Rattle.sct_keep.proofs.ties.tie_transfers.Goals as goal

pub loop-i-init : goal.loop-i-init
loop-i-init c = tied_nowhere same_key c.args.number c.args.first.now c.args.parents.now c.requires.parents

pub tie_by-requires-clause-firsts : goal.tie_by-requires-clause-firsts
tie_by-requires-clause-firsts c = λ k i h.
    let s = c.loop-i.invariant in
    elim (s.come k i h) as (λ _. i < length c.loop-i.parents) [
      | inl old ↦ subst (λ n. i < n) (sym s.count) (c.requires.firsts k i old)
      | inr e ↦ subst (λ n. i < n) (sym s.count) (subst (λ j. j < length c.args.parents.now) (sym e.1) c.requires.number)
    ]

pub loop-i-preserved : goal.loop-i-preserved
loop-i-preserved c =
    let ts = transfers_of c.args.message.now in
    subst (λ ks. IsTiedBy same_key c.args.first.now c.tie_by.new.first c.args.parents.now c.tie_by.new.parents ks c.args.number)
    (sym (one_read ts c.loop-i.i c.in-Some.transfer (sym c.in-Some.ensures)))
    (then_tied same_key c.args.number c.args.first.now c.loop-i.first c.tie_by.new.first c.args.parents.now c.loop-i.parents c.tie_by.new.parents
    (take c.loop-i.i ts) c.in-Some.transfer c.loop-i.invariant c.in_ok-tie_by.ensures)

pub returns : goal.returns
returns c =
    let many = c.transfer_count-i-end.ensures.transfers in
    let past = c.loop-i-test.false in
    subst (λ ks. IsTiedBy same_key c.args.first.now c.loop-i.first c.args.parents.now c.loop-i.parents ks c.args.number)
    (take_all c.loop-i.i (transfers_of c.args.message.now) (omega (arith, many, past))) c.loop-i.invariant
