-- All comes to the first site, and from it to each.
use Rattle.std.proofs.Common.{◌≡◌, ◌<◌, sym, ℕ, true, length}
use Rattle.sct_world.specs.Settling.{core_in, are_one_group, AreSettled, IsWhy, HasAll}
use Rattle.sct_world.proofs.KeptLemmas.{group_kept, kept_on, one_group, why_before, settled, on_ok, on_why}
use Rattle.sct_world.proofs.settling.settle.Goals as goal

pub spread-requires-clause-group : goal.spread-requires-clause-group
spread-requires-clause-group c =
    group_kept c.args.cores.now c.gather.new.cores c.in_ok-gather.ensures.kept
    (one_group c.args.cores.now (sym c.if-not-are_one_group.ensures))

pub returns-clause-ok : goal.returns-clause-ok
returns-clause-ok c =
    on_ok c.spread.result ((place : ℕ) → place < length c.gather.new.cores → HasAll (core_in c.gather.new.cores 0) (core_in c.spread.new.cores place))
    (AreSettled c.args.cores.now c.spread.new.cores) c.spread.ensures.ok
    (settled c.args.cores.now c.gather.new.cores c.spread.new.cores c.in_ok-gather.ensures.kept c.in_ok-gather.ensures.ok c.spread.ensures.kept)

pub returns-clause-kept : goal.returns-clause-kept
returns-clause-kept c = kept_on c.args.cores.now c.gather.new.cores c.spread.new.cores c.in_ok-gather.ensures.kept c.spread.ensures.kept

pub returns-clause-why : goal.returns-clause-why
returns-clause-why c =
    on_why c.spread.result (IsWhy c.gather.new.cores) (λ refusal. are_one_group c.args.cores.now ≡ true → IsWhy c.args.cores.now refusal) c.spread.ensures.why
    (λ refusal why one. why_before c.args.cores.now c.gather.new.cores c.in_ok-gather.ensures.kept refusal why)
