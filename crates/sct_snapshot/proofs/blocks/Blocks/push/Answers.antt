-- The length of one block more.
use Rattle.std.proofs.Common.{◌≡◌, ◌∙◌, ◌++◌, ap, List, length, arith, length-append}
use Rattle.sct_delta.specs.Entries.{Placed}
use Rattle.sct_snapshot.specs.Blocks.{in_blocks}
use Rattle.sct_snapshot.proofs.BlockLemmas.{blocks_join}
use Rattle.sct_snapshot.proofs.blocks.Blocks.push.Goals as goal

pub invariant_of-self-2 : goal.invariant_of-self-2
invariant_of-self-2 c =
    let old = c.self.inside.blocks.items in
    let all : in_blocks c.push.new.self.items ≡ in_blocks old ++ c.args.entries.now =
    ap in_blocks c.in_ok-push.ensures.items
    ∙ blocks_join old c.in_ok-block.block
    ∙ ap (λ (l : List Placed). in_blocks old ++ l) (ap (λ v. v.items) c.in_ok-block.ensures.ok ∙ c.in_ok-push_copies.ensures ∙ ap (λ (l : List Placed). l ++ c.args.entries.now) c.in_ok-copies.ensures.items) in
    omega (arith, c.self.invariant, ap length all, length-append (in_blocks old) c.args.entries.now)
