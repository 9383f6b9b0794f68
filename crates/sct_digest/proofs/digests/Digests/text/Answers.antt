-- The lines of all origins are written.
use Rattle.std.proofs.Common.{◌≡◌, ◌∙◌, ap, arith, ℕ}
use Rattle.sct_digest.specs.Digests.{digests_text, lines_to}
use Rattle.sct_digest.proofs.digests.Digests.text.Goals as goal

pub returns-clause-text : goal.returns-clause-text
unfolding digests_text
returns-clause-text c =
    let last : c.loop-before.before ≡ 1024 = omega (arith, c.loop-before-test.false, c.loop-before.auto.before-end) in
    c.loop-before.invariant.text ∙ ap (λ (n : ℕ). lines_to n c.args.core.now.arrivals) last
