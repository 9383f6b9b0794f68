-- One line more is written, and it is read again.
use Rattle.std.proofs.Common.{◌≡◌, ℕ, ◌+◌, ◌++◌, ◌∷◌, [], All, take, subst, sym, ◌∙◌, ap, add-one, arith}
use Rattle.std.proofs.lemmas.Grind.{common_steps}
use Rattle.std.proofs.lemmas.List.Elements.{All-push}
use Rattle.std.proofs.Math.Seq.{take-suc}
use Rattle.sct_set.specs.Archive.{IsReadAgain}
use Rattle.sct_set.proofs.text.push_all.Goals as goal

pub loop-line-preserved : goal.loop-line-preserved
loop-line-preserved c =
    let longer : take (c.loop-line.line-index + 1) c.args.lines.now ≡ take c.loop-line.line-index c.args.lines.now ++ (c.line-item.result ∷ []) =
    ap (λ (n : ℕ). take n c.args.lines.now) (add-one c.loop-line.line-index)
    ∙ take-suc c.args.lines.now c.loop-line.line-index c.line-item.result c.loop-line-test.true
    ∙ ap (λ line. take c.loop-line.line-index c.args.lines.now ++ (line ∷ [])) (sym c.line-item.is) in
    record {
      text = grind (arith, common_steps);
      again = subst (λ ds. All IsReadAgain ds) (sym longer)
          (All-push IsReadAgain _ c.line-item.result c.loop-line.invariant.again c.text.ensures.again);
    }
