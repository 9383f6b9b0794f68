-- A line more.
use Rattle.std.proofs.Common.{ℕ, List, [], ◌∷◌, ◌++◌, ◌∙◌, ap}
use Rattle.sct_journal.proofs.LineLemmas.{pushed_gated, pushed_more}
use Rattle.sct_journal.proofs.batch.Batch.push.Goals as goal

pub invariant_of-self : goal.invariant_of-self
invariant_of-self c = pushed_gated c.self.inside.text.items c.push_line.new.text.items c.args.line.now c.self.invariant c.in-Ok.ensures.added c.requires

pub returns-in-Ok-clause-added : goal.returns-in-Ok-clause-added
returns-in-Ok-clause-added c =
    pushed_more c.self.inside.text.items c.push_line.new.text.items c.args.line.now c.self.invariant c.in-Ok.ensures.added c.requires
    ∙ ap (λ (l : List (List ℕ)). l ++ c.args.line.now ∷ []) c.self.view_is
