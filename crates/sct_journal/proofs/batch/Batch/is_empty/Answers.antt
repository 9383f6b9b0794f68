-- No bytes are no lines.
use Rattle.std.proofs.Common.{ℕ, List, ◌≡◌, ◌==◌, ◌∙◌, ap, arith, length, vec_len}
use Rattle.sct_journal.proofs.LineLemmas.{none_if_empty}
use Rattle.sct_journal.proofs.batch.Batch.is_empty.Goals as goal

pub returns : goal.returns
returns c =
    let bytes : vec_len c.self.inside.text ≡ length c.self.inside.text.items = omega arith in
    c.is_empty.ensures
    ∙ ap (λ n. n == 0) bytes
    ∙ none_if_empty c.self.inside.text.items c.self.invariant
    ∙ ap (λ (l : List (List ℕ)). length l == 0) c.self.view_is
