-- The header is taken off, or is not there.
use Rattle.std.proofs.Common.{ℕ, List, nat_eq, ap, ◌∙◌}
use Rattle.std.specs.Cmp.Lexicographic.{pointwise}
use Rattle.sct_journal.proofs.FrontLemmas.{not_staged, staged_by, stripped}
use Rattle.sct_journal.proofs.front.is_staged.Goals as goal

pub returns-in_default-strip_prefix : goal.returns-in_default-strip_prefix
returns-in_default-strip_prefix c =
    not_staged c.args.header.now c.args.file.now c.in-Some.bytes.now c.in-Some.field-0-0.now c.in-Some.ensures.cases.0 c.in_default-strip_prefix.ensures.cases

pub returns : goal.returns
returns c =
    let cases = c.in-Some-strip_prefix.ensures.cases in
    staged_by c.args.header.now c.args.file.now c.in-Some.bytes.now c.in-Some-strip_prefix.rest.now c.in-Some.field-0-0.now c.eq.result
    c.in-Some.ensures.cases.0
    (stripped c.args.header.now c.in-Some.bytes.now c.in-Some-strip_prefix.rest.now cases.0 cases.1)
    (c.eq.ensures ∙ ap (λ (l : List ℕ). pointwise nat_eq c.in-Some-strip_prefix.rest.now l) c.as_slice.ensures)
