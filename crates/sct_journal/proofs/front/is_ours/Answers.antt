-- The header is taken off, or is not there.
use Rattle.sct_journal.proofs.FrontLemmas.{not_ours, ours_by, stripped}
use Rattle.sct_journal.proofs.front.is_ours.Goals as goal

pub returns-in_default-strip_prefix : goal.returns-in_default-strip_prefix
returns-in_default-strip_prefix c =
    not_ours c.args.header.now c.args.file.now c.in-Some.bytes.now c.in-Some.gate.now c.in-Some.ensures.cases.0 c.in_default-strip_prefix.ensures.cases

pub returns : goal.returns
returns c =
    let cases = c.in-Some-strip_prefix.ensures.cases in
    ours_by c.args.header.now c.args.file.now c.in-Some.bytes.now c.in-Some-strip_prefix.rest.now c.in-Some.gate.now c.starts_with.result
    c.in-Some.ensures.cases.0 c.if-gate-ne-OPEN.false
    (stripped c.args.header.now c.in-Some.bytes.now c.in-Some-strip_prefix.rest.now cases.0 cases.1)
    c.starts_with.ensures.value
