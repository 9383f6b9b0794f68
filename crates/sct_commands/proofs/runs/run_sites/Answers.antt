-- What a run answers by what its sites came to.
use Rattle.std.proofs.Common.{◌≡◌, arith, length, subst}
use Rattle.std.specs.Prelude.{IfOk, string_bytes}
use Rattle.std.proofs.lemmas.List.{length-map}
use Rattle.sct_view.specs.StatusText.{status_text_of}
use Rattle.sct_workers.specs.Files.{bytes_of, refused_in, told_from}
use Rattle.sct_workers.proofs.FilledMore.{ok_so}
use Rattle.sct_commands.specs.Runs.{set_of_all}
use Rattle.sct_commands.proofs.AnswerLemmas.{IsAnswerOf, answer_ends, answer_is}
use Rattle.sct_commands.proofs.runs.run_sites.Goals as goal

pub returns-clause-status : goal.returns-clause-status
returns-clause-status g c =
    let mapped = length-map c.deref.result.now (λ input. input.items) in
    let many : length c.deref.result.now ≡ length (bytes_of c.deref.result.now) = omega (arith, mapped) in
    subst (λ items. IfOk c.settle_filled.result (λ answer. answer.status.items ≡ status_text_of (set_of_all (bytes_of items)))) c.deref.ensures.value
    (ok_so (IsAnswerOf (bytes_of c.deref.result.now)) (λ answer. answer.status.items ≡ status_text_of (set_of_all (bytes_of c.deref.result.now))) c.settle_filled.result (λ answer is. is.status)
    (answer_is (length c.deref.result.now) (bytes_of c.deref.result.now) c.fill-sites.result c.settle_filled.result many c.fill-sites.ensures.filled c.fill-sites.ensures.some
    c.settle_filled.ensures.first c.settle_filled.ensures.settled))

pub returns-clause-told : goal.returns-clause-told
returns-clause-told g c =
    let mapped = length-map c.deref.result.now (λ input. input.items) in
    let many : length c.deref.result.now ≡ length (bytes_of c.deref.result.now) = omega (arith, mapped) in
    subst (λ items. IfOk c.settle_filled.result (λ answer. string_bytes answer.told ≡ told_from 1 (bytes_of items))) c.deref.ensures.value
    (ok_so (IsAnswerOf (bytes_of c.deref.result.now)) (λ answer. string_bytes answer.told ≡ told_from 1 (bytes_of c.deref.result.now)) c.settle_filled.result (λ answer is. is.told)
    (answer_is (length c.deref.result.now) (bytes_of c.deref.result.now) c.fill-sites.result c.settle_filled.result many c.fill-sites.ensures.filled c.fill-sites.ensures.some
    c.settle_filled.ensures.first c.settle_filled.ensures.settled))

pub returns-clause-refused : goal.returns-clause-refused
returns-clause-refused g c =
    let mapped = length-map c.deref.result.now (λ input. input.items) in
    let many : length c.deref.result.now ≡ length (bytes_of c.deref.result.now) = omega (arith, mapped) in
    subst (λ items. IfOk c.settle_filled.result (λ answer. answer.refused ≡ refused_in (bytes_of items))) c.deref.ensures.value
    (ok_so (IsAnswerOf (bytes_of c.deref.result.now)) (λ answer. answer.refused ≡ refused_in (bytes_of c.deref.result.now)) c.settle_filled.result (λ answer is. is.refused)
    (answer_is (length c.deref.result.now) (bytes_of c.deref.result.now) c.fill-sites.result c.settle_filled.result many c.fill-sites.ensures.filled c.fill-sites.ensures.some
    c.settle_filled.ensures.first c.settle_filled.ensures.settled))

pub returns-clause-ends : goal.returns-clause-ends
returns-clause-ends g c =
    answer_ends (g.G.Gate.may_hold c.args.gate.now) c.fill-sites.result c.settle_filled.result c.fill-sites.ensures.ends c.settle_filled.ensures.first c.settle_filled.ensures.then
