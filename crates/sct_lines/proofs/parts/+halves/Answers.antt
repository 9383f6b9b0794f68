-- What is read of both halves is what is read of the whole.
use Rattle.std.proofs.Common.{◌+◌, ◌<◌, subst, arith, length, rules}
use Rattle.sct_lines.specs.Parts.{IsPartOf}
use Rattle.sct_lines.proofs.PartLemmas.{halves_few, halves_read_at}
use Rattle.sct_lines.proofs.parts.+halves.Goals as goal

pub append-requires : goal.append-requires
append-requires g t c =
    let few : c.args.counted + length c.args.text.now < 18446744073709551616 = search rules in
    let first = rw c.in_ok-read.was at c.join-first.ensures.first in
    let second = rw c.in_ok-second.was at c.join-first.ensures.second in
    halves_few c.args.label.now c.args.counted c.args.text.now c.args.from c.in-Some.at _ _ (omega (arith, c.in-Some.ensures.from)) c.in-Some.ensures.within few
    (subst (λ f. IsPartOf c.args.label.now c.args.counted f c.args.from c.in_ok-read.read) c.split_at.ensures.front first) second

pub returns : goal.returns
returns g t c =
    let first = rw c.in_ok-read.was at c.join-first.ensures.first in
    let second = rw c.in_ok-second.was at c.join-first.ensures.second in
    let added = c.in_ok-append.ensures in
    halves_read_at c.args.label.now c.args.counted c.args.text.now c.args.from c.in-Some.at _ _ _ (omega (arith, c.in-Some.ensures.from)) c.in-Some.ensures.within c.in-Some.ensures.feed
    (subst (λ f. IsPartOf c.args.label.now c.args.counted f c.args.from c.in_ok-read.read) c.split_at.ensures.front first) second
    added.messages added.told added.refused added.lines
