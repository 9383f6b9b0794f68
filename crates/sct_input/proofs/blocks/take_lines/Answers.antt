-- The lines that are ended are read behind those before, and the other bytes are left.
use Rattle.std.proofs.Common.{◌∙◌, ap, subst, sym, take}
use Rattle.sct_lines.specs.LineLaws.{IsOfWholeLines}
use Rattle.sct_input.proofs.BlockLemmas.{bytes_on, whole_on}
use Rattle.sct_input.proofs.blocks.take_lines.Goals as goal

pub returns-clause-whole : goal.returns-clause-whole
returns-clause-whole g c =
    let count = c.whole_lines-count.result in
    let ended = ap (take count) c.deref.ensures.value ∙ sym (c.split_at.ensures.front ∙ ap (take count) c.deref-2.ensures.value) in
    whole_on c.args.lines c.split_at.result.0.now c.in_ok-read.read (subst IsOfWholeLines ended c.whole_lines-count.ensures.lines) c.in_ok-read.ensures.ended

pub returns-clause-bytes : goal.returns-clause-bytes
returns-clause-bytes g c = λ whole.
    let count = c.whole_lines-count.result in
    bytes_on c.args.lines c.split_at.result.0.now c.in_ok-read.read c.args.text.now.items c.remove_front.new.bytes.items count
    (c.split_at.ensures.front ∙ ap (take count) c.deref-2.ensures.value) c.remove_front.ensures (c.in_ok-read.ensures.text whole)
