-- Blank lines are skipped, and the first other one is the first line.
use Rattle.std.proofs.Common.{◌+◌, arith, sym, ◌∙◌}
use Rattle.sct_lines.proofs.LineLemmas.{lines_left_none}
use Rattle.sct_script.proofs.ScriptLemmas.{not_skipped, skipped}
use Rattle.sct_script.proofs.script.first_written_line.Goals as goal

pub returns-then-not-is_blank_line-clause-lines : goal.returns-then-not-is_blank_line-clause-lines
returns-then-not-is_blank_line-clause-lines c =
    not_skipped (c.loop-line.number + 1) c.in-Some.line.now c.in-Some.after.now c.loop-line.rest.now _ c.in-Some.ensures.lines
    (sym c.is_blank_line.ensures ∙ c.if-not-is_blank_line.true)
    c.loop-line.invariant.left

pub loop-line-preserved : goal.loop-line-preserved
loop-line-preserved c = record {
  counted = omega (arith, c.in-Some.ensures.shorter);
  left =
      skipped (c.loop-line.number + 1) c.in-Some.line.now c.in-Some.after.now c.loop-line.rest.now _ c.in-Some.ensures.lines
      (sym c.is_blank_line.ensures ∙ c.if-not-is_blank_line.false)
      c.loop-line.invariant.left;
}

pub returns-clause-lines : goal.returns-clause-lines
returns-clause-lines c =
    sym c.loop-line.invariant.left ∙ lines_left_none _ c.loop-line.rest.now c.in_default.ensures.none
