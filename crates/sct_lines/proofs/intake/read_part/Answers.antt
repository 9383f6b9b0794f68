-- One line more, and the end of the part.
use Rattle.std.proofs.Common.{ap, arith, length, rules}
use Rattle.sct_lines.specs.Lines.{messages_among, refusals_among, told_after}
use Rattle.sct_lines.proofs.LineLemmas.{count_end, count_lines_end, end, messages_by_line, next_count, next_line, refusals_by_line, told_by_line}
use Rattle.sct_lines.proofs.intake.read_part.Goals as goal

pub loop-line-preserved : goal.loop-line-preserved
loop-line-preserved c = record {
  before = search rules;
  counted = omega (arith, c.in-Some.ensures.shorter);
  lines = omega (arith, ap length c.in-Some.ensures.lines, c.loop-line.invariant.lines);
  messages =
      next_line messages_among messages_by_line _ _ _ c.args.before.now c.loop-line.before c.loop-line.lines _ _ _ c.loop-line.invariant.before c.in-Some.ensures.lines
      c.loop-line.invariant.messages c.in_ok-take.ensures.messages;
  told =
      next_line (λ lines. told_after c.args.front.now (refusals_among lines)) (told_by_line c.args.front.now) _ _ _ c.args.before.now c.loop-line.before c.loop-line.lines _ _ _
      c.loop-line.invariant.before c.in-Some.ensures.lines c.loop-line.invariant.told c.in_ok-take.ensures.told;
  refused =
      next_count refusals_among refusals_by_line _ _ _ c.args.before.now c.loop-line.before c.loop-line.lines _ _ _ c.loop-line.invariant.before c.in-Some.ensures.lines
      c.loop-line.invariant.refused c.in_ok-take.ensures.refused;
}

pub returns : goal.returns
returns c = record {
  messages = end messages_among messages_by_line _ _ _ c.loop-line.rest.now c.in_default.ensures.none c.loop-line.invariant.messages;
  told =
      end (λ lines. told_after c.args.front.now (refusals_among lines)) (told_by_line c.args.front.now) _ _ _ c.loop-line.rest.now c.in_default.ensures.none
      c.loop-line.invariant.told;
  refused = count_end refusals_among refusals_by_line _ _ _ c.loop-line.rest.now c.in_default.ensures.none c.loop-line.invariant.refused;
  lines = count_lines_end _ _ c.loop-line.rest.now c.in_default.ensures.none c.loop-line.invariant.lines;
}
