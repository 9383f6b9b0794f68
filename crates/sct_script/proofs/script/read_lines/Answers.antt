-- One line more, and the end of the text.
use Rattle.std.proofs.Common.{arith, ◌∙◌}
use Rattle.sct_lines.proofs.LineLemmas.{count_end, count_step, end, step}
use Rattle.sct_script.specs.Scripts.{event_refusals_among, event_refusals_text, happenings_among}
use Rattle.sct_script.proofs.ScriptLemmas.{happenings_by_line, refusals_by_line, told_by_line}
use Rattle.sct_script.proofs.script.read_lines.Goals as goal

pub loop-line-preserved : goal.loop-line-preserved
loop-line-preserved c = record {
  counted = omega (arith, c.in-Some.ensures.shorter);
  sites = c.take.ensures.sites ∙ c.loop-line.invariant.sites;
  events = step happenings_among happenings_by_line _ _ _ _ _ _ _ c.in-Some.ensures.lines c.loop-line.invariant.events c.in_ok-take.ensures.events;
  told =
      step (λ lines. event_refusals_text (event_refusals_among lines)) told_by_line _ _ _ _ _ _ _ c.in-Some.ensures.lines
      c.loop-line.invariant.told c.in_ok-take.ensures.told;
  refused = count_step event_refusals_among refusals_by_line _ _ _ _ _ _ _ c.in-Some.ensures.lines c.loop-line.invariant.refused c.in_ok-take.ensures.refused;
}

pub returns-clause-events : goal.returns-clause-events
returns-clause-events c = end happenings_among happenings_by_line _ _ _ c.loop-line.rest.now c.in_default.ensures.none c.loop-line.invariant.events

pub returns-clause-told : goal.returns-clause-told
returns-clause-told c =
    end (λ lines. event_refusals_text (event_refusals_among lines)) told_by_line _ _ _ c.loop-line.rest.now c.in_default.ensures.none c.loop-line.invariant.told

pub returns-clause-refused : goal.returns-clause-refused
returns-clause-refused c = count_end event_refusals_among refusals_by_line _ _ _ c.loop-line.rest.now c.in_default.ensures.none c.loop-line.invariant.refused
