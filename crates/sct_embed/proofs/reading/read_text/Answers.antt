-- One line more, and the end of the text.
use Rattle.std.proofs.Common.{arith}
use Rattle.sct_lines.proofs.LineLemmas.{end, step}
use Rattle.sct_embed.specs.Reading.{readings_of}
use Rattle.sct_embed.proofs.ReadingLemmas.{readings_by_line}
use Rattle.sct_embed.proofs.reading.read_text.Goals as goal

pub loop-line-preserved : goal.loop-line-preserved
loop-line-preserved c = record {
  counted = omega (arith, c.in-Some.ensures.shorter);
  text = step readings_of readings_by_line _ _ _ _ _ _ _ c.in-Some.ensures.lines c.loop-line.invariant.text c.in_ok-push_line_read.ensures;
}

pub returns : goal.returns
returns c = end readings_of readings_by_line _ _ _ c.loop-line.rest.now c.in_default.ensures.none c.loop-line.invariant.text
