-- The line up to the first line feed, or to the end.
use Rattle.std.proofs.Common.{sym}
use Rattle.sct_lines.proofs.LineLemmas.{line_to_feed, line_to_end}
use Rattle.sct_lines.proofs.lines.front_line.Goals as goal

pub returns-in-Some-clause-lines : goal.returns-in-Some-clause-lines
returns-in-Some-clause-lines c =
    rw (c.split_at.ensures.front, c.split_at-in-Some.ensures.back)
    (line_to_feed c.args.text.now c.in-Some.at (sym c.in-Some.ensures.first))

pub returns-in-None-clause-lines : goal.returns-in-None-clause-lines
returns-in-None-clause-lines c =
    rw (c.split_at-in-None.ensures.front, c.split_at-in-None.ensures.back)
    (line_to_end c.args.text.now c.requires (sym c.in-None.ensures.first))
