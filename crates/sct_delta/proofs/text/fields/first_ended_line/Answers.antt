-- The line up to the first line feed.
use Rattle.std.proofs.Common.{sym}
use Rattle.sct_delta.proofs.TextLemmas.{line_to_feed, no_line_ended}
use Rattle.sct_delta.proofs.text.fields.first_ended_line.Goals as goal

pub returns-in-Some-clause-lines : goal.returns-in-Some-clause-lines
returns-in-Some-clause-lines c =
    rw (c.split_at.ensures.front, c.split_at-in-Some.ensures.back)
    (line_to_feed c.args.bytes.now c.in-Some.at (sym c.in-Some.ensures.first))

pub returns-in-None-clause-lines : goal.returns-in-None-clause-lines
returns-in-None-clause-lines c = no_line_ended c.args.bytes.now 0 (sym c.in-None.ensures.first)
