-- The first line feed is the first byte that is one.
use Rattle.sct_lines.proofs.FeedLemmas.{first_byte_place}
use Rattle.sct_lines.proofs.LineLemmas.{is_feed}
use Rattle.sct_lines.proofs.lines.line_feed.Goals as goal

pub returns-clause-first : goal.returns-clause-first
returns-clause-first c = first_byte_place is_feed c.args.bytes.now c.memchr.result c.memchr.ensures
