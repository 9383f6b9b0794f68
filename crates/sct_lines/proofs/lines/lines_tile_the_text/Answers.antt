-- The laws of lines.
use Rattle.sct_lines.proofs.LineLawLemmas.{lines_make_the_text, no_line_has_a_feed}
use Rattle.sct_lines.proofs.lines.lines_tile_the_text.Goals as goal

pub returns-clause-whole : goal.returns-clause-whole
returns-clause-whole c = lines_make_the_text

pub returns-clause-parted : goal.returns-clause-parted
returns-clause-parted c = no_line_has_a_feed
