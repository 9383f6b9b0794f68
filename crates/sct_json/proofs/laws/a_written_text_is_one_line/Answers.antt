-- A written text is one line.
use Rattle.sct_json.proofs.Texts.{text_is_one_line, text_begins}
use Rattle.sct_json.proofs.laws.a_written_text_is_one_line.Goals as goal

pub returns-clause-no_line_feed : goal.returns-clause-no_line_feed
returns-clause-no_line_feed c = text_is_one_line

pub returns-clause-begins : goal.returns-clause-begins
returns-clause-begins c = text_begins
