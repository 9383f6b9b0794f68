-- The law of whole lines.
use Rattle.sct_lines.proofs.PartLemmas.{lines_join, lines_stay, messages_stay}
use Rattle.sct_lines.proofs.lines.whole_lines_stay.Goals as goal

pub returns-clause-lines : goal.returns-clause-lines
returns-clause-lines c = lines_stay

pub returns-clause-messages : goal.returns-clause-messages
returns-clause-messages c = messages_stay

pub returns-clause-join : goal.returns-clause-join
returns-clause-join c = lines_join
