-- The law of the archive text as an input.
use Rattle.sct_commands.proofs.AgainLemmas.{archive_gives_back}
use Rattle.sct_commands.proofs.texts.the_archive_text_gives_the_set_back.Goals as goal

pub returns : goal.returns
returns c = archive_gives_back
