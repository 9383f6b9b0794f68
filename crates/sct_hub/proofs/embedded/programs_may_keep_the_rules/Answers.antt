-- What a journal gets, and what it does not get.
use Rattle.sct_hub.proofs.EmbeddedJournalLemmas.{deltas_add_nothing, journals_have, repeats_add_nothing}
use Rattle.sct_hub.proofs.embedded.programs_may_keep_the_rules.Goals as goal

pub returns-clause-messages : goal.returns-clause-messages
returns-clause-messages c = journals_have

pub returns-clause-repeats : goal.returns-clause-repeats
returns-clause-repeats c = repeats_add_nothing

pub returns-clause-deltas : goal.returns-clause-deltas
returns-clause-deltas c = deltas_add_nothing
