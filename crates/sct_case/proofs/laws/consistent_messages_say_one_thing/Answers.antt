-- If nothing is found, the messages say one thing.
use Rattle.sct_case.proofs.Stays.{consistent_say_one_thing}
use Rattle.sct_case.proofs.laws.consistent_messages_say_one_thing.Goals as goal

pub returns : goal.returns
returns c = consistent_say_one_thing
