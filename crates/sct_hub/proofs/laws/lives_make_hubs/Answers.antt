-- Lives are events of a hub.
use Rattle.sct_hub.proofs.LifeLemmas.{asked_written, lives_make, served_are}
use Rattle.sct_hub.proofs.laws.lives_make_hubs.Goals as goal

pub returns-clause-served : goal.returns-clause-served
returns-clause-served c = served_are

pub returns-clause-lives : goal.returns-clause-lives
returns-clause-lives c = lives_make

pub returns-clause-texts : goal.returns-clause-texts
returns-clause-texts c = asked_written
