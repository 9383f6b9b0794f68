-- A query that is taken out of the new ones is a new one.
use Rattle.std.proofs.lemmas.List.Elements.{All-pop}
use Rattle.sct_desk.specs.Openings.{IsNewQuery}
use Rattle.sct_run_tests.proofs.desks.scenes.one_of.Goals as goal

pub returns : goal.returns
returns g c = (All-pop (IsNewQuery g.J.Site.book g.J.Site.number) _ _ c.pop.result c.pop.ensures.items c.requires).1
