-- Each of the queries has seen nothing.
use Rattle.std.proofs.lemmas.List.Elements.{All-pop}
use Rattle.sct_desk.specs.Openings.{IsNewQuery}
use Rattle.sct_workers.proofs.site_work.pop_query.Goals as goal

pub returns : goal.returns
returns g c = (All-pop (IsNewQuery g.J.Site.book g.J.Site.number) _ _ c.pop.result c.pop.ensures.items c.requires).1
