-- An empty place gets the site, or stays empty.
use Rattle.std.proofs.Common.{◌∙◌, sym}
use Rattle.sct_place.proofs.PlaceLemmas.{opens}
use Rattle.sct_place.proofs.place.Place.open.Goals as goal

pub returns : goal.returns
returns c = opens c.args.number c.args.group c.open.result c.args.self.now.handle.held c.fill.new.self.handle.held c.fill.result
    (sym c.is_full.ensures ∙ c.if-is_full.false) c.open.ensures.ok c.open.ensures.opened c.open.ensures.err c.fill.ensures
