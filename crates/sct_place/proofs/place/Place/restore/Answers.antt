-- An empty place gets the site, or stays empty.
use Rattle.std.proofs.Common.{◌∙◌, sym}
use Rattle.sct_place.proofs.PlaceLemmas.{restores}
use Rattle.sct_place.proofs.place.Place.restore.Goals as goal

pub returns : goal.returns
returns c = restores c.args.number c.args.group c.args.journal.now c.args.text.now c.restore.result c.args.self.now.handle.held c.fill.new.self.handle.held c.fill.result
    (sym c.is_full.ensures ∙ c.if-is_full.false) c.restore.ensures.core c.restore.ensures.told c.restore.ensures.unwatched c.restore.ensures.opened
    c.restore.ensures.err c.fill.ensures
