-- An entry is added where no other came in between, and where the history has none there yet.
use Rattle.std.proofs.Common.{◌≡◌, sym, ◌∙◌, ap, length}
use Rattle.sct_site.proofs.Adding.{adds_moves}
use Rattle.sct_site.proofs.track.Track.add.Goals as goal

pub compare_exchange-found-requires : goal.compare_exchange-found-requires
compare_exchange-found-requires c =
    let head = c.history.invariant in
    let offer = c.plain-offer.ensures in
    let pen = c.no_pen-pen.ensures in
    let seen = c.again-seen.ensures in
    let book : c.again-seen.result.book ≡ c.history.inside.head.book = ap (λ s. s.book) seen ∙ (ap (λ t. t.book) c.self.view_is ∙ sym (c.history.view_is ∙ c.requires.history)) in (
      ap (λ w. w.tracked) head,
      book,
      pen.0 ∙ book,
      offer.0,
      rw (ap (λ w. w.key) head, pen.1, offer.1, offer.3) (adds_moves c.again-seen.result.log c.args.entry.now c.self.inside.len (ap (λ s. length s.log) seen ∙ sym c.self.invariant.0)),
    )
