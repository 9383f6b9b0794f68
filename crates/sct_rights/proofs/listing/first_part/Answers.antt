-- The part before the first comma, or the whole text.
use Rattle.std.proofs.Common.{sym, ◌∙◌}
use Rattle.sct_delta.proofs.VectorTextLemmas.{first_comma, no_comma}
use Rattle.sct_rights.proofs.listing.first_part.Goals as goal

pub returns-in_err-at-clause-parts : goal.returns-in_err-at-clause-parts
returns-in_err-at-clause-parts c =
    rw c.from_residual.ensures (no_comma c.args.text.now (sym c.comma.ensures.place ∙ c.in_err-at.was))

pub returns-clause-parts : goal.returns-clause-parts
returns-clause-parts c =
    rw (c.split_at.ensures.front, c.split_at-2.ensures.back)
    (first_comma c.args.text.now c.in_ok-at.at (sym c.comma.ensures.place ∙ c.in_ok-at.was))
