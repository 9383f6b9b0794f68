-- The queries that are opened are of the site, and have seen its history so far.
use Rattle.std.proofs.Common.{◌≡◌, subst}
use Rattle.std.specs.List.{All}
use Rattle.sct_desk.specs.Passes.{Asked}
use Rattle.sct_desk.proofs.desk.Desk.open.Goals as goal

pub returns-clause-queries : goal.returns-clause-queries
returns-clause-queries g c =
    subst (λ (a : Asked). All (λ (q : Asked). q ≡ a) c.in-Ok-queries.queries.items)
    (λ i. record { site = c.requires.number i; book = c.requires.track.0 i; seen = c.requires.track.1 i })
    c.in-Ok-queries.ensures.queries
