-- The queries so far have seen nothing, and the writer shows and knows what it did.
use Rattle.std.proofs.Common.{◌≡◌, drop}
use Rattle.std.specs.List.{All}
use Rattle.left_right.specs.Sides.{view}
use Rattle.sct_desk.specs.Passes.{Asked}
use Rattle.sct_desk.proofs.open.queries.Given as goal

abbrev pub invariant-loop : goal.invariant-loop
invariant-loop l =
    (l.writer.desk.shown ≡ l.initial.writer.desk.shown)
    × (drop l.writer.behind l.writer.log.items ≡ drop l.initial.writer.behind l.initial.writer.log.items)
    × (view l.writer.desk.place ≡ view l.initial.writer.desk.place)
    × (l.queries.len ≡ l.counter)
    × All (λ (q : Asked). q ≡ record { site = l.number; book = l.track.book; seen = l.track.log }) l.queries.items
