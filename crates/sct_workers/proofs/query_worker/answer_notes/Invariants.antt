-- The query is of this desk and of its site.
use Rattle.std.proofs.Common.{◌≡◌}
use Rattle.sct_workers.proofs.query_worker.answer_notes.Given as goal

abbrev pub invariant-loop-note : goal.invariant-loop-note
invariant-loop-note g l = (l.query.book ≡ g.J.Site.book) × (l.query.site ≡ g.J.Site.number)
