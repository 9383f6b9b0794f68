-- A query that is opened may read, tell and learn what the writer shows.
use Rattle.std.proofs.Common.{rules}
use Rattle.sct_desk.proofs.Showing.{admits, learns, tells}
use Rattle.sct_desk.proofs.open.query.Goals as goal

pub reader-requires : goal.reader-requires
reader-requires c = admits

pub tell-requires : goal.tell-requires
tell-requires c = tells _ _

pub learn-requires : goal.learn-requires
learn-requires c = record { own = search rules; rule = learns _ _ _ _ }
