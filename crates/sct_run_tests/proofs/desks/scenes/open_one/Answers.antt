-- The queries of a desk that opened are new ones.
use Rattle.sct_run_tests.proofs.desks.scenes.open_one.Goals as goal

pub one_of-requires : goal.one_of-requires
one_of-requires g c = c.in-Ok.ensures.queries
