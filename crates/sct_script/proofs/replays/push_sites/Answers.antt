-- Behind the last site nothing is left.
use Rattle.std.proofs.Common.{arith}
use Rattle.sct_script.specs.Replays.{replayed_site_text, sites_text}
use Rattle.sct_script.proofs.ReplayLemmas.{no_piece}
use Rattle.sct_script.proofs.replays.push_sites.Goals as goal

pub returns-clause-text : goal.returns-clause-text
unfolding sites_text
returns-clause-text c =
    no_piece replayed_site_text c.args.world.now.held c.loop-place.place _ _ _
    (omega (arith, c.loop-place-test.false, c.sites-place-end.ensures.count))
    c.loop-place.invariant
