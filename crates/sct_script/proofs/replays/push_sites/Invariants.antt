-- The sites so far, and those that are left.
use Rattle.std.proofs.Common.{◌≡◌, ◌+◌, ◌++◌}
use Rattle.std.specs.List.{flat_map, enumerate_from}
use Rattle.sct_script.specs.Replays.{replayed_site_text}
use Rattle.sct_script.proofs.ReplayLemmas.{pieces_left}
use Rattle.sct_script.proofs.replays.push_sites.Given as goal

abbrev pub invariant-loop-place : goal.invariant-loop-place
invariant-loop-place l =
    l.text.items ++ pieces_left replayed_site_text l.world.held l.place (l.place + 1) ≡ l.initial.text.items ++ flat_map replayed_site_text (enumerate_from 1 l.world.held)
