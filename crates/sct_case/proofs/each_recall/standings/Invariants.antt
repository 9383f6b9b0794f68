-- So far, each of the first recalls with its status.
use Rattle.std.proofs.Common.{◌≡◌, map, take}
use Rattle.sct_message.specs.Sets.{messages_in}
use Rattle.sct_case.specs.Statuses.{recall_standing_of}
use Rattle.sct_case.proofs.each_recall.standings.Given as goal

abbrev pub invariant-loop-cxl : goal.invariant-loop-cxl
invariant-loop-cxl l = l.found.items ≡ map (λ cxl. (cxl, recall_standing_of l.fn.transfer (messages_in l.fn.clean) cxl)) (take l.cxl-index l.cxls)
