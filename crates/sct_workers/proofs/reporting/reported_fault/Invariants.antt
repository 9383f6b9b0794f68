-- What is reported of the sites so far.
use Rattle.std.proofs.Common.{take}
use Rattle.sct_workers.specs.Reported.{Reports}
use Rattle.sct_workers.proofs.reporting.reported_fault.Given as goal

abbrev pub invariant-loop-answer : goal.invariant-loop-answer
invariant-loop-answer l = Reports (take l.answer-index l.answers) l.reported
