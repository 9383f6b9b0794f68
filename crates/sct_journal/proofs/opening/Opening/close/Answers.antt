-- The lines that were read are all that the file keeps.
use Rattle.std.proofs.Common.{arith}
use Rattle.sct_journal.proofs.OpeningLemmas.{ends_kept}
use Rattle.sct_journal.proofs.opening.Opening.close.Goals as goal

pub returns-in-Ok-clause-settled : goal.returns-in-Ok-clause-settled
returns-in-Ok-clause-settled g c = record {
  usable = c.in-Ok.ensures.usable;
  durable = c.in-Ok.ensures.durable;
  rest = λ clean.
      let before = c.settle.ensures.clean clean in
      c.in-Ok.ensures.rest clean (ends_kept (g.D.Disk.seen c.args.self.disk) c.args.self.end (c.requires.opening.read before) (c.requires.read before));
}

pub returns-in-Ok-clause-same : goal.returns-in-Ok-clause-same
returns-in-Ok-clause-same g c clean =
    let before = c.settle.ensures.clean clean in
    c.in-Ok.ensures.same clean (ends_kept (g.D.Disk.seen c.args.self.disk) c.args.self.end (c.requires.opening.read before) (c.requires.read before))

pub returns-in-Ok-clause-crash : goal.returns-in-Ok-clause-crash
returns-in-Ok-clause-crash g c clean f left =
    let before = c.settle.ensures.clean clean in
    c.settle.ensures.crash clean (ends_kept (g.D.Disk.seen c.args.self.disk) c.args.self.end (c.requires.opening.read before) (c.requires.read before)) f left

pub returns-in-Err-clause-crash_err : goal.returns-in-Err-clause-crash_err
returns-in-Err-clause-crash_err g c clean f left =
    let before = c.settle.ensures.clean clean in
    c.settle.ensures.crash clean (ends_kept (g.D.Disk.seen c.args.self.disk) c.args.self.end (c.requires.opening.read before) (c.requires.read before)) f left

pub returns-in-Ok-clause-cut : goal.returns-in-Ok-clause-cut
returns-in-Ok-clause-cut g c clean =
    let before = c.settle.ensures.clean clean in
    let ends = ends_kept (g.D.Disk.seen c.args.self.disk) c.args.self.end (c.requires.opening.read before) (c.requires.read before) in
    let rest = c.in-Ok.ensures.rest clean ends in
    omega (arith, c.in-Ok.ensures.cut clean ends, rest.place)
