-- Each exit of a make.
use Rattle.std.proofs.Common.{◌∙◌, sym, subst}
use Rattle.sct_journal.specs.Fronts.{IsMaking}
use Rattle.sct_journal.proofs.MakingLemmas.{after_gate, gate_is, has_start, making_new}
use Rattle.sct_journal.proofs.making.make.Goals as goal

pub returns-in_err-text-clause-crash : goal.returns-in_err-text-clause-crash
returns-in_err-text-clause-crash g c is new f left =
    subst (IsMaking c.args.header.now) (is ∙ sym (c.requires.durable f left)) (making_new c.args.header.now c.args.file.now c.requires.line new)

pub returns-in_err-put-clause-crash : goal.returns-in_err-put-clause-crash
returns-in_err-put-clause-crash g c is new f left =
    after_gate c.args.header.now (g.D.Disk.seen c.stage.new.disk) f c.requires.line (c.in_ok-stage.ensures.staged is new) (c.put.ensures.crash f left)

pub returns-clause-made : goal.returns-clause-made
returns-clause-made g c is new =
    gate_is c.args.header.now (g.D.Disk.seen c.stage.new.disk) (g.D.Disk.seen c.put.new.disk) (c.in_ok-stage.ensures.staged is new)
    (c.in_ok-put.ensures.written (has_start (g.D.Disk.seen c.stage.new.disk)))

pub returns-clause-crash : goal.returns-clause-crash
returns-clause-crash g c is new f left =
    after_gate c.args.header.now (g.D.Disk.seen c.stage.new.disk) f c.requires.line (c.in_ok-stage.ensures.staged is new) (c.put.ensures.crash f left)
