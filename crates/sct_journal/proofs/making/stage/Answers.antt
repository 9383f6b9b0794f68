-- Each exit of a stage.
use Rattle.std.proofs.Common.{◌∙◌, sym, subst}
use Rattle.sct_journal.specs.Fronts.{IsMaking}
use Rattle.sct_journal.proofs.MakingLemmas.{after_first, after_stage, has_first, making_new, shut_or_tiny, stage_is}
use Rattle.sct_journal.proofs.making.stage.Goals as goal

pub returns-then-is_staged-clause-crash : goal.returns-then-is_staged-clause-crash
returns-then-is_staged-clause-crash g c is new f left =
    subst (IsMaking c.args.header.now) (is ∙ sym (c.requires.durable f left)) (making_new c.args.header.now c.args.file.now c.requires.line new)

pub returns-in_err-shut_first-clause-crash : goal.returns-in_err-shut_first-clause-crash
returns-in_err-shut_first-clause-crash g c is new f left =
    after_first c.args.header.now c.args.file.now f c.requires.line new
    (c.shut_first.ensures.crash is (shut_or_tiny c.args.header.now c.args.file.now new (sym c.is_staged.ensures ∙ c.if-is_staged.false)) f left)

pub returns-in_err-put-clause-crash : goal.returns-in_err-put-clause-crash
returns-in_err-put-clause-crash g c is new f left =
    after_stage c.args.header.now c.args.file.now (g.D.Disk.seen c.shut_first.new.disk) c.args.text.now f new c.requires.text
    (c.in_ok-shut_first.ensures.shut is) (c.in_ok-shut_first.ensures.short is) (c.put.ensures.crash f left)

pub returns-clause-staged : goal.returns-clause-staged
returns-clause-staged g c is new =
    stage_is c.args.header.now c.args.file.now (g.D.Disk.seen c.shut_first.new.disk) c.args.text.now (g.D.Disk.seen c.put.new.disk) new c.requires.text
    (c.in_ok-shut_first.ensures.shut is) (c.in_ok-shut_first.ensures.short is)
    (c.in_ok-put.ensures.written (has_first (g.D.Disk.seen c.shut_first.new.disk) (c.in_ok-shut_first.ensures.shut is)))

pub returns-clause-crash : goal.returns-clause-crash
returns-clause-crash g c is new f left =
    after_stage c.args.header.now c.args.file.now (g.D.Disk.seen c.shut_first.new.disk) c.args.text.now f new c.requires.text
    (c.in_ok-shut_first.ensures.shut is) (c.in_ok-shut_first.ensures.short is) (c.put.ensures.crash f left)
