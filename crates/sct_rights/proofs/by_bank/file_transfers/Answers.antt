-- One transfer more, and in the end all of them.
use Rattle.std.proofs.Common.{sym, arith}
use Rattle.std.proofs.lemmas.List.{take_all}
use Rattle.sct_message.specs.Keys.{transfers_of}
use Rattle.sct_rights.proofs.BankLemmas.{filed_all, filed_none, filed_one}
use Rattle.sct_rights.proofs.by_bank.file_transfers.Goals as goal

pub loop-i-init : goal.loop-i-init
loop-i-init c = λ ms filed. filed_none c.args.message.now ms c.args.index.now filed

pub loop-i-preserved : goal.loop-i-preserved
loop-i-preserved c = λ ms filed.
    filed_one c.args.message.now ms c.loop-i.index c.file_under.new.index c.loop-i.i c.in-Some.transfer (sym c.in-Some.ensures) c.in_ok-file_under.ensures (c.loop-i.invariant ms filed)

pub returns : goal.returns
returns c = λ ms filed.
    filed_all c.args.message.now ms c.loop-i.index c.loop-i.i (take_all c.loop-i.i (transfers_of c.args.message.now) (omega arith)) (c.loop-i.invariant ms filed)
