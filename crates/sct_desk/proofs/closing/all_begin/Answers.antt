-- What each receipt of the site shows begins the arrivals, once the last of them was looked at.
use Rattle.std.proofs.Common.{◌≡◌, subst, sym, List, arith}
use Rattle.std.proofs.lemmas.List.{take_all}
use Rattle.std.proofs.lemmas.List.Elements.{All-more}
use mathlib.Core.List.{IsPrefix}
use Rattle.sct_desk.specs.Passes.{Told}
use Rattle.sct_desk.specs.Tilings.{AllBegin}
use Rattle.sct_desk.proofs.closing.all_begin.Goals as goal

pub loop-receipt-preserved : goal.loop-receipt-preserved
loop-receipt-preserved c =
    All-more (λ (r : Told). r.site ≡ c.args.number → IsPrefix r.shown c.args.arrivals.now.log) c.args.receipts.now c.loop-receipt.receipt-index c.receipt-item.result
    (omega (arith, c.loop-receipt-test.true)) c.loop-receipt.invariant
    (subst (λ (r : Told). r.site ≡ c.args.number → IsPrefix r.shown c.args.arrivals.now.log) c.receipt-item.is c.if-not-begins.ensures)

pub returns : goal.returns
returns c =
    subst (λ (rs : List Told). AllBegin c.args.number c.args.arrivals.now.log rs)
    (take_all c.loop-receipt.receipt-index c.args.receipts.now (omega (arith, c.loop-receipt-test.false))) c.loop-receipt.invariant

pub returns-then-not-begins : goal.returns-then-not-begins
returns-then-not-begins c =
    (c.loop-receipt.receipt-index, c.receipt-item.result, omega (arith, c.loop-receipt-test.true), sym c.receipt-item.is, c.if-not-begins.ensures)
