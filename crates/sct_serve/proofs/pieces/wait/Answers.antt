-- No line feed is in what waits.
use Rattle.std.proofs.Common.{◌++◌, ◌<◌, inr, ap, sym, subst, List, ℕ, length, arith}
use Rattle.sct_serve.specs.Serving.{IsBehind}
use Rattle.sct_serve.proofs.PieceLemmas.{behind_none, none_on}
use Rattle.sct_serve.proofs.pieces.wait.Goals as goal

pub returns-in_err-extend_from_slice-clause-lines : goal.returns-in_err-extend_from_slice-clause-lines
returns-in_err-extend_from_slice-clause-lines c = none_on c.args.pending.now.items c.args.piece.now c.requires.waits c.requires.none

pub returns-then-len-gt-MOST_REQUEST-clause-lines : goal.returns-then-len-gt-MOST_REQUEST-clause-lines
returns-then-len-gt-MOST_REQUEST-clause-lines c = none_on c.args.pending.now.items c.args.piece.now c.requires.waits c.requires.none

pub returns-clause-lines : goal.returns-clause-lines
returns-clause-lines c = none_on c.args.pending.now.items c.args.piece.now c.requires.waits c.requires.none

pub returns-clause-waits : goal.returns-clause-waits
returns-clause-waits c =
    let text = c.args.pending.now.items ++ c.args.piece.now in
    subst (λ (l : List ℕ). IsBehind text l) (sym c.in_ok-extend_from_slice.ensures.items) (behind_none text (none_on c.args.pending.now.items c.args.piece.now c.requires.waits c.requires.none))

pub returns-then-len-gt-MOST_REQUEST-clause-too_long : goal.returns-then-len-gt-MOST_REQUEST-clause-too_long
returns-then-len-gt-MOST_REQUEST-clause-too_long c told =
    let text = c.args.pending.now.items ++ c.args.piece.now in
    let long : 67108864 < length text = omega (arith, c.if-len-gt-MOST_REQUEST.true, c.len.ensures, ap length c.in_ok-extend_from_slice.ensures.items) in
    (text, (behind_none text (none_on c.args.pending.now.items c.args.piece.now c.requires.waits c.requires.none), inr long))
