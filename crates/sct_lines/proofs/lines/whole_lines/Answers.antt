-- The front up to the last line feed, and what is behind it.
use Rattle.std.proofs.Common.{◌≡◌, ◌≢◌, ◌+◌, ◌-◌, ◌∙◌, arith, drop, eqb-true, get_or, length, length-drop, refl, sym}
use Rattle.std.proofs.lemmas.List.{get_or-drop}
use Rattle.std.proofs.lemmas.List.Elements.{All-from_get_or}
use Rattle.sct_lines.proofs.PartLemmas.{whole_to_feed}
use Rattle.sct_lines.proofs.lines.whole_lines.Goals as goal

pub returns-in-Some-clause-lines : goal.returns-in-Some-clause-lines
returns-in-Some-clause-lines c =
    whole_to_feed c.args.text.now c.in-Some.at c.in-Some.ensures.0.high (eqb-true (get_or c.args.text.now c.in-Some.at 0) 10 c.in-Some.ensures.1)

pub returns-in-Some-clause-rest : goal.returns-in-Some-clause-rest
returns-in-Some-clause-rest c =
    All-from_get_or (λ byte. byte ≢ 10) (drop (c.in-Some.at + 1) c.args.text.now) 0
    (λ k below feed.
    let size : length (drop (c.in-Some.at + 1) c.args.text.now) ≡ length c.args.text.now - (c.in-Some.at + 1) = length-drop (c.in-Some.at + 1) c.args.text.now in
    let here : get_or c.args.text.now (c.in-Some.at + 1 + k) 0 ≡ 10 = sym (get_or-drop (c.in-Some.at + 1) c.args.text.now k 0) ∙ feed in
    c.in-Some.ensures.0.after (c.in-Some.at + 1 + k) (omega arith) (omega (arith, size, below)) (rw here refl))

pub returns-in-None-clause-rest : goal.returns-in-None-clause-rest
returns-in-None-clause-rest c =
    All-from_get_or (λ byte. byte ≢ 10) c.args.text.now 0
    (λ k below feed. c.in-None.ensures k (omega arith) below (rw feed refl))
