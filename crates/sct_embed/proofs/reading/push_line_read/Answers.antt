-- A blank line is read as nothing, and any other line as its message or its refusal.
use Rattle.std.proofs.Common.{◌≡◌, ◌∙◌, ap, sym, subst, ℕ, List, ◌++◌, OnOk, append-nil}
use Rattle.sct_embed.proofs.ReadingLemmas.{blank, other}
use Rattle.sct_embed.proofs.reading.push_line_read.Goals as goal

pub returns-then-is_blank_line : goal.returns-then-is_blank_line
returns-then-is_blank_line c =
    sym (ap (λ (more : List ℕ). c.args.text.now.items ++ more) (blank c.args.number c.args.line.now (sym c.is_blank_line.ensures ∙ c.if-is_blank_line.true))
    ∙ append-nil c.args.text.now.items)

pub returns : goal.returns
returns c =
    subst (λ (more : List ℕ). OnOk c.push_reading.result (c.push_reading.new.text.items ≡ c.args.text.now.items ++ more))
    (sym (other c.args.number c.args.line.now (sym c.is_blank_line.ensures ∙ c.if-is_blank_line.false)))
    c.push_reading.ensures
