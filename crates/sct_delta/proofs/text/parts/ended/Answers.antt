-- The end line stands there, and something behind it or nothing.
use Rattle.std.proofs.Common.{sym, ap, ◌∙◌, ℕ}
use Rattle.sct_delta.specs.TextLines.{is_end_line}
use Rattle.sct_delta.proofs.ReadingLemmas.{ended_here, ended_too_early}
use Rattle.sct_delta.proofs.text.parts.ended.Goals as goal

pub returns-then-not-is_empty-clause-wrong : goal.returns-then-not-is_empty-clause-wrong
returns-then-not-is_empty-clause-wrong c =
    ended_too_early c.args.place c.args.entries.items c.args.line.now c.args.after.now
    (ap (λ (n : ℕ). is_end_line n c.args.line.now) (sym c.args.entries.ok.0 ∙ sym c.len.ensures) ∙ sym c.is_end_line.ensures ∙ c.if-not-is_end_line.false)
    (sym c.is_empty.ensures ∙ c.if-not-is_empty.true)

pub returns-clause-read : goal.returns-clause-read
returns-clause-read c =
    ended_here c.args.place c.args.entries.items c.args.line.now c.args.after.now
    (ap (λ (n : ℕ). is_end_line n c.args.line.now) (sym c.args.entries.ok.0 ∙ sym c.len.ensures) ∙ sym c.is_end_line.ensures ∙ c.if-not-is_end_line.false)
    (sym c.is_empty.ensures ∙ c.if-not-is_empty.false)
