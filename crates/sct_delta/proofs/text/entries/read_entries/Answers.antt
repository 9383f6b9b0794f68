-- One line more, and the end.
use Rattle.std.proofs.Common.{sym, ◌∙◌, arith, ap, ◌≡◌, ◌+◌, ◌++◌, ◌∷◌, []}
use Rattle.sct_delta.specs.Entries.{Placed}
use Rattle.sct_delta.specs.TextLines.{entries_ended, lines_by_end}
use Rattle.sct_delta.specs.EntryText.{entries_in}
use Rattle.sct_delta.proofs.ReadingLemmas.{read_entry_more, read_entry_wrong, read_end}
use Rattle.sct_delta.proofs.text.entries.read_entries.Goals as goal

at_end : (c : goal.After-ended) → entries_in 2 0 0 [] (lines_by_end c.args.text.now) ≡ entries_ended c.loop-line.place c.loop-line.entries.items c.in-Some.line.now (lines_by_end c.in-Some.after.now)
at_end c = c.loop-line.invariant.left ∙ read_end _ _ _ _ _ _ _ c.in-Some.ensures.lines (sym c.in_default-2.is ∙ c.in_ok-entry.ensures)

pub returns-in_default-2-clause-read : goal.returns-in_default-2-clause-read
returns-in_default-2-clause-read c = rw (at_end c) c.ended.ensures.read

pub returns-in_default-2-clause-wrong : goal.returns-in_default-2-clause-wrong
returns-in_default-2-clause-wrong c = rw (at_end c) c.ended.ensures.wrong

pub returns-then-not-may_be_next-clause-wrong : goal.returns-then-not-may_be_next-clause-wrong
returns-then-not-may_be_next-clause-wrong c =
    c.loop-line.invariant.left
    ∙ read_entry_wrong _ _ _ _ _ _ _ c.in-Some-2.entry c.in-Some.ensures.lines (sym c.in-Some-2.is ∙ c.in_ok-entry.ensures) (sym c.may_be_next.ensures ∙ c.if-not-may_be_next.true)

pub loop-line-preserved : goal.loop-line-preserved
loop-line-preserved c = record {
  counted = omega (arith, c.in-Some.ensures.shorter);
  left =
      let more : entries_in 2 0 0 [] (lines_by_end c.args.text.now) ≡ entries_in (c.loop-line.place + 1) c.in-Some-2.entry.origin c.in-Some-2.entry.n (c.loop-line.entries.items ++ c.in-Some-2.entry ∷ []) (lines_by_end c.in-Some.after.now) =
      c.loop-line.invariant.left
      ∙ read_entry_more _ _ _ _ _ _ _ c.in-Some-2.entry c.in-Some.ensures.lines (sym c.in-Some-2.is ∙ c.in_ok-entry.ensures) (sym c.may_be_next.ensures ∙ c.if-not-may_be_next.false) in
      let origin : c.entry.inside.origin ≡ c.in-Some-2.entry.origin = ap (λ (e : Placed). e.origin) c.entry.view_is in
      let n : c.entry.inside.n ≡ c.in-Some-2.entry.n = ap (λ (e : Placed). e.n) c.entry.view_is in
      rw (c.in_ok-push.ensures.items, origin, n) more;
}
