-- What was taken before a read, and what is taken after it.
use Rattle.std.proofs.Common.{◌≡◌, ◌+◌, ◌-◌, ◌∙◌, ap, arith, length, refl, rules}
use Rattle.std.specs.Prelude.{IfErr}
use Rattle.sct_streams.specs.Whole.{EndsReading}
use Rattle.sct_input.proofs.BlockLemmas.{all_read, appended, ends_after, few_taken, lines_taken, of_fault, past_limit}
use Rattle.sct_input.proofs.blocks.read_messages.Goals as goal

pub with_block-requires-clause-few : goal.with_block-requires-clause-few
with_block-requires-clause-few g c κs within =
    let now = appended _ c.in_ok-count.count _ _ _ _ _ _ _ c.loop-text.invariant.taken c.in_ok-count.ensures.appended refl in
    omega (
      arith,
      few_taken _ _ _ _ _ now,
      c.if-count-most.true,
      c.next_read-most.ensures.most,
      c.loop-text.invariant.within,
      c.ranges.limit.fits,
      ap length c.deref.ensures.value,
    )

pub returns-then-count-most-clause-read : goal.returns-then-count-most-clause-read
returns-then-count-most-clause-read g c =
    let now = appended _ c.in_ok-count.count _ _ _ _ _ _ _ c.loop-text.invariant.taken c.in_ok-count.ensures.appended refl in
    all_read _ _ c.args.limit _ _ _ _ _ _ c.in_ok-with_block.field-0 c.into_intake.result c.loop-text.invariant.taken now
    (omega (arith, c.if-count-most.true, c.next_read-most.ensures.most, c.loop-text.invariant.within))
    (c.in_ok-count.ensures.end c.if-count-most.true)
    (rw c.deref.ensures.value at c.in_ok-with_block.ensures.text c.loop-text.invariant.taken.whole) c.into_intake.ensures

pub returns-then-count-room-clause-faults : goal.returns-then-count-room-clause-faults
returns-then-count-room-clause-faults g c =
    let sum : c.args.limit + 1 ≡ c.args.limit - c.loop-text.room + c.in_ok-count.count =
    omega (arith, c.if-count-room.true, c.in_ok-count.ensures.most, c.next_read-most.ensures.most, c.loop-text.invariant.within) in
    past_limit _ _ _ _ _ (appended _ c.in_ok-count.count (c.args.limit + 1) _ _ _ _ _ _ c.loop-text.invariant.taken c.in_ok-count.ensures.appended sum)

pub take_lines-requires-clause-few : goal.take_lines-requires-clause-few
take_lines-requires-clause-few g c κs within =
    let now = appended _ c.in_ok-count.count _ _ _ _ _ _ _ c.loop-text.invariant.taken c.in_ok-count.ensures.appended refl in
    omega (arith, few_taken _ _ _ _ _ now, c.if-count-room.false, c.loop-text.invariant.within, c.ranges.limit.fits)

pub loop-text-preserved : goal.loop-text-preserved
loop-text-preserved g c =
    let sum : c.args.limit - (c.loop-text.room - c.in_ok-count.count) ≡ c.args.limit - c.loop-text.room + c.in_ok-count.count =
    omega (arith, c.if-count-room.false, c.loop-text.invariant.within) in
    let now = appended _ c.in_ok-count.count _ _ _ _ _ _ _ c.loop-text.invariant.taken c.in_ok-count.ensures.appended sum in
    record {
      within = omega (arith, c.loop-text.invariant.within);
      taken = lines_taken _ _ _ _ _ _ _ now c.in_ok-lines.ensures.whole (c.in_ok-lines.ensures.bytes c.loop-text.invariant.taken.whole);
      quiet = c.in_ok-count.ensures.quiet ∙ c.loop-text.invariant.quiet;
    }

pub returns-in_err-count-clause-faults : goal.returns-in_err-count-clause-faults
returns-in_err-count-clause-faults g c =
    let ends = ends_after _ _ c.args.limit c.next_read-most.result _ _ _ _ _ c.loop-text.invariant.taken (omega (arith, c.next_read-most.ensures.most, c.loop-text.invariant.within)) c.in_err-count.ensures.faults in
    let is : IfErr c.from_residual.result (λ e. e ≡ c.in_err-count.field-0.0) = search rules in
    of_fault (λ e. EndsReading e c.args.limit (g.R.Source.state c.args.source.now).left (g.R.Source.state c.read_more.new.source).left) c.from_residual.result
    c.in_err-count.field-0.0 is ends
