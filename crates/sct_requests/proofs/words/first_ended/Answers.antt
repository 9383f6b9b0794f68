-- The line up to the first line feed.
use Rattle.std.proofs.Common.{◌≡◌, ◌∙◌, refl, sym, suc, drop, arith, add-one}
use Rattle.sct_journal.proofs.LineLemmas.{EndsAt, feed_at, no_feed}
use Rattle.sct_requests.proofs.words.first_ended.Goals as goal

pub returns-in_default-clause-none : goal.returns-in_default-clause-none
returns-in_default-clause-none c = no_feed c.args.text.now (λ k below passes. c.in_default.ensures k (omega arith) below passes)

pub returns-clause-first : goal.returns-clause-first
returns-clause-first c =
    let first = c.in-Some.ensures in
    let found : EndsAt c.args.text.now c.in-Some.at = feed_at c.args.text.now c.in-Some.at first.0.high first.1 (λ k below passes. first.0.before k (omega arith) below passes) in
    let back : c.split_at-2.result.1.now ≡ drop (suc c.in-Some.at) c.args.text.now = c.split_at-2.ensures.back ∙ simp add-one refl in
    found.lines ∙ sym (rw (c.split_at.ensures.front, back) refl)

pub returns-clause-bytes : goal.returns-clause-bytes
returns-clause-bytes c =
    let first = c.in-Some.ensures in
    let found : EndsAt c.args.text.now c.in-Some.at = feed_at c.args.text.now c.in-Some.at first.0.high first.1 (λ k below passes. first.0.before k (omega arith) below passes) in
    let back : c.split_at-2.result.1.now ≡ drop (suc c.in-Some.at) c.args.text.now = c.split_at-2.ensures.back ∙ simp add-one refl in
    found.parts ∙ sym (rw (c.split_at.ensures.front, back) refl)

pub returns-clause-line : goal.returns-clause-line
returns-clause-line c =
    let first = c.in-Some.ensures in
    let found : EndsAt c.args.text.now c.in-Some.at = feed_at c.args.text.now c.in-Some.at first.0.high first.1 (λ k below passes. first.0.before k (omega arith) below passes) in
    rw c.split_at.ensures.front found.line
