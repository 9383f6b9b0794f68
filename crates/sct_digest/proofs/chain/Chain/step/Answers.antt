-- The next digest is of one message more. It is a mark after each 1,024 messages.
use Rattle.std.proofs.Common.{◌≡◌, ◌∙◌, ◌≤◌, ◌+◌, ap, sym, subst, ℕ, List, ◌++◌, ◌∷◌, [], length, take, arith}
use Rattle.std.proofs.lemmas.List.{length-map}
use Rattle.std.specs.Arc.{arc_value}
use Rattle.sct_message.specs.declared.draft.Draft.{Draft}
use Rattle.sct_message.specs.Sets.{messages_in}
use Rattle.sct_digest.specs.Digests.{digest_of, next_digest, no_digest}
use Rattle.sct_digest.proofs.ChainLemmas.{one_more}
use Rattle.sct_digest.proofs.KeepingLemmas.{HaveMarks, mark_more, mark_none}
use Rattle.sct_digest.proofs.chain.Chain.step.Goals.{then-count-len-eq-STEP+in_ok-push, else-count-len-eq-STEP}
use Rattle.sct_digest.proofs.chain.Chain.step.Goals as goal

pub returns-clause-kept : goal.returns-clause-kept
returns-clause-kept c =
    let log : List Draft = messages_in c.args.log.now in
    let k : ℕ = c.args.self.now.count in
    let old : List (List ℕ) = c.args.self.now.marks.items in
    let newest : c.in_ok-newest.newest ≡ digest_of (take (k + 1) log) =
    c.in_ok-newest.ensures
    ∙ (λ i. next_digest (c.requires.kept.newest i) (c.deref.ensures i))
    ∙ one_more no_digest c.args.log.now k c.index-log-self.result c.requires.more c.index-log-self.is in
    let were : HaveMarks k old log = record { reached = c.requires.kept.reached; each = c.requires.kept.marks } in
    let marks : HaveMarks (k + 1) c.if-count-len-eq-STEP.self.marks.items log =
    elim c.if-count-len-eq-STEP.branch as (λ _. HaveMarks (k + 1) c.if-count-len-eq-STEP.self.marks.items log) [
      | then-count-len-eq-STEP+in_ok-push w ↦
          subst (λ (ms : List (List ℕ)). HaveMarks (k + 1) ms log) (sym (ap (λ s. s.marks.items) w.self-is ∙ w.in_ok-push.ensures.items))
          (mark_more old log c.in_ok-newest.newest k were newest (omega (arith, c.len.ensures, c.args.self.now.marks.ok.0, w.if-count-len-eq-STEP.true, c.requires.kept.reached)))
      | else-count-len-eq-STEP w ↦
          subst (λ (ms : List (List ℕ)). HaveMarks (k + 1) ms log) (sym (ap (λ s. s.marks.items) w.self-is)) (mark_none old log k were)
    ] in
    record {
      within = subst (λ (n : ℕ). k + 1 ≤ n) (sym (length-map c.args.log.now arc_value)) (omega (arith, c.requires.more));
      newest = newest;
      reached = marks.reached;
      marks = marks.each;
    }
