-- The late messages are marked, and then the transfers that are not settled.
use Rattle.std.proofs.Common.{◌≡◌, ◌∙◌, sym, ap, subst, ℕ, List, Bool, false, take, drop, length, ◌++◌}
use Rattle.std.proofs.Math.ListN.{replicate}
use Rattle.std.proofs.Math.Seq.{take-append_seam}
use Rattle.sct_message.specs.Sets.{MessageSet, messages_in}
use Rattle.sct_message.specs.Transfers.{keys_of}
use Rattle.sct_set.specs.Contents.{contents_of}
use Rattle.sct_keep.specs.Marks.{AreMarkedMore, AreMarks, IsLate, IsUnsettled, is_marked}
use Rattle.sct_keep.proofs.MarkLemmas.{all_marks, unmarked}
use Rattle.sct_keep.proofs.marks.marks_of.Goals as goal

pub returns : goal.returns
returns c =
    let ms = messages_in c.args.messages.now in
    let ls = c.args.groups.now.labels.items in
    let index = c.args.groups.now.first in
    let day = c.args.day.now in
    let items = c.in_ok-marks.marks.items in
    let none = replicate (length c.args.messages.now) false in
    let late = c.mark_late.new.marks in
    let marks = c.mark_unsettled.new.marks in
    let begun : c.deref_mut-row.result.now ≡ none = c.deref_mut-row.ensures.value ∙ c.in_ok-marks.ensures.items_if_clones_equal (λ y e. e) in
    let one : AreMarkedMore (IsLate day ms) ls none late =
    subst (λ (xs : List ℕ). AreMarkedMore (IsLate day ms) xs none late) c.deref.ensures.value
    (subst (λ (bs : List Bool). AreMarkedMore (IsLate day ms) c.deref.result.now bs late) begun c.mark_late.ensures) in
    let other : AreMarkedMore (IsUnsettled (contents_of ms) index (keys_of (contents_of ms))) ls late marks =
    subst (λ (h : MessageSet). AreMarkedMore (IsUnsettled h index (keys_of h)) ls late marks) (sym c.requires.held)
    (subst (λ (xs : List ℕ). AreMarkedMore (IsUnsettled c.args.view.now index (keys_of c.args.view.now)) xs late marks) c.deref-2.ensures.value c.in_ok-mark_unsettled.ensures) in
    let long : c.in_ok-marks.marks.len ≡ length marks =
    c.in_ok-marks.marks.ok.0 ∙ ap length (sym c.deref_mut-row.ensures.value) ∙ sym (other.count ∙ c.mark_late.ensures.count) in
    let all : take c.in_ok-marks.marks.len (marks ++ drop (length marks) items) ≡ marks =
    ap (λ n. take n (marks ++ drop (length marks) items)) long ∙ take-append_seam marks (drop (length marks) items) in
    subst (λ (bs : List Bool). AreMarks day c.args.view.now ms ls (is_marked bs)) (sym all)
    (subst (λ (h : MessageSet). AreMarks day h ms ls (is_marked marks)) c.requires.held
    (all_marks day ms ls index c.requires.groups c.requires.first none marks late (unmarked (length c.args.messages.now)) one other))
