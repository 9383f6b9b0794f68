-- The messages of marked labels are what is kept, and the others are what is closed.
use Rattle.std.proofs.Common.{◌∙◌, sym, ap, subst, ℕ, List, Bool, not}
use Rattle.sct_message.specs.Sets.{MessageSet, messages_in}
use Rattle.sct_set.specs.Contents.{contents_of}
use Rattle.sct_keep.specs.Keep.{IsKept, closed_of}
use Rattle.sct_keep.specs.Marks.{AreLabelled, AreMarks, is_marked}
use Rattle.sct_keep.proofs.KeepLemmas.{is_kept_of}
use Rattle.sct_keep.proofs.SplitLemmas.{is_closed, is_kept}
use Rattle.sct_keep.proofs.splitting.split.Goals as goal

pub returns-clause-kept : goal.returns-clause-kept
returns-clause-kept c =
    let ms = messages_in c.args.messages.now in
    let ls = c.in_ok-groups.groups.labels.items in
    let marks = c.in_ok-marks.marks.items in
    let kept = messages_in c.in_ok-split_by.field-0.kept.items in
    let day = c.args.day.now in
    let are : AreLabelled ms ls (is_marked marks) kept =
    subst (λ (xs : List ℕ). AreLabelled ms xs (is_marked marks) kept) c.deref.ensures.value
    (subst (λ (bs : List Bool). AreLabelled ms c.deref.result.now (is_marked bs) kept) c.deref-2.ensures.value c.in_ok-split_by.ensures.kept) in
    let open_ones : AreMarks day (contents_of ms) ms ls (is_marked marks) =
    subst (λ (h : MessageSet). AreMarks day h ms ls (is_marked marks)) (sym c.requires) c.in_ok-marks.ensures in
    is_kept_of day c.args.view.now (contents_of kept)
    (subst (λ (h : MessageSet). IsKept day h (contents_of kept)) c.requires
    (is_kept day ms ls (is_marked marks) kept c.in_ok-groups.ensures.groups open_ones are))

pub returns-clause-closed : goal.returns-clause-closed
returns-clause-closed c =
    let ms = messages_in c.args.messages.now in
    let ls = c.in_ok-groups.groups.labels.items in
    let marks = c.in_ok-marks.marks.items in
    let kept = messages_in c.in_ok-split_by.field-0.kept.items in
    let closed = messages_in c.in_ok-split_by.field-0.closed.items in
    let day = c.args.day.now in
    let are : AreLabelled ms ls (is_marked marks) kept =
    subst (λ (xs : List ℕ). AreLabelled ms xs (is_marked marks) kept) c.deref.ensures.value
    (subst (λ (bs : List Bool). AreLabelled ms c.deref.result.now (is_marked bs) kept) c.deref-2.ensures.value c.in_ok-split_by.ensures.kept) in
    let rest : AreLabelled ms ls (λ l. not (is_marked marks l)) closed =
    subst (λ (xs : List ℕ). AreLabelled ms xs (λ l. not (is_marked marks l)) closed) c.deref.ensures.value
    (subst (λ (bs : List Bool). AreLabelled ms c.deref.result.now (λ l. not (is_marked bs l)) closed) c.deref-2.ensures.value c.in_ok-split_by.ensures.closed) in
    let open_ones : AreMarks day (contents_of ms) ms ls (is_marked marks) =
    subst (λ (h : MessageSet). AreMarks day h ms ls (is_marked marks)) (sym c.requires) c.in_ok-marks.ensures in
    let is : IsKept day c.args.view.now (contents_of kept) =
    subst (λ (h : MessageSet). IsKept day h (contents_of kept)) c.requires
    (is_kept day ms ls (is_marked marks) kept c.in_ok-groups.ensures.groups open_ones are) in
    is_closed day ms ls (is_marked marks) kept c.in_ok-groups.ensures.groups open_ones are closed rest
    ∙ ap (λ (h : MessageSet). closed_of h (contents_of kept)) c.requires
    ∙ ap (closed_of c.args.view.now) (is_kept_of day c.args.view.now (contents_of kept) is)
