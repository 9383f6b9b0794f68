-- The message that is taken is the one that was shared, and the receipt shows it.
use Rattle.std.proofs.Common.{◌≡◌, ◌∙◌, ◌∷◌, [], List, Bool, true, false, ◌||◌, ap, sym, rules, subst}
use Rattle.std.specs.Arc.{arc_value}
use Rattle.sct_message.specs.declared.draft.Draft.{Draft}
use Rattle.sct_message.specs.Order.{same_message}
use Rattle.sct_message.specs.Sets.{MessageSet}
use Rattle.sct_set.specs.Contents.{contents_of}
use Rattle.sct_set.proofs.ContentsLemmas.{contains-contents_of, same_is}
use Rattle.sct_desk.specs.Passes.{Told}
use Rattle.sct_workers.specs.Kept.{AllShown, Keeps, shows}
use Rattle.sct_run_tests.proofs.receipts.expect_taken.Goals as goal

alone : (b : Bool) → (b || false) ≡ true → b ≡ true
alone true e = e
alone false e = e

one_shown : (m : Draft) (r : Told) → shows m r ≡ true → AllShown (contents_of (m ∷ [])) (r ∷ [])
one_shown m r shown d has =
    let same : m ≡ d = same_is m d (alone (same_message m d) (sym (contains-contents_of (m ∷ []) d) ∙ has)) in
    ap (λ (b : Bool). b || false) (ap (λ (x : Draft). shows x r) (sym same) ∙ shown)

pub returns-clause-keeps : goal.returns-clause-keeps
returns-clause-keeps g c =
    let same : arc_value c.in-Ok.shared ≡ arc_value c.args.message.now = search rules in
    subst (λ (held : MessageSet). Keeps g.J.Site.book g.J.Site.number g.J.Site.group held c.in-Ok-take_for_receipt.receipt) (sym c.requires)
    (subst (λ (d : Draft). Keeps g.J.Site.book g.J.Site.number g.J.Site.group (contents_of (d ∷ [])) c.in-Ok-take_for_receipt.receipt) same c.in-Ok-take_for_receipt.ensures.keeps)

pub returns-clause-shown : goal.returns-clause-shown
returns-clause-shown g c =
    let same : arc_value c.in-Ok.shared ≡ arc_value c.args.message.now = search rules in
    subst (λ (held : MessageSet). AllShown held (c.in-Ok-take_for_receipt.receipt ∷ [])) (sym c.requires)
    (one_shown (arc_value c.args.message.now) c.in-Ok-take_for_receipt.receipt
    (subst (λ (d : Draft). shows d c.in-Ok-take_for_receipt.receipt ≡ true) same c.in-Ok-take_for_receipt.ensures.shown))
