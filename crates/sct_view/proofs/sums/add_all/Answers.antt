-- An entry more is added, and the others are left.
use Rattle.std.proofs.Common.{◌≡◌, ◌∙◌, ◌∷◌, ℕ, List, ap, subst, sym, rules}
use Rattle.std.specs.List.{IsDistinct}
use Rattle.std.specs.Map.{keys_of}
use Rattle.sct_element.specs.Text.{is_text}
use Rattle.sct_view.specs.Kept.{totals_at}
use Rattle.sct_view.specs.Totals.{plus}
use Rattle.sct_view.specs.declared.totals.Totals.{Totals}
use Rattle.sct_view.proofs.ShareLemmas.{first_added, rest_apart, totals_among}
use Rattle.sct_view.proofs.sums.add_all.Goals as goal

pub loop-bank-preserved : goal.loop-bank-preserved
loop-bank-preserved c =
    let rest = c.next.new.self in
    let is : c.loop-bank.bank-iterator ≡ (c.in-Some.bank.now, c.in-Some.share.now) ∷ rest = search rules in
    let apart = subst (λ (es : List (List ℕ × Totals)). IsDistinct is_text (keys_of es)) is c.loop-bank.invariant.0 in (
      rest_apart (c.in-Some.bank.now, c.in-Some.share.now) rest apart,
      λ p. first_added rest c.in-Some.bank.now c.in-Some.share.now apart (totals_at c.loop-bank.totals) (totals_at c.add.new.totals) c.in_ok-add.ensures p
          ∙ ap (λ (es : List (List ℕ × Totals)). plus (totals_at c.loop-bank.totals p) (totals_among es p)) (sym is)
          ∙ c.loop-bank.invariant.1 p,
    )
