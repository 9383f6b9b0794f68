-- The rows, whichever threads found them.
use Rattle.std.proofs.Common.{◌∙◌, ap, subst, sym}
use Rattle.rayon.proofs.ListFacts.{AllZip-weaken, IfOk-then}
use Rattle.rayon.proofs.ToStd.{slice-map}
use Rattle.sct_reconcile.specs.Filed.{IsFiled}
use Rattle.sct_reconcile.specs.Reports.{row_on}
use Rattle.sct_reconcile.proofs.reports.rows_on.Goals as goal

pub returns : goal.returns
returns g c =
    let slice = ap (λ it. it.slice.now) c.map.ensures.base ∙ c.par_iter.ensures in
    IfOk-then c.collect.result _ _ c.collect.ensures (λ v h. λ rows filed.
    let chain = h.1 in
    let view = ap (λ f. f.0) c.map.ensures.f in
    let index = ap (λ f. f.1) c.map.ensures.f in
    let filed_there = subst (λ i. IsFiled i.now rows) (sym index) filed in
    h.2 ∙ slice-map chain.0 c.args.keys.now (chain.1 ∙ slice) (row_on c.args.view.now rows) h.0
    (AllZip-weaken _ _ (λ z y p. p rows filed_there ∙ ap (λ v. row_on v.now rows z.now) view) chain.0 h.0 chain.2))
