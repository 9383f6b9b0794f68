-- What the logs cut is the entries of the arrivals above the vector, and the site is one.
use Rattle.std.proofs.Common.{ap, sym, ◌∙◌, ◌≡◌, ◌+◌, ℕ, List, drop}
use Rattle.std.specs.Prelude.{Result, Ok, Err, IfOk}
use Rattle.sct_delta.specs.Entries.{Placed, IsDelta, IsArrivals, numbered}
use Rattle.sct_delta.specs.Logs.{log_in}
use Rattle.sct_delta.specs.Refusals.{IsCut}
use Rattle.sct_delta.specs.Vectors.{count_in}
use Rattle.sct_delta.specs.declared.fault.DeltaFault.{DeltaFault}
use Rattle.sct_message.specs.declared.draft.Draft.{Draft}
use Rattle.sct_site.specs.Cores.{entries_above, logs_of}
use Rattle.sct_site.proofs.AboveLemmas.{cut_is}
use Rattle.sct_site.proofs.AcceptLemmas.{logs_are}
use Rattle.sct_site.proofs.SiteLemmas.{site_is}
use Rattle.sct_site.proofs.site_core.SiteCore.cut.Goals as goal

-- a result that is a delta is the entries above the vector
cut_by : (result : Result (List Placed) DeltaFault) (count : ℕ → ℕ) (log : ℕ → List Draft) (es : List Placed) → IsArrivals es → log ≡ logs_of es
    → IfOk result (λ delta. IsCut log count delta) → IfOk result (λ delta. IsDelta delta) → IfOk result (λ delta. delta ≡ entries_above count es)
cut_by (Ok ds) count log es arrive same cut shape = cut_is count es ds arrive shape (λ o. cut o ∙ ap (λ (l : ℕ → List Draft). numbered o (count o + 1) (drop (count o) (l o))) same)
cut_by (Err e) count log es arrive same cut shape = tt

pub returns-clause-cut : goal.returns-clause-cut
returns-clause-cut c =
    rw (sym c.self.view_is)
    (cut_by c.cut.result (count_in c.args.vector.now) (log_in c.self.inside.logs) c.self.inside.arrivals.items c.self.invariant.order
    (logs_are c.self.inside.logs c.self.inside.arrivals.items c.self.invariant.by_origin) c.cut.ensures.cut c.cut.ensures.shape)

pub returns-clause-site : goal.returns-clause-site
returns-clause-site c =
    site_is c.args.self.now c.self.inside.number c.self.inside.group c.self.inside.logs c.self.inside.arrivals.items c.self.inside.archive c.self.view_is c.self.invariant c.cut.ensures.inside
