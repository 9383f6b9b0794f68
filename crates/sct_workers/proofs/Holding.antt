-- Faults that may end a worker. Proof plumbing.
use Rattle.std.proofs.Common.{◌≡◌, ◌⊎◌, inl, inr, subst, sym, arith}
use Rattle.std.specs.Prelude.{Result, Ok, Err, IfErr, OnOk}
use Rattle.sct_workers.specs.declared.fault.WorkFault.{WorkFault}
use Rattle.sct_workers.specs.declared.fault.WorkFault.TheVariants as fault
use Rattle.sct_delta.specs.declared.fault.DeltaFault.{DeltaFault}
use Rattle.sct_delta.specs.declared.fault.DeltaFault.TheVariants as delta
use Rattle.sct_desk.specs.declared.fault.DeskFault.{DeskFault}
use Rattle.sct_desk.specs.declared.fault.DeskFault.TheVariants as desk
use Rattle.sct_workers.specs.Faults.{IsNotClosed, fault_of_delta, fault_of_desk}
use Rattle.sct_workers.specs.declared.gate.Point.{Point}
use Rattle.sct_workers.specs.declared.fault.SiteFault.{SiteFault}
use Rattle.sct_workers.specs.declared.fault.SiteFault.TheVariants as site
use Rattle.sct_workers.specs.Holds.{EndsWhere, IsClosingFault, SiteEndsWhere, WorkerEndsWhere, work_fault_of}

-- a refusal that may end a run: every one but a gap (41) and a wrong place (45)
abbrev pub EndsRuns : DeltaFault → Type 0
EndsRuns (delta.Gap origin have first) = ⊥
EndsRuns (delta.BadDelta line) = ⊥
EndsRuns refusal = Unit {0}

pub delta_ends : (may : Point → Type 0) (refusal : DeltaFault) → EndsRuns refusal → WorkerEndsWhere may (fault_of_delta refusal)
delta_ends may delta.Memory is = tt
delta_ends may (delta.Gap origin have first) is = absurd is
delta_ends may (delta.Fork origin n) is = inl (omega arith, omega arith)
delta_ends may (delta.OwnAhead n) is = inl (omega arith, omega arith)
delta_ends may delta.BadSite is = inl (omega arith, omega arith)
delta_ends may (delta.BadDelta line) is = absurd is

pub desk_ends : (may : Point → Type 0) (refusal : DeskFault) → WorkerEndsWhere may (fault_of_desk refusal)
desk_ends may desk.BadSite = inl (omega arith, omega arith)
desk_ends may desk.Memory = tt
desk_ends may (desk.Unpublished from) = tt
desk_ends may desk.NoPlace = inr (omega arith, omega arith)
desk_ends may (desk.Pending from) = inr (omega arith, omega arith)
desk_ends may (desk.Untold position) = inr (omega arith, omega arith)
desk_ends may desk.Closed = inr (omega arith, omega arith)

-- the fault of a worker may end a site
pub worker_ends : (may : Point → Type 0) (reason : WorkFault) → WorkerEndsWhere may reason → EndsWhere may reason
worker_ends may fault.Held ends = ends
worker_ends may fault.Memory ends = tt
worker_ends may (fault.Refused number) ends = ends
worker_ends may fault.NoWorker ends = absurd ends

-- a desk's refusal may end a site
pub opening_ends : (may : Point → Type 0) (refusal : DeskFault) → EndsWhere may (fault_of_desk refusal)
opening_ends may refusal = worker_ends may (fault_of_desk refusal) (desk_ends may refusal)

-- a refusal of a desk that was to be closed, as a worker's fault
not_closed_ends : (may : Point → Type 0) (reason : WorkFault) → IsNotClosed reason → EndsWhere may reason
not_closed_ends may reason (inl pending) = subst (EndsWhere may) (sym pending) (opening_ends may (desk.Pending 0))
not_closed_ends may reason (inr untold) = subst (EndsWhere may) (sym untold) (opening_ends may (desk.Untold 0))

-- a site's fault, as a worker's
pub site_ends : (may : Point → Type 0) (reason : SiteFault) → SiteEndsWhere may reason → EndsWhere may (work_fault_of reason)
site_ends may (site.Working reason) ends = ends
site_ends may (site.Closing reason) ends = not_closed_ends may reason ends

-- a fault that is no gate's is one that any gate may leave
pub no_gate : (may : Point → Type 0) (reason : WorkFault) → EndsWhere (λ point. ⊥) reason → EndsWhere may reason
no_gate may fault.Held ends = absurd ends.1
no_gate may fault.Memory ends = tt
no_gate may (fault.Refused number) ends = ends
no_gate may fault.NoWorker ends = tt

-- the same of a worker
pub worker_no_gate : (may : Point → Type 0) (reason : WorkFault) → WorkerEndsWhere (λ point. ⊥) reason → WorkerEndsWhere may reason
worker_no_gate may fault.Held ends = absurd ends.1
worker_no_gate may fault.Memory ends = tt
worker_no_gate may (fault.Refused number) ends = ends
worker_no_gate may fault.NoWorker ends = absurd ends

-- a fault that is out of memory or that of one of three workers
pub one_ends : {T : Type 0} (may : Point → Type 0) (taken accepted answered all : Result T WorkFault)
    → IfErr all (λ e. (e ≡ fault.Memory) ⊎ ((taken ≡ Err e) ⊎ ((accepted ≡ Err e) ⊎ (answered ≡ Err e))))
    → IfErr taken (EndsWhere may) → IfErr accepted (EndsWhere may) → IfErr answered (EndsWhere may) → IfErr all (EndsWhere may)
one_ends may taken accepted answered (Ok kept) one first second third = tt
one_ends may taken accepted answered (Err e) one first second third =
    elim one as (λ c. EndsWhere may e) [
      | inl memory ↦ subst (EndsWhere may) (sym memory) tt
      | inr (inl its) ↦ subst (λ r. IfErr r (EndsWhere may)) its first
      | inr (inr (inl its)) ↦ subst (λ r. IfErr r (EndsWhere may)) its second
      | inr (inr (inr its)) ↦ subst (λ r. IfErr r (EndsWhere may)) its third
    ]

-- the fault of a site, whose workers failed or whose desk was not closed
pub closed_ends : {T C : Type 0} (may : Point → Type 0) (kept : Result T WorkFault) (closed : Result C SiteFault) → IfErr kept (EndsWhere may)
    → IfErr kept (λ reason. closed ≡ Err (site.Working reason)) → OnOk kept (IfErr closed IsClosingFault) → IfErr closed (SiteEndsWhere may)
closed_ends may (Ok kept) (Ok core) ends working closing = tt
closed_ends may (Ok kept) (Err (site.Working reason)) ends working closing = absurd closing
closed_ends may (Ok kept) (Err (site.Closing reason)) ends working closing = closing
closed_ends may (Err reason) closed ends working closing = subst (λ r. IfErr r (SiteEndsWhere may)) (sym working) ends
