-- How workers end: the points at which a gate may have held them, the numbers with which calls are refused, and which
-- of several faults is reported. Read by an auditor.
use Rattle.std.specs.Prelude.{ℕ, ◌+◌, ◌≤◌, Result, IfErr}
use Rattle.sct_workers.specs.declared.fault.WorkFault.{WorkFault}
use Rattle.sct_workers.specs.declared.fault.WorkFault.TheVariants as fault
use Rattle.sct_workers.specs.Faults.{IsNotClosed, IsRefusalNumber}
use Rattle.sct_workers.specs.declared.fault.SiteFault.{SiteFault}
use Rattle.sct_workers.specs.declared.fault.SiteFault.TheVariants as site
use Rattle.sct_workers.specs.declared.gate.Point.{Point}

-- a worker was held (61) only if there is a point at which the gate may hold it, and a call was
-- refused (66) with the number of a refusal
abbrev pub EndsWhere : (Point → Type 0) → WorkFault → Type 0
EndsWhere may fault.Held = (point : Point) × may point
EndsWhere may (fault.Refused number) = IsRefusalNumber number
EndsWhere may other = Unit {0}

-- the same for a worker whose thread was started: it never ends with 67
abbrev pub WorkerEndsWhere : (Point → Type 0) → WorkFault → Type 0
WorkerEndsWhere may fault.NoWorker = ⊥
WorkerEndsWhere may reason = EndsWhere may reason

-- the same for a site; a desk is refused to be closed only with 53 or 54
abbrev pub SiteEndsWhere : (Point → Type 0) → SiteFault → Type 0
SiteEndsWhere may (site.Working reason) = EndsWhere may reason
SiteEndsWhere may (site.Closing reason) = IsNotClosed reason

-- the site's workers did their work, but its desk was not closed: 53 or 54
abbrev pub IsClosingFault : SiteFault → Type 0
IsClosingFault (site.Working reason) = ⊥
IsClosingFault (site.Closing reason) = IsNotClosed reason

-- the fault of a site, as that of a run
abbrev pub work_fault_of : SiteFault → WorkFault
work_fault_of (site.Working reason) = reason
work_fault_of (site.Closing reason) = reason

-- the order in which the faults of workers are reported: 67, then 65, then 61, then 66 with the least number
abbrev pub rank_of : WorkFault → ℕ
rank_of fault.NoWorker = 0
rank_of fault.Memory = 1
rank_of fault.Held = 2
rank_of (fault.Refused number) = 3 + number

-- no fault of the result comes before this one in that order
abbrev pub ComesFirst : {T : Type 0} → WorkFault → Result T WorkFault → Type 0
ComesFirst reported result = IfErr result (λ reason. rank_of reported ≤ rank_of reason)

-- A fault of workers is reported before a refusal to close a desk. Among such refusals the first site's is reported. 300 is
-- above each rank of a worker's fault: a refusal's number is a byte, so these ranks end at 3 + 255.
abbrev pub site_rank_of : SiteFault → ℕ
site_rank_of (site.Working reason) = rank_of reason
site_rank_of (site.Closing reason) = 300
