-- The numbers of a world's faults, and the faults that a site of a world never answers. Read by an auditor.
use Rattle.std.specs.Prelude.{ℕ, Bool, true, false}
use Rattle.sct_delta.specs.Faults.{delta_fault_number}
use Rattle.sct_delta.specs.declared.fault.DeltaFault.{DeltaFault}
use Rattle.sct_delta.specs.declared.fault.DeltaFault.TheVariants as delta
use Rattle.sct_world.specs.declared.event.Outcome.{Outcome}
use Rattle.sct_world.specs.declared.event.Outcome.TheVariants as outcome
use Rattle.sct_world.specs.declared.fault.WorldFault.{WorldFault}
use Rattle.sct_world.specs.declared.fault.WorldFault.TheVariants as fault

-- the number of a fault
abbrev pub world_fault_number : WorldFault → ℕ
world_fault_number fault.BadSite = 44
world_fault_number fault.NoSuchDelta = 47
world_fault_number (fault.Delta refusal) = delta_fault_number refusal

-- a site did not refuse a delta for a fork (42), for an entry ahead of its owner (43), for an origin outside the
-- group (44) or for the form of the delta (45)
abbrev pub IsNoFork : DeltaFault → Type 0
IsNoFork (delta.Fork origin n) = ⊥
IsNoFork (delta.OwnAhead n) = ⊥
IsNoFork delta.BadSite = ⊥
IsNoFork (delta.BadDelta line) = ⊥
IsNoFork refusal = Unit {0}

-- a world did not pass on such a refusal; its own 44, for a site that it does not have, is another value
abbrev pub IsNoForkFault : WorldFault → Type 0
IsNoForkFault (fault.Delta refusal) = IsNoFork refusal
IsNoForkFault other = Unit {0}

-- the fault is out of memory
abbrev pub is_memory : WorldFault → Bool
is_memory (fault.Delta delta.Memory) = true
is_memory other = false

-- an event did not end with such a refusal of a site
abbrev pub IsNoForkOutcome : Outcome → Type 0
IsNoForkOutcome (outcome.Done step) = Unit {0}
IsNoForkOutcome (outcome.Refused refusal) = IsNoForkFault refusal
