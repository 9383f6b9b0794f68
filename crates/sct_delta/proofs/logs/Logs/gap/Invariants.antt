-- What is left decides.
use Rattle.std.proofs.Common.{◌≡◌, drop}
use Rattle.std.specs.List.{find}
use Rattle.sct_delta.specs.declared.fault.DeltaFault.TheVariants as fault
use Rattle.sct_delta.specs.Logs.{log_in}
use Rattle.sct_delta.specs.Refusals.{gap_refusal, fault_of_entry, is_past, firsts_after, vector_of}
use Rattle.sct_delta.proofs.logs.Logs.gap.Given as goal

abbrev pub invariant-loop-entry : goal.invariant-loop-entry
invariant-loop-entry l =
    gap_refusal (log_in l.self) l.delta
    ≡ fault_of_entry (λ entry. fault.Gap entry.origin (vector_of (log_in l.self) entry.origin) entry.n)
    (find (is_past (log_in l.self)) (firsts_after l.previous (drop l.entry-index l.delta)))
