-- What the workers of several sites exchange: the entries that they send, and the result for an entry
-- that is handed over. Read by an auditor.
use Rattle.std.specs.Prelude.{ℕ, ◌≡◌, ◌≤◌, ◌++◌, Bool, true, false, List, [], ◌∷◌, Result, Ok, Err}
use Rattle.sct_message.specs.declared.draft.Draft.{Draft}
use Rattle.sct_delta.specs.Entries.{Placed}
use Rattle.sct_delta.specs.declared.fault.DeltaFault.{DeltaFault}
use Rattle.sct_delta.specs.declared.fault.DeltaFault.TheVariants as delta
use Rattle.sct_site.specs.declared.answers.Accepted.{Accepted}
use Rattle.sct_site.specs.declared.answers.Took.{Took}
use Rattle.sct_site.specs.declared.answers.Took.TheVariants as took
use Rattle.sct_desk.specs.Locked.{answer_to_delta}
use Rattle.sct_desk.specs.Passes.{Told, before, site_with}
use Rattle.sct_workers.specs.Faults.{fault_of_delta}
use Rattle.sct_workers.specs.declared.fault.WorkFault.{WorkFault}

-- ---- what is sent

-- a new message has a number of at least 1
abbrev pub IsNumbered : Took → Type 0
IsNumbered (took.Taken n) = 1 ≤ n
IsNumbered took.Repeat = Unit {0}

-- The entry of a message that a site took as new: it has the site's number as its origin, and the number of the take.
pub record IsEntryOf (site : ℕ) (answer : Took) (message : Draft) (entry : Placed) : Type 0 where
  pub number : answer ≡ took.Taken entry.n
  pub origin : entry.origin ≡ site
  pub message_is : entry.message ≡ message

-- ---- what is handed over

-- The result of an answer to a delta for an exchange worker: it was accepted, or an entry before it is missing (41),
-- which is not a fault. Every other refusal is a fault of the worker.
abbrev pub accepted_by : Result Accepted DeltaFault → Result Bool WorkFault
accepted_by (Ok accepted) = Ok true
accepted_by (Err (delta.Gap origin have first)) = Ok false
accepted_by (Err refusal) = Err (fault_of_delta refusal)

-- An entry was handed over to the site `own`. Whether it was accepted follows from the arrivals before it. The
-- receipt of the call is kept after the others.
pub record IsHandedOver (own size : ℕ) (entry : Placed) (old new : List Told) (accepted : Bool) : Type 0 where
  pub receipt : Told
  pub kept : new ≡ old ++ receipt ∷ []
  pub answer : accepted_by (answer_to_delta (site_with own size (before receipt)) (entry ∷ [])) ≡ Ok accepted
