-- Laws of settled sites. Read by an auditor. Each law is the contract of a function.
use Rattle.std.specs.Prelude.{◌≡◌, ◌<◌, ℕ, List, length, IsPermutation}
use Rattle.sct_delta.specs.Entries.{Placed, holds, messages_of}
use Rattle.sct_delta.specs.declared.fault.DeltaFault.{DeltaFault}
use Rattle.sct_delta.specs.declared.fault.DeltaFault.TheVariants as fault
use Rattle.sct_site.specs.Cores.{Core, IsSite}
use Rattle.sct_world.specs.Answers.{texts_of}
use Rattle.sct_world.specs.Settling.{core_in, AreSettled, IsWhy}

-- Settled sites have the same texts.
abbrev pub SettledAnswerAlike : Type 0
SettledAnswerAlike = (before after : List Core) → AreSettled before after
    → (i j : ℕ) → i < length before → j < length before
    → texts_of (messages_of (core_in after i).arrivals) ≡ texts_of (messages_of (core_in after j).arrivals)

-- Settled sites can be settled again: the only refusal is out of memory, and no site gains an entry.
pub record IsSettledAgain (settled : List Core) : Type 0 where
  pub refusal : (refusal : DeltaFault) → IsWhy settled refusal → refusal ≡ fault.Memory
  pub same : (again : List Core) → AreSettled settled again → (place : ℕ) → place < length settled
      → (entry : Placed) → holds (core_in again place).arrivals entry ≡ holds (core_in settled place).arrivals entry

-- Settling twice is settling once.
abbrev pub SettlesOnce : Type 0
SettlesOnce = (before settled : List Core) → AreSettled before settled
    → ((place : ℕ) → place < length settled → IsSite (core_in settled place)) → IsSettledAgain settled

-- Sites settled in one order hold the same as when settled in another order.
abbrev pub SettlesInAnyOrder : Type 0
SettlesInAnyOrder = (some other settled also_settled : List Core) → IsPermutation some other
    → AreSettled some settled → AreSettled other also_settled
    → (i j : ℕ) → i < length some → j < length other
    → (entry : Placed) → holds (core_in settled i).arrivals entry ≡ holds (core_in also_settled j).arrivals entry
