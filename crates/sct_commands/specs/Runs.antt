-- A run of several inputs. Each input fills a site of its own. Here are the messages that are read from all inputs, and
-- the faults of the run. The text of the refused lines is defined with the workers that read them. Read by an auditor.
use Rattle.std.specs.FinSet as set
use Rattle.std.specs.Prelude.{ℕ, ◌≡◌, ◌↔◌, ◌⊎◌, ◌&&◌, not, Bool, List, [], ◌∷◌, nat_lt, string_bytes}
use Rattle.std.specs.List.{Contains}
use Rattle.sct_delta.specs.Entries.{messages_of}
use Rattle.sct_lines.specs.Lines.{set_read}
use Rattle.sct_workers.specs.Faults.{IsRefusalNumber}
use Rattle.sct_commands.specs.declared.fault.ProgramFault.{ProgramFault}
use Rattle.sct_commands.specs.declared.fault.ProgramFault.TheVariants as fault
use Rattle.sct_commands.specs.declared.runs.RunAnswer.{RunAnswer}
use Rattle.sct_set.specs.Contents.{Contents}
use Rattle.sct_site.specs.Cores.{Core}
use Rattle.sct_view.specs.StatusText.{status_text_of}
use Rattle.sct_workers.specs.declared.filled.Sites.{Sites}
use Rattle.sct_workers.specs.declared.gate.Point.{Point}
use Rattle.sct_world.specs.Settling.{AreSettled, core_in}

-- a run has 1 to 16 sites
abbrev pub are_sites : ℕ → Bool
are_sites count = nat_lt 0 count && not (nat_lt 16 count)

-- the union of the sets that are read from the inputs
abbrev pub set_of_all : List (List ℕ) → Contents
set_of_all [] = set.empty
set_of_all (input ∷ inputs) = set.union (set_read input) (set_of_all inputs)

-- a run is held (61) only if there is a point at which its gate may hold a worker; a call is
-- refused (66) with the number of a refusal. The other faults are 64, 65 and 67.
abbrev pub RunEndsWhere : (Point → Type 0) → ProgramFault → Type 0
RunEndsWhere may fault.Held = (point : Point) × may point
RunEndsWhere may (fault.Refused number) = IsRefusalNumber number
RunEndsWhere may fault.Usage = Unit {0}
RunEndsWhere may fault.Memory = Unit {0}
RunEndsWhere may fault.NoWorker = Unit {0}
RunEndsWhere may other = ⊥

-- two lists of inputs that have the same inputs, in any order and any number of times, have the same set
abbrev pub NoOrderMatters : Type 0
NoOrderMatters = (some others : List (List ℕ)) → ((input : List ℕ) → Contains some input ↔ Contains others input)
    → set_of_all some ≡ set_of_all others

-- ---- settling

-- The fault of a run whose sites were all filled: out of memory, or a refusal to settle them, with 42, 43 or 44.
abbrev pub IsSettlingFault : ProgramFault → Type 0
IsSettlingFault fault.Memory = Unit {0}
IsSettlingFault (fault.Refused number) = (number ≡ 42) ⊎ ((number ≡ 43) ⊎ (number ≡ 44))
IsSettlingFault other = ⊥

-- The answer of a run is that of the first of its sites after they are settled.
pub record IsSettledAnswer (sites : Sites) (answer : RunAnswer) : Type 0 where
  pub settled : List Core
  pub are_settled : AreSettled sites.cores.items settled
  pub status : answer.status.items ≡ status_text_of (messages_of (core_in settled 0).arrivals)
  pub told : string_bytes answer.told ≡ sites.refusals.text
  pub refused : answer.refused ≡ sites.refusals.count
