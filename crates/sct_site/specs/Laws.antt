-- Laws of sites, whatever they hold. Read by an auditor. Each law is the contract of a function.
use Rattle.std.specs.Prelude.{◌≡◌, ℕ, true, List, [], None}
use Rattle.sct_message.specs.declared.draft.Draft.{Draft}
use Rattle.sct_delta.specs.Entries.{Placed, IsDelta}
use Rattle.sct_site.specs.Cores.{Core, IsSite, core_joined, core_taken, is_open, refusal_by}

-- a site is one when it is opened
abbrev pub IsSiteWhenOpened : Type 0
IsSiteWhenOpened =
    (number group : ℕ) → is_open number group ≡ true → IsSite (record { number = number; group = group; arrivals = [] })

-- and it is one after a take
abbrev pub IsSiteAfterTakes : Type 0
IsSiteAfterTakes = (core : Core) (message : Draft) → IsSite core → IsSite (core_taken core message)

-- and it is one after it accepted a delta
abbrev pub IsSiteAfterDeltas : Type 0
IsSiteAfterDeltas =
    (core : Core) (delta : List Placed) → IsSite core → IsDelta delta → refusal_by core delta ≡ None
    → IsSite (core_joined core delta)
