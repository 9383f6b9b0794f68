-- Laws of hubs of programs that embed a site. Read by an auditor. Each law is the contract of a function.
use Rattle.std.specs.Prelude.{◌≡◌, ◌++◌, ◌∷◌, [], ℕ, true, false, List}
use Rattle.sct_message.specs.declared.draft.Draft.{Draft}
use Rattle.sct_lines.specs.LineLaws.{IsOfWholeLines}
use Rattle.sct_lines.specs.Lines.{messages_read}
use Rattle.sct_delta.specs.DeltaText.{delta_in}
use Rattle.sct_delta.specs.Entries.{Placed, holds, log_of}
use Rattle.sct_delta.specs.Refusals.{is_held}
use Rattle.sct_site.specs.Cores.{Core, core_taken, is_repeat}
use Rattle.sct_exchange.specs.Journals.{Begins, own_log}
use Rattle.sct_exchange.specs.Laws.{HaveEqualVectors, IsAcceptedOrEarly}
use Rattle.sct_exchange.specs.Ways.{IsAmong}
use Rattle.sct_requests.specs.Steps.{core_offered}
use Rattle.sct_hub.specs.Embedded.{AllMayHappen, Event, IsHub, NoneIsLost, World, after, own_messages}
use Rattle.sct_hub.specs.Laws.{SitesAnswerAlike}

-- A site refuses a text that was cut in its hub only because it is early: never with 42, 43, 44 or 45.
abbrev pub EmbeddedSitesNeverFork : Type 0
EmbeddedSitesNeverFork =
    (sites : ℕ) (world : World) → IsHub sites world → (site : ℕ)
    → (text : List ℕ) → IsAmong world.cuts text → IsAcceptedOrEarly (world.core site) text

-- Two sites of a hub with equal vectors hold the same entries and answer alike.
abbrev pub EqualSitesAnswerAlike : Type 0
EqualSitesAnswerAlike =
    (sites : ℕ) (world : World) → IsHub sites world → (one other : ℕ)
    → HaveEqualVectors (world.core one).arrivals (world.core other).arrivals
    → SitesAnswerAlike (world.core one) (world.core other)

-- The journal of each site only grows, whatever happens, over restores too.
abbrev pub JournalsOnlyGrow : Type 0
JournalsOnlyGrow =
    (sites : ℕ) (world : World) (events : List Event) → IsHub sites world → AllMayHappen sites world events → (site : ℕ)
    → Begins (world.journal site) ((after sites world events).journal site)

-- A message that a journal has keeps its number, whatever happens: the own messages of the site begin with the journal.
abbrev pub WrittenMessagesLast : Type 0
WrittenMessagesLast =
    (sites : ℕ) (world : World) (events : List Event) → IsHub sites world → AllMayHappen sites world events → (site : ℕ)
    → Begins (world.journal site) (own_messages (after sites world events) site)

-- The own messages of each site only grow, whatever happens, if each restore is from a journal that has all of them.
abbrev pub OwnMessagesOnlyGrow : Type 0
OwnMessagesOnlyGrow =
    (sites : ℕ) (world : World) (events : List Event) → IsHub sites world → AllMayHappen sites world events
    → NoneIsLost sites world events → (site : ℕ)
    → Begins (own_messages world site) (own_messages (after sites world events) site)

-- No number is given to two messages: an entry in a journal is the only one of its number that a site holds from then on.
abbrev pub NoNumberIsGivenTwice : Type 0
NoNumberIsGivenTwice =
    (sites : ℕ) (world : World) (events : List Event) → IsHub sites world → AllMayHappen sites world events
    → (one other : Placed) (site : ℕ) → is_held world.journal one ≡ true
    → holds ((after sites world events).core site).arrivals other ≡ true
    → one.origin ≡ other.origin → one.n ≡ other.n → one.message ≡ other.message

-- ---- the rules that a program keeps

-- A journal with a site's own messages has them again after the site takes a new message and the journal gets its line.
abbrev pub JournalsHaveTheMessages : Type 0
JournalsHaveTheMessages =
    (core : Core) (journal line : List ℕ) (message : Draft) → IsOfWholeLines journal → messages_read line ≡ message ∷ []
    → is_repeat core message ≡ false → own_log journal ≡ log_of core.number core.arrivals
    → own_log (journal ++ line) ≡ log_of core.number (core_taken core message).arrivals

-- A repeat adds nothing to a site's own messages.
abbrev pub RepeatsAddNothing : Type 0
RepeatsAddNothing =
    (core : Core) (message : Draft) → is_repeat core message ≡ true
    → log_of core.number (core_taken core message).arrivals ≡ log_of core.number core.arrivals

-- A delta text adds nothing to a site's own messages.
abbrev pub DeltasAddNothing : Type 0
DeltasAddNothing =
    (core : Core) (text : List ℕ)
    → log_of core.number (core_offered core (delta_in text)).arrivals ≡ log_of core.number core.arrivals
