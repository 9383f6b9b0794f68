-- Laws of sites that are made anew and of peers that catch up. Read by an auditor. Each law is the contract of a function.
use Rattle.std.specs.Prelude.{◌≡◌, ◌≤◌, ◌⊎◌, ◌++◌, ℕ, true, List, [], ◌∷◌, codes, None, Ok}
use Rattle.std.specs.List.{All}
use Rattle.sct_message.specs.declared.draft.Draft.{Draft}
use Rattle.sct_set.specs.Archive.{IsReadAgain}
use Rattle.sct_lines.specs.LineLaws.{IsOfWholeLines}
use Rattle.sct_lines.specs.Lines.{refusals_told, told_after}
use Rattle.sct_delta.specs.DeltaText.{delta_in}
use Rattle.sct_delta.specs.Entries.{Placed, held_from, holds, log_of}
use Rattle.sct_site.specs.Cores.{Core, IsSite, core_joined, entries_above, is_open, refusal_by}
use Rattle.sct_exchange.specs.Journals.{Begins, core_taking, own_log}
use Rattle.sct_exchange.specs.Laws.{HaveEqualVectors, HoldAlike}
use Rattle.sct_exchange.specs.Rounds.{core_with, is_accepted}
use Rattle.sct_exchange.specs.Sites.{arrivals_after, refused_after, site_after}
use Rattle.sct_embed.specs.Asking.{lines_of_entries, own_above}
use Rattle.sct_embed.specs.Restoring.{core_restored, offered, restored_text}
use Rattle.sct_hub.specs.Hubs.{AreFew, IsHub, World, arrivals_in, cut_in, site_in}
use Rattle.sct_hub.specs.Laws.{SitesAnswerAlike}

-- ---- a site that is made anew

-- Two sites are one site: they have the same number, group, entries and vector, and they answer alike. Only the order in
-- which their entries came may differ.
pub record AreOneSite (one other : Core) : Type 0 where
  pub number : one.number ≡ other.number
  pub group : one.group ≡ other.group
  pub entries : HoldAlike one.arrivals other.arrivals
  pub vectors : HaveEqualVectors one.arrivals other.arrivals
  pub answers : SitesAnswerAlike one other

-- The text is read as all of the entries: it is a cut above the vector that counts nothing.
abbrev pub IsCutOfAll : List ℕ → List Placed → Type 0
IsCutOfAll text arrivals = delta_in text ≡ Ok (entries_above (λ origin. 0) arrivals)

-- The journal and the text make the site that there was. The text is not refused: only lines of the journal are reported.
pub record MakesSiteAgain (core : Core) (journal text : List ℕ) : Type 0 where
  pub site : AreOneSite core (core_restored core.number core.group journal text)
  pub accepted : refused_after core.number core.group journal (offered text) ≡ []
  pub report : restored_text core.number core.group journal text ≡ told_after (codes "file 1 ") (refusals_told journal)

-- A site that is restored from a journal with its own log and one cut of everything is the site that it was.
abbrev pub SitesAreRestored : Type 0
SitesAreRestored =
    (core : Core) (journal text : List ℕ) → IsSite core → own_log journal ≡ log_of core.number core.arrivals
    → IsCutOfAll text core.arrivals → MakesSiteAgain core journal text

-- One cut of everything is as good as all deltas: a site that is given that cut in their place is the same site.
abbrev pub OneCutIsEnough : Type 0
OneCutIsEnough =
    (number group : ℕ) (journal : List ℕ) (texts : List (List ℕ)) (whole : List ℕ) → is_open number group ≡ true
    → IsCutOfAll whole (arrivals_after number group journal texts)
    → AreOneSite (site_after number group journal texts).core (site_after number group journal (whole ∷ [])).core

-- ---- a peer that asks

-- one of two logs begins with the other
abbrev pub AgreeSoFar : List Draft → List Draft → Type 0
AgreeSoFar one other = Begins one other ⊎ Begins other one

-- Two sites are peers: they are of one group, and their logs agree so far. The second has each of its own messages that the
-- first has.
pub record ArePeers (giver taker : Core) : Type 0 where
  pub giver_is : IsSite giver
  pub taker_is : IsSite taker
  pub group : giver.group ≡ taker.group
  pub agree : (origin : ℕ) → AgreeSoFar (log_of origin giver.arrivals) (log_of origin taker.arrivals)
  pub own : held_from taker.number giver.arrivals ≤ held_from taker.number taker.arrivals

-- a vector counts no more of any origin than there are entries of it
abbrev pub IsAtMost : (ℕ → ℕ) → List Placed → Type 0
IsAtMost have arrivals = (origin : ℕ) → have origin ≤ held_from origin arrivals

-- the second list has each entry of the first
abbrev pub HasEachOf : List Placed → List Placed → Type 0
HasEachOf some all = (entry : Placed) → holds some entry ≡ true → holds all entry ≡ true

-- The taker does not refuse the delta, and then holds each entry that the giver holds.
pub record CatchesUpBy (giver taker : Core) (delta : List Placed) : Type 0 where
  pub fits : refusal_by taker delta ≡ None
  pub has : HasEachOf giver.arrivals (core_joined taker delta).arrivals

-- A peer catches up by what the other cuts above a vector that is at most the peer's own.
abbrev pub PeersCatchUp : Type 0
PeersCatchUp =
    (giver taker : Core) (have : ℕ → ℕ) → ArePeers giver taker → IsAtMost have taker.arrivals
    → CatchesUpBy giver taker (entries_above have giver.arrivals)

-- Any two sites of a hub are peers.
abbrev pub SitesOfAHubArePeers : Type 0
SitesOfAHubArePeers =
    (sites : ℕ) (world : World) → IsHub sites world → (giver taker : ℕ)
    → is_open giver sites ≡ true → is_open taker sites ≡ true
    → ArePeers (site_in sites world giver) (site_in sites world taker)

-- The taker accepts the text, and then holds each entry that the giver holds.
pub record CatchesUpByText (giver taker : Core) (text : List ℕ) : Type 0 where
  pub accepted : is_accepted taker (delta_in text) ≡ true
  pub has : HasEachOf giver.arrivals (core_with taker (delta_in text)).arrivals

-- A site of a hub catches up by the text that another cuts above a vector that is at most its own.
abbrev pub SitesOfAHubCatchUp : Type 0
SitesOfAHubCatchUp =
    (sites : ℕ) (world : World) → IsHub sites world → (giver taker : ℕ)
    → is_open giver sites ≡ true → is_open taker sites ≡ true
    → (have : ℕ → ℕ) → IsAtMost have (arrivals_in sites world taker)
    → AreFew (arrivals_in sites world giver)
    → CatchesUpByText (site_in sites world giver) (site_in sites world taker) (cut_in sites world giver have)

-- ---- the journal text

-- the lines of a site's own entries that are numbered above a count: the answer to the question for the journal's lines
abbrev pub lines_above : ℕ → ℕ → List Placed → List ℕ
lines_above number above arrivals = lines_of_entries (own_above number above arrivals)

-- The journal is of whole lines, and its own log is the site's.
pub record IsJournalOf (core : Core) (journal : List ℕ) : Type 0 where
  pub whole : IsOfWholeLines journal
  pub log : own_log journal ≡ log_of core.number core.arrivals

-- A journal grows with its site: after takes it is the site's journal again, with the lines of the own entries that came since.
-- Each of those lines is to be read again as its message.
abbrev pub JournalsGrowWithTheirSites : Type 0
JournalsGrowWithTheirSites =
    (core : Core) (journal : List ℕ) (messages : List Draft) → IsSite core → IsJournalOf core journal
    → All (λ entry. IsReadAgain entry.message)
    (own_above core.number (held_from core.number core.arrivals) (core_taking core messages).arrivals)
    → IsJournalOf (core_taking core messages)
    (journal ++ lines_above core.number (held_from core.number core.arrivals) (core_taking core messages).arrivals)
