-- A hub of keepers: what their journals record, and the delta texts that they wrote. Read by an auditor.
--
-- A keeper is a process with the number of a site. It opens its journal, is given rounds of lines, and writes delta texts. It
-- may stop at any moment, and is opened again. By the contracts of a keeper a round leaves in the journal all that it brings,
-- or nothing of it; opening leaves the journal as it is; and a text is written of the site that the journal makes. So these
-- are the events of a hub. The model in Embedded.antt has the same shape and the same names.
use Rattle.std.specs.Prelude.{◌≡◌, ℕ, ◌++◌, ◌<◌, ◌^◌, Bool, true, List, [], ◌∷◌, length, nat_eq, Ok, if◌then◌else◌}
use Rattle.sct_delta.specs.DeltaText.{delta_in, written_delta}
use Rattle.sct_delta.specs.Entries.{Placed, holds}
use Rattle.sct_site.specs.Cores.{Core, entries_above, is_open}
use Rattle.sct_exchange.specs.Journals.{opened}
use Rattle.sct_exchange.specs.Sites.{cut_text}
use Rattle.sct_exchange.specs.Ways.{IsAmong}
use Rattle.sct_journal.specs.Kept.{AreLines}
use Rattle.sct_requests.specs.Steps.{AreKept, brought, core_kept, is_delta_line, text_in}
use Rattle.sct_exchange.specs.Entries.{entries_text}

-- ---- the own journal of a site whose journal records lines

-- the own journal: the lines that are no deltas
abbrev pub own_journal : List (List ℕ) → List ℕ
own_journal [] = []
own_journal (line ∷ lines) = if is_delta_line line then own_journal lines else (line ++ 10 ∷ []) ++ own_journal lines

-- the texts of the deltas
abbrev pub texts_given : List (List ℕ) → List (List ℕ)
texts_given [] = []
texts_given (line ∷ lines) = if is_delta_line line then text_in line ∷ texts_given lines else texts_given lines

-- ---- the events of a hub

pub record World : Type 0 where
  -- what the journal of each site records, on its disk
  pub lines : ℕ → List (List ℕ)
  -- the delta texts that were written, from the newest to the oldest
  pub texts : List (List ℕ)

pub data Event : Type 0 where
  -- a keeper is given a round, and what that brings is on its disk, or is not, since the machine stopped before
  Round : (site : ℕ) (lines : List (List ℕ)) (lasts : Bool) → Event
  -- a keeper is asked for what a site with this vector lacks
  Cut : (site : ℕ) (have : ℕ → ℕ) → Event
  -- a keeper is asked for entries of an origin above a count, in a text of at most so many bytes
  Entries : (site origin above most : ℕ) → Event

-- before anything happens, the journals of a new hub record nothing
abbrev pub at_first : World
at_first = record { lines = λ site. []; texts = [] }

-- the site of the keeper of this number, in a group of `sites` sites
abbrev pub site_in : ℕ → World → ℕ → Core
site_in sites world site = core_kept site sites (world.lines site)

-- the entries that it holds, in the order in which they came
abbrev pub arrivals_in : ℕ → World → ℕ → List Placed
arrivals_in sites world site = (site_in sites world site).arrivals

-- the text that it cuts above a vector
abbrev pub cut_in : ℕ → World → ℕ → (ℕ → ℕ) → List ℕ
cut_in sites world site have = cut_text have (arrivals_in sites world site)

-- the text with its entries of an origin
abbrev pub entries_written : ℕ → World → ℕ → ℕ → ℕ → ℕ → List ℕ
entries_written sites world site origin above most = entries_text origin above most (arrivals_in sites world site)

abbrev pub with_lines : (ℕ → List (List ℕ)) → ℕ → List (List ℕ) → ℕ → List (List ℕ)
with_lines lines site more at = if nat_eq site at then lines at ++ more else lines at

abbrev pub with_written : World → List ℕ → World
with_written world text = record { lines = world.lines; texts = text ∷ world.texts }

abbrev pub happens : ℕ → World → Event → World
happens sites world (Round site lines lasts) =
    if lasts
    then record { lines = with_lines world.lines site (brought (site_in sites world site) lines); texts = world.texts }
    else world
happens sites world (Cut site have) = with_written world (cut_in sites world site have)
happens sites world (Entries site origin above most) = with_written world (entries_written sites world site origin above most)

-- the entries are fewer than the numbers that a text has
abbrev pub AreFew : List Placed → Type 0
AreFew arrivals = length arrivals < 2 ^ 64

-- the text of a delta is read back as the delta: the law `texts_are_read_back` says when
abbrev pub DeltaIsReadBack : List Placed → Type 0
DeltaIsReadBack delta = delta_in (written_delta delta) ≡ Ok delta

-- the delta of these entries above a vector is written whole: it is read back
abbrev pub IsCutReadBack : (ℕ → ℕ) → List Placed → Type 0
IsCutReadBack have arrivals = delta_in (cut_text have arrivals) ≡ Ok (entries_above have arrivals)

-- A site of the hub holds the entry.
pub record IsHeldInHub (sites : ℕ) (world : World) (entry : Placed) : Type 0 where
  pub site : ℕ
  pub opened : is_open site sites ≡ true
  pub held : holds (arrivals_in sites world site) entry ≡ true

-- A text of the hub: it is a delta text, and each of its entries is one that a site of the hub holds. It need not be a text
-- that a site wrote.
pub record IsTextOfHub (sites : ℕ) (world : World) (text : List ℕ) : Type 0 where
  pub delta : List Placed
  pub read : delta_in text ≡ Ok delta
  pub held : (entry : Placed) → holds delta entry ≡ true → IsHeldInHub sites world entry

-- What may happen. A site is one of the group. The lines of a round have no line feed. Each of its deltas that brings the
-- site an entry is a text of the hub: that is the transport's part. A text that is refused, or brings nothing, may be any.
-- A site that writes a text holds fewer than 2^64 entries.
abbrev pub MayHappen : ℕ → World → Event → Type 0
MayHappen sites world (Round site lines lasts) =
    (is_open site sites ≡ true) × AreLines lines
    × ((line : List ℕ) → IsAmong (brought (site_in sites world site) lines) line → is_delta_line line ≡ true
    → IsTextOfHub sites world (text_in line))
MayHappen sites world (Cut site have) =
    (is_open site sites ≡ true) × AreFew (arrivals_in sites world site)
MayHappen sites world (Entries site origin above most) =
    (is_open site sites ≡ true) × AreFew (arrivals_in sites world site)

abbrev pub after : ℕ → World → List Event → World
after sites world [] = world
after sites world (event ∷ events) = after sites (happens sites world event) events

abbrev pub AllMayHappen : ℕ → World → List Event → Type 0
AllMayHappen sites world [] = Unit {0}
AllMayHappen sites world (event ∷ events) =
    MayHappen sites world event × AllMayHappen sites (happens sites world event) events

-- ---- where a hub may begin

-- Each entry that a site holds is its origin's: the site of the origin holds it, under that number.
abbrev pub AreTheirOrigins : ℕ → World → Type 0
AreTheirOrigins sites world =
    (site : ℕ) (entry : Placed) → is_open site sites ≡ true → holds (arrivals_in sites world site) entry ≡ true
    → holds (arrivals_in sites world entry.origin) entry ≡ true

-- A hub may begin with journals that exist, and with texts that were written before: of each line that is recorded something
-- was new, each entry is its origin's, and the texts are texts of the hub. So are new journals, and journals of messages.
pub record MayBegin (sites : ℕ) (world : World) : Type 0 where
  pub are : (site : ℕ) → AreLines (world.lines site)
  pub some : (site : ℕ) → AreKept (opened site sites) (world.lines site)
  pub known : AreTheirOrigins sites world
  pub texts : (text : List ℕ) → IsAmong world.texts text → IsTextOfHub sites world text

-- A world of a hub: events led to it, each of which may happen, from a world where a hub may begin.
pub record IsHub (sites : ℕ) (world : World) : Type 0 where
  pub first : World
  pub begins : MayBegin sites first
  pub events : List Event
  pub may : AllMayHappen sites first events
  pub led : world ≡ after sites first events
