-- The rule of the published view, and the effects of its steps. Read by an auditor.
use Rattle.std.specs.FinSet as set
use Rattle.std.specs.Prelude.{◌≡◌, ℕ, List, [], Option, Some, None, MatchOption, if◌then◌else◌, fold, length, nat_lt}
use mathlib.Core.List.{IsPrefix}
use mathlib.Core.Option.{some}
use lib.ListN.{get_elem?}
use Rattle.logbook.specs.Pages.{Book}
use Rattle.sct_message.specs.Sets.{messages_in}
use Rattle.sct_set.specs.Contents.{contents_of}
use Rattle.sct_delta.specs.Entries.{Placed, messages_of}
use Rattle.sct_site.specs.Sights.{Sight}
use Rattle.sct_desk.specs.declared.shown.Shown.{Shown}
use Rattle.sct_desk.specs.declared.shown.ViewUpdate.{ViewUpdate}

-- ---- what seats know

-- What a seat knows: a list of the site's arrivals, and the history that these are of, if it knows one.
pub record Known : Type 0 where
  pub book : Option Book
  pub log : List Placed

-- a seat that was just taken: the empty list, and no history yet
abbrev pub nothing_known : Known
nothing_known = record { book = None; log = [] }

-- a seat that knows a beginning of a history
abbrev pub known_of : Sight → Known
known_of sight = record { book = Some sight.book; log = sight.log }

-- the knowledge with the longer list; the second one if both lists have the same length
abbrev pub longer_known : Known → Known → Known
longer_known v w = if nat_lt (length w.log) (length v.log) then v else w

-- ---- the rule

-- the seat knows a beginning of what is published, and of no other history
abbrev pub Knows : Sight → Known → Type 0
Knows s v = MatchOption v.book (Unit {0}) (λ book. book ≡ s.book) × IsPrefix v.log s.log

-- what each seat knows is a beginning of what is published
abbrev pub AllKnow : Sight → List Known → Type 0
AllKnow s views = (seat : ℕ) (v : Known) → get_elem? views seat ≡ some v → Knows s v

-- the published view is the view of the published arrivals, and what each seat knows is a beginning of these
abbrev pub KeepsRule : Shown → List Known → Type 0
KeepsRule x views = (x.view ≡ messages_of x.track.log) × AllKnow x.track views

-- ---- the steps of the rule

-- A publication or an entry. Afterwards the seat knows what y shows, which is the view of its
-- arrivals and begins with what the seat knew.
abbrev pub Shows : Known → Shown → Shown → Known → Type 0
Shows v x y w = (w ≡ known_of y.track) × (y.view ≡ messages_of y.track.log) × Knows y.track v

-- y shows the view of arrivals of the same history that begin with those of x
abbrev pub GoesOn : Shown → Shown → Type 0
GoesOn x y = (x.track.book ≡ y.track.book) × IsPrefix x.track.log y.track.log × (y.view ≡ messages_of y.track.log)

-- ---- what is published

-- the view of these arrivals
abbrev pub view_of : Book → List Placed → Shown
view_of book entries = record { view = messages_of entries; track = record { book = book; log = entries } }

-- the view after one more update
abbrev pub absorbed : Shown → ViewUpdate → Shown
absorbed s b = record { view = set.union s.view (contents_of (messages_in b.messages.items)); track = b.track }

-- the view after all updates that are handed over
abbrev pub handed_over : Shown → List ViewUpdate → Shown
handed_over s updates = fold absorbed s updates
