-- A hub of programs that embed a site: what their sites hold, what their journals have, and the delta texts that were cut.
-- Read by an auditor.
--
-- Such a program keeps a journal of its site's own messages alone. It writes them after the site took them, and before it
-- cuts a delta. It keeps no record of the deltas that the site accepted. It may stop at any moment. Then its site is
-- restored from the journal and one delta text that was cut before, or none.
--
-- This model has the shape of the one in Hubs.antt, and so the same names: `World`, `Event`, `happens`, `after`, `IsHub` and their
-- like. A file takes these names from one of the two.
use Rattle.std.specs.Prelude.{◌≡◌, ◌⊎◌, ℕ, true, List, [], ◌∷◌, nat_eq, if◌then◌else◌}
use Rattle.sct_message.specs.declared.draft.Draft.{Draft}
use Rattle.sct_delta.specs.DeltaText.{delta_in}
use Rattle.sct_delta.specs.Entries.{log_of}
use Rattle.sct_site.specs.Cores.{Core, is_open}
use Rattle.sct_exchange.specs.Journals.{Begins, core_taking, opened, own_log}
use Rattle.sct_exchange.specs.Sites.{cut_text}
use Rattle.sct_exchange.specs.Ways.{IsAmong}
use Rattle.sct_embed.specs.Restoring.{core_restored}
use Rattle.sct_requests.specs.Steps.{core_offered}
use Rattle.sct_exchange.specs.Entries.{entries_asked, entries_text}
use Rattle.sct_hub.specs.Hubs.{IsCutReadBack, DeltaIsReadBack}

pub record World : Type 0 where
  -- the site of each number, as it is in its program
  pub core : ℕ → Core
  -- the own messages of each site that its journal has, on the disk, in the order of their numbers
  pub journal : ℕ → List Draft
  -- the delta texts that were written, from the newest to the oldest
  pub cuts : List (List ℕ)

pub data Event : Type 0 where
  -- a site takes messages, one after another
  Take : (site : ℕ) (messages : List Draft) → Event
  -- a program writes to its journal what the journal lacks of the site's own messages
  Write : (site : ℕ) → Event
  -- a site is given a delta text, which it accepts or refuses
  Accept : (site : ℕ) (text : List ℕ) → Event
  -- a site cuts the delta text for a site with this vector
  Cut : (site : ℕ) (have : ℕ → ℕ) → Event
  -- a site writes its entries of an origin above a count, in a text of at most so many bytes
  Entries : (site origin above most : ℕ) → Event
  -- a program stopped, and its site is restored from the bytes of the journal and a delta text, or the empty text
  Restore : (site : ℕ) (journal text : List ℕ) → Event

-- at first the sites hold nothing, the journals are empty, and no delta was cut
abbrev pub at_first : ℕ → World
at_first sites = record { core = λ site. opened site sites; journal = λ site. []; cuts = [] }

-- the own messages of a site, in the order of their numbers
abbrev pub own_messages : World → ℕ → List Draft
own_messages world site = log_of site (world.core site).arrivals

-- what each site has, with another value at one of them
abbrev pub with_at : {X : Type 0} → (ℕ → X) → ℕ → X → ℕ → X
with_at values site value at = if nat_eq site at then value else values at

abbrev pub happens : ℕ → World → Event → World
happens sites world (Take site messages) =
    record {
      core = with_at world.core site (core_taking (world.core site) messages);
      journal = world.journal;
      cuts = world.cuts;
    }
happens sites world (Write site) =
    record {
      core = world.core;
      journal = with_at world.journal site (own_messages world site);
      cuts = world.cuts;
    }
happens sites world (Accept site text) =
    record {
      core = with_at world.core site (core_offered (world.core site) (delta_in text));
      journal = world.journal;
      cuts = world.cuts;
    }
happens sites world (Cut site have) =
    record {
      core = world.core;
      journal = world.journal;
      cuts = cut_text have (world.core site).arrivals ∷ world.cuts;
    }
happens sites world (Entries site origin above most) =
    record {
      core = world.core;
      journal = world.journal;
      cuts = entries_text origin above most (world.core site).arrivals ∷ world.cuts;
    }
happens sites world (Restore site journal text) =
    record {
      core = with_at world.core site (core_restored site sites journal text);
      journal = with_at world.journal site (own_log journal);
      cuts = world.cuts;
    }

-- What may happen. A site is one of the group. A text that it is given, or is restored from, was cut before in this world.
-- If a site cuts, its journal has all its own messages, and the text is read back. The journal that a site is restored from
-- has all that was written. It may have more, if the program stopped in a write.
abbrev pub MayHappen : ℕ → World → Event → Type 0
MayHappen sites world (Take site messages) = is_open site sites ≡ true
MayHappen sites world (Write site) = is_open site sites ≡ true
MayHappen sites world (Accept site text) = (is_open site sites ≡ true) × IsAmong world.cuts text
MayHappen sites world (Cut site have) =
    (is_open site sites ≡ true) × (world.journal site ≡ own_messages world site)
    × IsCutReadBack have (world.core site).arrivals
MayHappen sites world (Entries site origin above most) =
    (is_open site sites ≡ true) × (world.journal site ≡ own_messages world site)
    × DeltaIsReadBack (entries_asked origin above most (world.core site).arrivals)
MayHappen sites world (Restore site journal text) =
    (is_open site sites ≡ true) × Begins (world.journal site) (own_log journal)
    × ((text ≡ []) ⊎ IsAmong world.cuts text)

abbrev pub after : ℕ → World → List Event → World
after sites world [] = world
after sites world (event ∷ events) = after sites (happens sites world event) events

abbrev pub AllMayHappen : ℕ → World → List Event → Type 0
AllMayHappen sites world [] = Unit {0}
AllMayHappen sites world (event ∷ events) =
    MayHappen sites world event × AllMayHappen sites (happens sites world event) events

-- A restore loses no message that the site took: the journal has all its own messages as it was.
abbrev pub LosesNone : World → Event → Type 0
LosesNone world (Take site messages) = Unit {0}
LosesNone world (Write site) = Unit {0}
LosesNone world (Accept site text) = Unit {0}
LosesNone world (Cut site have) = Unit {0}
LosesNone world (Entries site origin above most) = Unit {0}
LosesNone world (Restore site journal text) = Begins (own_messages world site) (own_log journal)

abbrev pub NoneIsLost : ℕ → World → List Event → Type 0
NoneIsLost sites world [] = Unit {0}
NoneIsLost sites world (event ∷ events) = LosesNone world event × NoneIsLost sites (happens sites world event) events

-- A world of a hub: events led to it from the first world, each of which may happen.
pub record IsHub (sites : ℕ) (world : World) : Type 0 where
  pub events : List Event
  pub may : AllMayHappen sites (at_first sites) events
  pub led : world ≡ after sites (at_first sites) events
