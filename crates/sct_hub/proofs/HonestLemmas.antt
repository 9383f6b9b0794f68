-- What holds of a hub of keepers at every moment: each entry is its origin's. Proof plumbing.
use Rattle.std.proofs.Common.{◌≡◌, ◌∙◌, inl, inr, refl, ap, sym, subst, ℕ, Bool, true, false, cond, List, [], ◌∷◌, ◌++◌, nat_eq}
use Rattle.std.specs.Prelude.{Result, Ok}
use Rattle.std.proofs.lemmas.Bool.{eqb-true, false≢true}
use Rattle.sct_delta.specs.DeltaText.{delta_in, written_delta}
use Rattle.sct_delta.specs.Entries.{Placed, holds}
use Rattle.sct_delta.proofs.EntryLemmas.{same_number}
use Rattle.sct_site.specs.Cores.{Core, IsSite, entries_above, is_open}
use Rattle.sct_site.proofs.HeldLemmas.{among_above}
use Rattle.sct_exchange.specs.Journals.{opened}
use Rattle.sct_exchange.specs.Ways.{IsAmong}
use Rattle.sct_read_again.specs.ReadAgain.{MessagesAreReadAgain}
use Rattle.sct_journal.specs.Kept.{AreLines}
use Rattle.sct_journal.proofs.LineLemmas.{lines_join}
use Rattle.sct_requests.specs.Steps.{AreKept, brings, brought, core_after, core_given, core_kept, is_delta_line, text_in}
use Rattle.sct_requests.proofs.StepLemmas.{after_brought, brings_nothing, brought_lines, number_after}
use Rattle.sct_exchange.specs.Entries.{entries_asked}
use Rattle.sct_hub.specs.Hubs.{AllMayHappen, AreFew, Event, IsHeldInHub, DeltaIsReadBack, IsTextOfHub, MayBegin, MayHappen, World, after, arrivals_in, happens, site_in, texts_given, with_lines, with_written}
use Rattle.sct_hub.specs.Hubs.Event.{Cut, Entries, Round}
use Rattle.sct_hub.specs.Laws.{EntriesAreTheirOrigins, HubsMayGoOn, ImportedHubsMayBegin, NewHubsMayBegin, WrittenTextsAreOfTheHub}
use Rattle.sct_hub.specs.ReadBack.{WritesReadBack}
use Rattle.sct_hub.proofs.AlikeLemmas.{live_site}
use Rattle.sct_hub.proofs.EntriesLemmas.{asked_held}
use Rattle.sct_hub.proofs.ReadBackLemmas.{texts_back}
use Rattle.sct_hub.proofs.RoundLemmas.{CameByDelta, comes_from, held_then, site_then}

-- ---- lines that brought something

pub brought_kept : (lines : List (List ℕ)) (core : Core) → AreKept core (brought core lines)
brought_kept [] core = tt
brought_kept (line ∷ lines) core = (elim (brings core line) as (λ b. brings core line ≡ b → AreKept core (cond b (line ∷ brought (core_given core line) lines) (brought (core_given core line) lines))) [
  | true ↦ λ some. (some, brought_kept lines (core_given core line))
  | false ↦ λ none. subst (λ (c : Core). AreKept c (brought (core_given core line) lines)) (brings_nothing core line none) (brought_kept lines (core_given core line))
]) refl

pub kept_join : (xs ys : List (List ℕ)) (core : Core) → AreKept core xs → AreKept (core_after core xs) ys → AreKept core (xs ++ ys)
kept_join [] ys core some more = more
kept_join (x ∷ xs) ys core some more = (some.0, kept_join xs ys (core_given core x) some.1 more)

-- ---- what stays after an event

in_hub_then : (sites : ℕ) (world : World) (event : Event) (e : Placed) → IsHeldInHub sites world e → IsHeldInHub sites (happens sites world event) e
in_hub_then sites world event e is = record { site = is.site; opened = is.opened; held = held_then sites world event is.site e is.held }

text_then : (sites : ℕ) (world : World) (event : Event) (text : List ℕ) → IsTextOfHub sites world text → IsTextOfHub sites (happens sites world event) text
text_then sites world event text is = record { delta = is.delta; read = is.read; held = λ e among. in_hub_then sites world event e (is.held e among) }

-- a text that a site of the hub writes of entries that it holds
text_written : (sites : ℕ) (world : World) (site : ℕ) (delta : List Placed) → is_open site sites ≡ true → DeltaIsReadBack delta
    → ((e : Placed) → holds delta e ≡ true → holds (arrivals_in sites world site) e ≡ true) → IsTextOfHub sites world (written_delta delta)
text_written sites world site delta opened read held = record {
  delta = delta;
  read = read;
  held = λ e among. record { site = site; opened = opened; held = held e among };
}

-- ---- what holds of a hub at every moment

pub holds_first : NewHubsMayBegin
holds_first sites = record {
  are = λ site. tt;
  some = λ site. tt;
  known = λ site e opened held. absurd (false≢true held);
  texts = λ text among. absurd among;
}

module _ (sites : ℕ) (world : World) (begun : MayBegin sites world) where
  module _ (site : ℕ) (lines : List (List ℕ)) (may : MayHappen sites world (Round site lines true)) where
    abbrev core : Core
    core = site_in sites world site

    abbrev more : List (List ℕ)
    more = brought core lines

    abbrev now : World
    now = happens sites world (Round site lines true)

    stays : (at : ℕ) (e : Placed) → holds (arrivals_in sites world at) e ≡ true → holds (arrivals_in sites now at) e ≡ true
    stays at e held = held_then sites world (Round site lines true) at e held

    core_now : site_in sites now site ≡ core_after core more
    core_now =
        site_then sites world site (Round site lines true)
        ∙ ap (λ (b : Bool). core_after core (cond b lines [])) (same_number site)
        ∙ sym (after_brought lines core)

    by_delta : (e : Placed) → CameByDelta more e → holds (arrivals_in sites now e.origin) e ≡ true
    by_delta e came =
        let text : IsTextOfHub sites world (text_in came.line) = may.2 came.line came.among came.told in
        let same : came.delta ≡ text.delta = let both : Ok came.delta ≡ Ok text.delta = sym came.read ∙ text.read in cc in
        let there : IsHeldInHub sites world e = text.held e (ap (λ (d : List Placed). holds d e) (sym same) ∙ came.held) in
        stays e.origin e (begun.known there.site e there.opened there.held)

    known_here : (e : Placed) → holds (arrivals_in sites now site) e ≡ true → holds (arrivals_in sites now e.origin) e ≡ true
    known_here e held =
        elim (comes_from more core (brought_kept lines core) e (ap (λ (c : Core). holds c.arrivals e) (sym core_now) ∙ held)) as (λ c. holds (arrivals_in sites now e.origin) e ≡ true) [
          | inl old ↦ stays e.origin e (begun.known site e may.0 old)
          | inr other ↦ elim other as (λ c. holds (arrivals_in sites now e.origin) e ≡ true) [
            | inl own ↦ ap (λ (o : ℕ). holds (arrivals_in sites now o) e) (own ∙ number_after (world.lines site) (opened site sites)) ∙ held
            | inr came ↦ by_delta e came
          ]
        ]

    -- what holds of the lines of a site that holds of them as they were, and as they are with the round
    at_each : (P : ℕ → List (List ℕ) → Type 0) → ((at : ℕ) → P at (world.lines at)) → P site (world.lines site ++ more) → (at : ℕ) → P at (with_lines world.lines site more at)
    at_each P old new at = (elim (nat_eq site at) as (λ b. nat_eq site at ≡ b → P at (cond b (world.lines at ++ more) (world.lines at))) [
      | true ↦ λ same. subst (λ (s : ℕ). P s (world.lines s ++ more)) (eqb-true site at same) new
      | false ↦ λ other. old at
    ]) refl

    known_now : (at : ℕ) (e : Placed) → is_open at sites ≡ true → holds (arrivals_in sites now at) e ≡ true → holds (arrivals_in sites now e.origin) e ≡ true
    known_now at e valid held = (elim (nat_eq site at) as (λ b. nat_eq site at ≡ b → holds (arrivals_in sites now e.origin) e ≡ true) [
      | true ↦ λ same. known_here e (ap (λ (s : ℕ). holds (arrivals_in sites now s) e) (eqb-true site at same) ∙ held)
      | false ↦ λ other.
          stays e.origin e (begun.known at e valid
          (sym (ap (λ (b : Bool). holds (core_kept at sites (cond b (world.lines at ++ more) (world.lines at))).arrivals e) other) ∙ held))
    ]) refl

    holds_round : MayBegin sites now
    holds_round = record {
      are = at_each (λ at ls. AreLines ls) begun.are (lines_join (world.lines site) more (begun.are site) (brought_lines lines core may.1));
      some = at_each (λ at ls. AreKept (opened at sites) ls) begun.some (kept_join (world.lines site) more (opened site sites) (begun.some site) (brought_kept lines core));
      known = known_now;
      texts = λ text among. text_then sites world (Round site lines true) text (begun.texts text among);
    }

  -- a text is written
  module _ (event : Event) (text : List ℕ) (is : happens sites world event ≡ with_written world text) (new : IsTextOfHub sites world text) where
    holds_text : MayBegin sites (with_written world text)
    holds_text = record {
      are = begun.are;
      some = begun.some;
      known = begun.known;
      texts = λ other among. subst (λ (w : World). IsTextOfHub sites w other) is (text_then sites world event other
          (elim among as (λ c. IsTextOfHub sites world other) [
            | inl same ↦ subst (IsTextOfHub sites world) (sym same) new
            | inr old ↦ begun.texts other old
          ]));
    }

  pub its_site : (site : ℕ) → is_open site sites ≡ true → IsSite (site_in sites world site)
  its_site site valid = live_site site sites valid (world.lines site) (begun.are site) (begun.some site)

-- what a site of the hub writes is read back
pub written_back : MessagesAreReadAgain → (sites : ℕ) (world : World) → MayBegin sites world → (site : ℕ) → is_open site sites ≡ true → AreFew (arrivals_in sites world site)
    → WritesReadBack (arrivals_in sites world site)
written_back again sites world begun site valid few = texts_back again site sites (world.lines site) valid (begun.are site) (begun.some site) few

holds_next : MessagesAreReadAgain → (sites : ℕ) (world : World) → MayBegin sites world → (event : Event) → MayHappen sites world event → MayBegin sites (happens sites world event)
holds_next again sites world begun (Round site lines true) may = holds_round sites world begun site lines may
holds_next again sites world begun (Round site lines false) may = begun
holds_next again sites world begun (Cut site have) may =
    holds_text sites world begun (Cut site have) (written_delta (entries_above have (arrivals_in sites world site))) refl
    (text_written sites world site (entries_above have (arrivals_in sites world site)) may.0 ((written_back again sites world begun site may.0 may.1).cuts have) (among_above have (arrivals_in sites world site)))
holds_next again sites world begun (Entries site origin above most) may =
    holds_text sites world begun (Entries site origin above most) (written_delta (entries_asked origin above most (arrivals_in sites world site))) refl
    (text_written sites world site (entries_asked origin above most (arrivals_in sites world site)) may.0 ((written_back again sites world begun site may.0 may.1).entries origin above most)
    (asked_held origin above most (arrivals_in sites world site) (its_site sites world begun site may.0).order))

pub holds_after : MessagesAreReadAgain → (sites : ℕ) (events : List Event) (world : World) → MayBegin sites world → AllMayHappen sites world events → MayBegin sites (after sites world events)
holds_after again sites [] world begun may = begun
holds_after again sites (event ∷ events) world begun may = holds_after again sites events (happens sites world event) (holds_next again sites world begun event may.0) may.1

none_told : (lines : List (List ℕ)) (line : List ℕ) → IsAmong lines line → is_delta_line line ≡ true → texts_given lines ≡ [] → ⊥
none_told [] line among told none = among
none_told (l ∷ lines) line among told none = (elim (is_delta_line l) as (λ b. is_delta_line l ≡ b → cond b (text_in l ∷ texts_given lines) (texts_given lines) ≡ [] → ⊥) [
  | true ↦ λ here is. cc
  | false ↦ λ plain is. elim among as (λ c. ⊥) [
    | inl same ↦ false≢true (sym plain ∙ ap is_delta_line (sym same) ∙ told)
    | inr later ↦ none_told lines line later told is
  ]
]) refl none

pub imported_begin : ImportedHubsMayBegin
imported_begin sites lines are some none = record {
  are = are;
  some = some;
  known = λ site e valid held. elim (comes_from (lines site) (opened site sites) (some site) e held) as (λ c. holds (core_kept e.origin sites (lines e.origin)).arrivals e ≡ true) [
    | inl old ↦ absurd (false≢true old)
    | inr other ↦ elim other as (λ c. holds (core_kept e.origin sites (lines e.origin)).arrivals e ≡ true) [
      | inl own ↦ ap (λ (o : ℕ). holds (core_kept o sites (lines o)).arrivals e) own ∙ held
      | inr came ↦ absurd (none_told (lines site) came.line came.among came.told (none site))
    ]
  ];
  texts = λ text among. absurd among;
}

pub hubs_go_on : MessagesAreReadAgain → HubsMayGoOn
hubs_go_on again sites world hub = subst (MayBegin sites) (sym hub.led) (holds_after again sites hub.events hub.first hub.begins hub.may)

pub their_origins : MessagesAreReadAgain → EntriesAreTheirOrigins
their_origins again sites world hub = (hubs_go_on again sites world hub).known

pub of_the_hub : MessagesAreReadAgain → WrittenTextsAreOfTheHub
of_the_hub again sites world hub = (hubs_go_on again sites world hub).texts
