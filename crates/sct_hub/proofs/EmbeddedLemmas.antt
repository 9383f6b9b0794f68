-- A hub of programs that embed a site: what holds of it at every moment, and that no site of it forks. Proof plumbing.
--
-- The journals hold each entry that a site has of another one, and each that was cut. They only grow, and each site's own
-- messages begin with its journal. So each entry is its origin's message of that number.
use Rattle.std.proofs.Common.{◌≡◌, ◌∙◌, ◌⊎◌, inl, inr, refl, ap, sym, subst, ℕ, Bool, true, false, not, cond, ◌==◌, List, [], ◌∷◌, length, nat_eq}
use Rattle.std.specs.Prelude.{None, Some, Ok}
use Rattle.std.specs.Option.{is_none}
use Rattle.std.proofs.lemmas.Bool.{eqb-true, false≢true}
use Rattle.std.proofs.lemmas.Option.{same_Some}
use Rattle.sct_message.specs.declared.draft.Draft.{Draft}
use Rattle.sct_delta.specs.DeltaText.{delta_in, written_delta}
use Rattle.sct_delta.specs.Entries.{IsArrivals, Placed, holds, log_of, same_entry}
use Rattle.sct_delta.specs.Refusals.{has_site, is_held, is_same_as, message_at}
use Rattle.sct_delta.proofs.EntryLemmas.{same_number}
use Rattle.sct_site.specs.Cores.{Core, IsSite, core_joined, entries_above, fresh_entries, is_open, logs_of, refusal_by}
use Rattle.sct_site.proofs.HeldLemmas.{among_above, any_kept, held_stands, one_of}
use Rattle.sct_site.proofs.SiteLemmas.{has_itself, site_joined}
use Rattle.sct_exchange.specs.Journals.{Begins, core_of_journal, core_taking, own_log}
use Rattle.sct_exchange.specs.Owned.{IsOf, IsTextOf}
use Rattle.sct_exchange.specs.Rounds.{File, files_in}
use Rattle.sct_exchange.specs.Ways.{AreAccepted, IsAmong, IsExchanged}
use Rattle.sct_exchange.proofs.HubLemmas.{IsTextRead, group_along, held_longer, its_message, of_accepted, of_start, only_early, text_longer}
use Rattle.sct_exchange.proofs.JournalLemmas.{begins_itself, begins_on, journal_core, journal_site}
use Rattle.sct_exchange.proofs.OwnLemmas.{by_the_journal, own_kept}
use Rattle.sct_exchange.proofs.WayLemmas.{delta_shape, exchanged_is, texts_are_deltas}
use Rattle.sct_embed.specs.Restoring.{core_restored, offered}
use Rattle.sct_requests.specs.Steps.{core_offered}
use Rattle.sct_hub.specs.Embedded.{AllMayHappen, Event, IsHub, LosesNone, MayHappen, NoneIsLost, World, after, at_first, happens, own_messages, with_at}
use Rattle.sct_hub.specs.Embedded.Event.{Accept, Cut, Entries, Restore, Take, Write}
use Rattle.sct_exchange.specs.Entries.{entries_asked}
use Rattle.sct_hub.specs.Hubs.{DeltaIsReadBack}
use Rattle.sct_hub.specs.EmbeddedLaws.{EmbeddedSitesNeverFork, JournalsOnlyGrow, NoNumberIsGivenTwice, OwnMessagesOnlyGrow, WrittenMessagesLast}
use Rattle.sct_hub.proofs.EntriesLemmas.{asked_held}
use Rattle.sct_hub.proofs.EmbeddedJournalLemmas.{deltas_add_nothing}
use Rattle.sct_hub.proofs.EmbeddedTakeLemmas.{IsGrown, grown_taking}
use Rattle.sct_hub.proofs.AlikeLemmas.{number_along}

-- ---- what holds at every moment

-- What holds of one site: each entry of another site is in a journal, and its own messages begin with its journal.
record IsOne (journal : ℕ → List Draft) (sites site : ℕ) (core : Core) : Type 0 where
  number : core.number ≡ site
  group : core.group ≡ sites
  order : IsArrivals core.arrivals
  inside : (e : Placed) → holds core.arrivals e ≡ true → has_site core.group e.origin ≡ true
  known : (e : Placed) → holds core.arrivals e ≡ true → (is_held journal e ≡ true) ⊎ (e.origin ≡ site)
  written : Begins (journal site) (log_of site core.arrivals)

pub record Holds (sites : ℕ) (world : World) : Type 0 where
  each : (site : ℕ) → IsOne world.journal sites site (world.core site)
  texts : (text : List ℕ) → IsAmong world.cuts text → IsTextRead world.journal sites text

holds_first : (sites : ℕ) → Holds sites (at_first sites)
holds_first sites = record {
  each = λ site. record {
    number = refl;
    group = refl;
    order = λ origin. refl;
    inside = λ e held. absurd (false≢true held);
    known = λ e held. absurd (false≢true held);
    written = begins_itself [];
  };
  texts = λ text among. absurd among;
}

-- What an event comes to: it still holds, and no journal lost a message.
record Comes (sites : ℕ) (world later : World) : Type 0 where
  holds : Holds sites later
  longer : (site : ℕ) → Begins (world.journal site) (later.journal site)

-- ---- one site has another value

-- what holds of the value at one site, and of the values at the others, holds of each
at_each : {X : Type 0} (values : ℕ → X) (site : ℕ) (value : X) (P : ℕ → X → Type 0) → P site value → ((at : ℕ) → nat_eq site at ≡ false → P at (values at))
    → (at : ℕ) → P at (with_at values site value at)
at_each values site value P new old at = (elim (nat_eq site at) as (λ b. nat_eq site at ≡ b → P at (cond b value (values at))) [
  | true ↦ λ same. subst (λ (s : ℕ). P s value) (eqb-true site at same) new
  | false ↦ λ other. old at other
]) refl

at_site : {X : Type 0} (values : ℕ → X) (site : ℕ) (value : X) → with_at values site value site ≡ value
at_site values site value = ap (λ (b : Bool). cond b value (values site)) (same_number site)

-- ---- the journals grow

module _ (journal longer : ℕ → List Draft) (begins : (o : ℕ) → Begins (journal o) (longer o)) (sites : ℕ) where
  one_longer : (site : ℕ) (core : Core) → IsOne journal sites site core → Begins (longer site) (log_of site core.arrivals) → IsOne longer sites site core
  one_longer site core one written = record {
    number = one.number;
    group = one.group;
    order = one.order;
    inside = one.inside;
    known = λ e held. elim (one.known e held) as (λ c. (is_held longer e ≡ true) ⊎ (e.origin ≡ site)) [
      | inl there ↦ inl (held_longer journal longer begins e there)
      | inr own ↦ inr own
    ];
    written = written;
  }

  read_longer : (text : List ℕ) → IsTextRead journal sites text → IsTextRead longer sites text
  read_longer text read = record { delta = read.delta; is = read.is; of = text_longer journal longer begins sites read.delta read.of }

-- ---- what the own messages of all sites have

module _ (sites : ℕ) (world : World) (holds_in : Holds sites world) where
  abbrev owned : ℕ → List Draft
  owned = own_messages world

  own_there : (site : ℕ) (e : Placed) → holds (world.core site).arrivals e ≡ true → e.origin ≡ site → is_held owned e ≡ true
  own_there site e held own =
      ap (λ (o : ℕ). is_same_as e.message (message_at (log_of e.origin (world.core o).arrivals) e.n)) own
      ∙ held_stands (world.core site).arrivals (holds_in.each site).order e held

  pub begins_owned : (o : ℕ) → Begins (world.journal o) (owned o)
  begins_owned o = (holds_in.each o).written

  pub of_site : (site : ℕ) → IsOf owned (world.core site)
  of_site site = let one : IsOne world.journal sites site (world.core site) = holds_in.each site in record {
    order = one.order;
    inside = one.inside;
    known = λ e held. elim (one.known e held) as (λ c. is_held owned e ≡ true) [
      | inl there ↦ held_longer world.journal owned begins_owned e there
      | inr own ↦ own_there site e held own
    ];
    own = ap (λ (o : ℕ). log_of (world.core site).number (world.core o).arrivals) (sym one.number);
  }

  -- ---- events that leave the journals as they are

  is_site : (site : ℕ) → is_open site sites ≡ true → IsSite (world.core site)
  is_site site valid = let one : IsOne world.journal sites site (world.core site) = holds_in.each site in record {
    opened = ap (λ (n : ℕ). is_open n (world.core site).group) one.number ∙ ap (is_open site) one.group ∙ valid;
    order = one.order;
    inside = one.inside;
  }

  come_to : (site : ℕ) (now : Core) → IsOne world.journal sites site now → Comes sites world (record { core = with_at world.core site now; journal = world.journal; cuts = world.cuts })
  come_to site now one = record {
    holds = record {
      each = at_each world.core site now (λ at core. IsOne world.journal sites at core) one (λ at other. holds_in.each at);
      texts = holds_in.texts;
    };
    longer = λ at. begins_itself (world.journal at);
  }

  one_taking : (site : ℕ) → is_open site sites ≡ true → (messages : List Draft) → IsOne world.journal sites site (core_taking (world.core site) messages)
  one_taking site valid messages =
      let core : Core = world.core site in
      let now : Core = core_taking core messages in
      let one : IsOne world.journal sites site core = holds_in.each site in
      let grown : IsGrown core now = grown_taking messages core (is_site site valid) in
      record {
        number = grown.number ∙ one.number;
        group = grown.group ∙ one.group;
        order = grown.site.order;
        inside = grown.site.inside;
        known = λ e held. elim (grown.others e held) as (λ c. (is_held world.journal e ≡ true) ⊎ (e.origin ≡ site)) [
          | inl old ↦ one.known e old
          | inr own ↦ inr (own ∙ one.number)
        ];
        written = begins_on _ _ _ one.written (subst (λ (n : ℕ). Begins (log_of n core.arrivals) (log_of n now.arrivals)) one.number grown.own);
      }

  one_joined : (site : ℕ) → is_open site sites ≡ true → (delta : List Placed) → IsTextOf world.journal sites delta → refusal_by (world.core site) delta ≡ None
      → IsOne world.journal sites site (core_joined (world.core site) delta)
  one_joined site valid delta text fits =
      let core : Core = world.core site in
      let one : IsOne world.journal sites site core = holds_in.each site in
      let now : IsSite (core_joined core delta) = site_joined core delta (is_site site valid) text.shape fits in
      let kept : log_of site (core_joined core delta).arrivals ≡ log_of site core.arrivals =
      subst (λ (n : ℕ). log_of n (core_joined core delta).arrivals ≡ log_of n core.arrivals) one.number (own_kept core delta text.shape fits) in
      record {
        number = one.number;
        group = one.group;
        order = now.order;
        inside = now.inside;
        known = λ e held. elim (one_of core.arrivals (fresh_entries core.arrivals delta) e held) as (λ c. (is_held world.journal e ≡ true) ⊎ (e.origin ≡ site)) [
          | inl old ↦ one.known e old
          | inr new ↦ inl (text.known e (any_kept (λ x. not (is_held (logs_of core.arrivals) x)) (λ x. same_entry x e) delta new))
        ];
        written = subst (λ (l : List Draft). Begins (world.journal site) l) (sym kept) one.written;
      }

  one_offered : (site : ℕ) → is_open site sites ≡ true → (text : List ℕ) → IsTextRead world.journal sites text → IsOne world.journal sites site (core_offered (world.core site) (delta_in text))
  one_offered site valid text read =
      subst (λ (f : File). IsOne world.journal sites site (core_offered (world.core site) f)) (sym read.is)
      ((elim (refusal_by (world.core site) read.delta) as (λ o. refusal_by (world.core site) read.delta ≡ o → IsOne world.journal sites site (cond (is_none o) (core_joined (world.core site) read.delta) (world.core site))) [
        | None ↦ λ fits. one_joined site valid read.delta read.of fits
        | Some fault ↦ λ refused. holds_in.each site
      ]) refl)

  -- ---- a cut, if the journal has all own messages

  text_written : (site : ℕ) (delta : List Placed) → ((e : Placed) → holds delta e ≡ true → holds (world.core site).arrivals e ≡ true) → world.journal site ≡ owned site → DeltaIsReadBack delta
      → IsTextRead world.journal sites (written_delta delta)
  text_written site delta held written read =
      let es : List Placed = (world.core site).arrivals in
      let one : IsOne world.journal sites site (world.core site) = holds_in.each site in
      record {
        delta = delta;
        is = read;
        of = record {
          shape = delta_shape (written_delta delta) delta read;
          inside = λ e among. ap (λ (g : ℕ). has_site g e.origin) (sym one.group) ∙ one.inside e (held e among);
          known = λ e among. elim (one.known e (held e among)) as (λ c. is_held world.journal e ≡ true) [
            | inl there ↦ there
            | inr own ↦
                ap (λ (l : List Draft). is_same_as e.message (message_at l e.n)) (ap world.journal own ∙ written ∙ ap (λ (o : ℕ). log_of o es) (sym own))
                ∙ held_stands es one.order e (held e among)
          ];
        };
      }

  comes_text : (site : ℕ) (delta : List Placed) → ((e : Placed) → holds delta e ≡ true → holds (world.core site).arrivals e ≡ true) → world.journal site ≡ owned site → DeltaIsReadBack delta
      → Comes sites world (record { core = world.core; journal = world.journal; cuts = written_delta delta ∷ world.cuts })
  comes_text site delta held written read = record {
    holds = record {
      each = holds_in.each;
      texts = λ text among. elim among as (λ c. IsTextRead world.journal sites text) [
        | inl is ↦ subst (λ (t : List ℕ). IsTextRead world.journal sites t) (sym is) (text_written site delta held written read)
        | inr older ↦ holds_in.texts text older
      ];
    };
    longer = λ at. begins_itself (world.journal at);
  }

  -- ---- a program writes its journal

  module _ (site : ℕ) where
    abbrev with_own : ℕ → List Draft
    with_own = with_at world.journal site (owned site)

    own_longer : (o : ℕ) → Begins (world.journal o) (with_own o)
    own_longer = at_each world.journal site (owned site) (λ o log. Begins (world.journal o) log) (begins_owned site) (λ o other. begins_itself (world.journal o))

    comes_written : Comes sites world (happens sites world (Write site))
    comes_written = record {
      holds = record {
        each = λ at. one_longer world.journal with_own own_longer sites at (world.core at) (holds_in.each at)
            (at_each world.journal site (owned site) (λ o log. Begins log (owned o)) (begins_itself (owned site)) (λ o other. begins_owned o) at);
        texts = λ text among. read_longer world.journal with_own own_longer sites text (holds_in.texts text among);
      };
      longer = own_longer;
    }

  -- ---- a site is restored

  module _ (site : ℕ) (valid : is_open site sites ≡ true) (journal text : List ℕ) (begins : Begins (world.journal site) (own_log journal)) (given : (text ≡ []) ⊎ IsAmong world.cuts text) where
    abbrev with_log : ℕ → List Draft
    with_log = with_at world.journal site (own_log journal)

    log_longer : (o : ℕ) → Begins (world.journal o) (with_log o)
    log_longer = at_each world.journal site (own_log journal) (λ o log. Begins (world.journal o) log) begins (λ o other. begins_itself (world.journal o))

    log_here : with_log site ≡ own_log journal
    log_here = at_site world.journal site (own_log journal)

    abbrev files : List File
    files = files_in (offered text)

    abbrev start : Core
    start = core_of_journal site sites journal

    abbrev now : Core
    now = core_restored site sites journal text

    delta_of_cut : IsAmong world.cuts text → (delta : List Placed) → IsAmong files (Ok delta) → IsTextOf with_log sites delta
    delta_of_cut cut delta among = (elim (length text == 0) as (λ b. IsAmong (files_in (cond b [] (text ∷ []))) (Ok delta) → IsTextOf with_log sites delta) [
      | true ↦ λ none. absurd none
      | false ↦ λ some. elim some as (λ c. IsTextOf with_log sites delta) [
        | inl is ↦
            let read : IsTextRead with_log sites text = read_longer world.journal with_log log_longer sites text (holds_in.texts text cut) in
            let same : read.delta ≡ delta = let both : Ok read.delta ≡ Ok delta = sym read.is ∙ sym is in cc in
            subst (λ (d : List Placed). IsTextOf with_log sites d) same read.of
        | inr none ↦ absurd none
      ]
    ]) among

    delta_given : (delta : List Placed) → IsAmong files (Ok delta) → IsTextOf with_log sites delta
    delta_given delta among = elim given as (λ c. IsTextOf with_log sites delta) [
      | inl empty ↦ absurd (subst (λ (t : List ℕ). IsAmong (files_in (offered t)) (Ok delta)) empty among)
      | inr cut ↦ delta_of_cut cut delta among
    ]

    way : IsExchanged files start now
    way = exchanged_is start (journal_site site sites journal valid) files (texts_are_deltas (offered text))

    start_of_log : IsOf with_log start
    start_of_log = subst (λ (c : Core). IsOf with_log c) (sym (journal_core site sites journal)) (of_start with_log site sites (has_itself site sites valid) (own_log journal) log_here)

    start_group : start.group ≡ sites
    start_group = ap (λ (c : Core). c.group) (journal_core site sites journal)

    now_of_log : IsOf with_log now
    now_of_log = of_accepted with_log files sites delta_given way.deltas start now start_group way.accepted start_of_log

    one_restored : IsOne with_log sites site now
    one_restored = record {
      number = number_along files way.deltas start now way.accepted ∙ ap (λ (c : Core). c.number) (journal_core site sites journal);
      group = group_along files way.deltas start now way.accepted ∙ start_group;
      order = now_of_log.order;
      inside = now_of_log.inside;
      known = λ e held. inl (now_of_log.known e held);
      written = subst (λ (l : List Draft). Begins (with_log site) l) (log_here ∙ sym (by_the_journal site sites journal (offered text) valid)) (begins_itself (with_log site));
    }

    one_other : (at : ℕ) → nat_eq site at ≡ false → IsOne with_log sites at (world.core at)
    one_other at other =
        one_longer world.journal with_log log_longer sites at (world.core at) (holds_in.each at)
        (subst (λ (b : Bool). Begins (cond b (own_log journal) (world.journal at)) (owned at)) (sym other) (begins_owned at))

    comes_restored : Comes sites world (happens sites world (Restore site journal text))
    comes_restored = record {
      holds = record {
        each = at_each world.core site now (λ at core. IsOne with_log sites at core) one_restored one_other;
        texts = λ t among. read_longer world.journal with_log log_longer sites t (holds_in.texts t among);
      };
      longer = log_longer;
    }

-- ---- events

comes_by : (sites : ℕ) (world : World) → Holds sites world → (event : Event) → MayHappen sites world event → Comes sites world (happens sites world event)
comes_by sites world holds (Take site messages) may = come_to sites world holds site (core_taking (world.core site) messages) (one_taking sites world holds site may messages)
comes_by sites world holds (Write site) may = comes_written sites world holds site
comes_by sites world holds (Accept site text) may =
    come_to sites world holds site (core_offered (world.core site) (delta_in text)) (one_offered sites world holds site may.0 text (holds.texts text may.1))
comes_by sites world holds (Cut site have) may =
    comes_text sites world holds site (entries_above have (world.core site).arrivals) (among_above have (world.core site).arrivals) may.1 may.2
comes_by sites world holds (Entries site origin above most) may =
    comes_text sites world holds site (entries_asked origin above most (world.core site).arrivals)
    (asked_held origin above most (world.core site).arrivals (holds.each site).order) may.1 may.2
comes_by sites world holds (Restore site journal text) may = comes_restored sites world holds site may.0 journal text may.1 may.2

comes_after : (sites : ℕ) (events : List Event) (world : World) → Holds sites world → AllMayHappen sites world events → Comes sites world (after sites world events)
comes_after sites [] world holds may = record { holds = holds; longer = λ site. begins_itself (world.journal site) }
comes_after sites (event ∷ events) world holds may =
    let next : World = happens sites world event in
    let one : Comes sites world next = comes_by sites world holds event may.0 in
    let rest : Comes sites next (after sites next events) = comes_after sites events next one.holds may.1 in
    record { holds = rest.holds; longer = λ site. begins_on _ _ _ (one.longer site) (rest.longer site) }

pub holds_of : (sites : ℕ) (world : World) → IsHub sites world → Holds sites world
holds_of sites world hub = subst (Holds sites) (sym hub.led) (comes_after sites hub.events (at_first sites) (holds_first sites) hub.may).holds

-- ---- laws

pub embedded_never_fork : EmbeddedSitesNeverFork
embedded_never_fork sites world hub site text among =
    let holds_in : Holds sites world = holds_of sites world hub in
    let read : IsTextRead world.journal sites text = holds_in.texts text among in
    let of : IsTextOf (own_messages world) sites read.delta = text_longer world.journal (own_messages world) (begins_owned sites world holds_in) sites read.delta read.of in
    record {
      delta = read.delta;
      read = read.is;
      early = only_early (own_messages world) (world.core site) (of_site sites world holds_in site) read.delta
          (subst (λ (g : ℕ). IsTextOf (own_messages world) g read.delta) (sym (holds_in.each site).group) of);
    }

pub journals_grow : JournalsOnlyGrow
journals_grow sites world events hub may site = (comes_after sites events world (holds_of sites world hub) may).longer site

pub written_last : WrittenMessagesLast
written_last sites world events hub may site =
    let comes : Comes sites world (after sites world events) = comes_after sites events world (holds_of sites world hub) may in
    begins_on _ _ _ (comes.longer site) (begins_owned sites (after sites world events) comes.holds site)

own_by : (sites : ℕ) (world : World) → Holds sites world → (event : Event) → MayHappen sites world event → LosesNone world event
    → (at : ℕ) → Begins (own_messages world at) (own_messages (happens sites world event) at)
own_by sites world holds (Take site messages) may none at =
    let core : Core = world.core site in
    let now : Core = core_taking core messages in
    let grown : IsGrown core now = grown_taking messages core (is_site sites world holds site may) in
    at_each world.core site now (λ o c. Begins (own_messages world o) (log_of o c.arrivals))
    (subst (λ (n : ℕ). Begins (log_of n core.arrivals) (log_of n now.arrivals)) (holds.each site).number grown.own)
    (λ o other. begins_itself (own_messages world o)) at
own_by sites world holds (Write site) may none at = begins_itself (own_messages world at)
own_by sites world holds (Accept site text) may none at =
    let core : Core = world.core site in
    let now : Core = core_offered core (delta_in text) in
    let kept : log_of site now.arrivals ≡ log_of site core.arrivals =
    subst (λ (n : ℕ). log_of n now.arrivals ≡ log_of n core.arrivals) (holds.each site).number (deltas_add_nothing core text) in
    at_each world.core site now (λ o c. Begins (own_messages world o) (log_of o c.arrivals))
    (subst (λ (l : List Draft). Begins (own_messages world site) l) (sym kept) (begins_itself (own_messages world site)))
    (λ o other. begins_itself (own_messages world o)) at
own_by sites world holds (Cut site have) may none at = begins_itself (own_messages world at)
own_by sites world holds (Entries site origin above most) may none at = begins_itself (own_messages world at)
own_by sites world holds (Restore site journal text) may none at =
    at_each world.core site (core_restored site sites journal text) (λ o c. Begins (own_messages world o) (log_of o c.arrivals))
    (subst (λ (l : List Draft). Begins (own_messages world site) l) (sym (by_the_journal site sites journal (offered text) may.0)) none)
    (λ o other. begins_itself (own_messages world o)) at

own_after : (sites : ℕ) (events : List Event) (world : World) → Holds sites world → AllMayHappen sites world events → NoneIsLost sites world events
    → (at : ℕ) → Begins (own_messages world at) (own_messages (after sites world events) at)
own_after sites [] world holds may none at = begins_itself (own_messages world at)
own_after sites (event ∷ events) world holds may none at =
    begins_on _ _ _ (own_by sites world holds event may.0 none.0 at)
    (own_after sites events (happens sites world event) (comes_by sites world holds event may.0).holds may.1 none.1 at)

pub own_grow : OwnMessagesOnlyGrow
own_grow sites world events hub may none site = own_after sites events world (holds_of sites world hub) may none site

pub no_number_twice : NoNumberIsGivenTwice
no_number_twice sites world events hub may one other site there held origin number =
    let later : World = after sites world events in
    let comes : Comes sites world later = comes_after sites events world (holds_of sites world hub) may in
    let owned : ℕ → List Draft = own_messages later in
    let longer : (o : ℕ) → Begins (world.journal o) (owned o) = λ o. written_last sites world events hub may o in
    let first : message_at (owned one.origin) one.n ≡ Some one.message = its_message owned one (held_longer world.journal owned longer one there) in
    let second : message_at (owned other.origin) other.n ≡ Some other.message = its_message owned other ((of_site sites later comes.holds site).known other held) in
    same_Some one.message other.message (sym first ∙ (λ i. message_at (owned (origin i)) (number i)) ∙ second)
