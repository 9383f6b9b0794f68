-- A hub of keepers may go on where honest runs of the commands ended. Proof plumbing.
use Rattle.std.proofs.Common.{◌≡◌, ◌∙◌, inl, inr, refl, ap, sym, subst, ℕ, Bool, true, false, cond, List, [], ◌∷◌, ◌++◌, map, nat_eq}
use Rattle.std.specs.Prelude.{Ok}
use Rattle.std.proofs.lemmas.Bool.{false≢true}
use Rattle.sct_message.specs.declared.draft.Draft.{Draft}
use Rattle.sct_lines.specs.LineLaws.{IsOfWholeLines}
use Rattle.sct_delta.specs.Entries.{Placed, holds, log_of}
use Rattle.sct_delta.specs.Refusals.{is_held}
use Rattle.sct_site.specs.Cores.{is_open, logs_of}
use Rattle.sct_site.proofs.HeldLemmas.{stands_held}
use Rattle.sct_exchange.specs.Hubs.{IsHeldByRuns, IsHonest, IsTextOfRuns, Run, journal_at, text_of}
use Rattle.sct_exchange.specs.Journals.{Begins, opened, own_log}
use Rattle.sct_exchange.specs.Ways.{IsAmong}
use Rattle.sct_exchange.proofs.HubLemmas.{cut_texts, held_in, held_longer, owned_in}
use Rattle.sct_exchange.proofs.JournalLemmas.{log_longer}
use Rattle.sct_journal.specs.Kept.{AreLines}
use Rattle.sct_requests.specs.Steps.{AreKept, core_kept, is_delta_line, text_in}
use Rattle.sct_hub.specs.Hubs.{MayBegin, World, own_journal, texts_given}
use Rattle.sct_hub.specs.Laws.{HonestHubsMayBegin}
use Rattle.sct_hub.proofs.AlikeLemmas.{live_site, own_is}
use Rattle.sct_hub.proofs.PeerLemmas.{open_too}
use Rattle.sct_hub.proofs.RoundLemmas.{CameByDelta, comes_from}

whole_at : (sites : ℕ) (runs : List Run) → IsHonest sites runs → (site : ℕ) → IsOfWholeLines (journal_at runs site)
whole_at sites [] honest site = refl
whole_at sites (run ∷ runs) honest site = elim (nat_eq run.site site) as (λ b. IsOfWholeLines (cond b run.journal (journal_at runs site))) [
  | true ↦ honest.0.whole
  | false ↦ whole_at sites runs honest.1 site
]

opened_in : (sites : ℕ) (runs : List Run) → IsHonest sites runs → (run : Run) → IsAmong runs run → is_open run.site sites ≡ true
opened_in sites [] honest run among = absurd among
opened_in sites (first ∷ runs) honest run among = elim among as (λ c. is_open run.site sites ≡ true) [
  | inl is ↦ ap (λ (r : Run). is_open r.site sites) is ∙ honest.0.opened
  | inr older ↦ opened_in sites runs honest.1 run older
]

told_given : (lines : List (List ℕ)) (line : List ℕ) → IsAmong lines line → is_delta_line line ≡ true → IsAmong (texts_given lines) (text_in line)
told_given [] line among told = absurd among
told_given (l ∷ lines) line among told = (elim (is_delta_line l) as (λ b. is_delta_line l ≡ b → IsAmong (cond b (text_in l ∷ texts_given lines) (texts_given lines)) (text_in line)) [
  | true ↦ λ here. elim among as (λ c. IsAmong (text_in l ∷ texts_given lines) (text_in line)) [
    | inl same ↦ inl (ap text_in same)
    | inr later ↦ inr (told_given lines line later told)
  ]
  | false ↦ λ plain. elim among as (λ c. IsAmong (texts_given lines) (text_in line)) [
    | inl same ↦ absurd (false≢true (sym plain ∙ ap is_delta_line (sym same) ∙ told))
    | inr later ↦ told_given lines line later told
  ]
]) refl

module _ (sites : ℕ) (lines : ℕ → List (List ℕ)) (runs : List Run) (honest : IsHonest sites runs) (are : (site : ℕ) → AreLines (lines site)) (some : (site : ℕ) → AreKept (opened site sites) (lines site))
    (longer : (site : ℕ) → Begins (journal_at runs site) (own_journal (lines site)))
    (given : (site : ℕ) (text : List ℕ) → IsAmong (texts_given (lines site)) text → IsTextOfRuns sites runs text) where
  abbrev arrivals : ℕ → List Placed
  arrivals site = (core_kept site sites (lines site)).arrivals

  abbrev own : ℕ → List Draft
  own site = own_log (own_journal (lines site))

  own_longer : (site : ℕ) → Begins (owned_in runs site) (own site)
  own_longer site =
      subst (λ (j : List ℕ). Begins (owned_in runs site) (own_log j)) (sym (longer site).is)
      (log_longer (journal_at runs site) (longer site).rest (whole_at sites runs honest site))

  -- an entry of the own logs is held at its own site
  held_at_home : (e : Placed) → is_open e.origin sites ≡ true → is_held (owned_in runs) e ≡ true → holds (arrivals e.origin) e ≡ true
  held_at_home e valid known =
      stands_held (arrivals e.origin) (live_site e.origin sites valid (lines e.origin) (are e.origin) (some e.origin)).order e
      (at_home (held_longer (owned_in runs) own own_longer e known))
    where
      at_home : is_held own e ≡ true → is_held (logs_of (arrivals e.origin)) e ≡ true
      at_home = subst (λ (log : List Draft). is_held (λ o. log) e ≡ true) (sym (own_is e.origin sites valid (lines e.origin) (are e.origin) (some e.origin)))

  module _ (text : List ℕ) (of : IsTextOfRuns sites runs text) (e : Placed) (among : holds of.delta e ≡ true) where
    its_site_is_open : is_open e.origin sites ≡ true
    its_site_is_open =
        let by : IsHeldByRuns sites runs e = of.held e among in
        open_too by.run.site sites e.origin (opened_in sites runs honest by.run by.among) ((held_in sites runs honest) by.run by.among e by.held).0

    at_its_origin : holds (arrivals e.origin) e ≡ true
    at_its_origin =
        let by : IsHeldByRuns sites runs e = of.held e among in
        held_at_home e its_site_is_open ((held_in sites runs honest) by.run by.among e by.held).1

  by_delta : (site : ℕ) (e : Placed) → CameByDelta (lines site) e → holds (arrivals e.origin) e ≡ true
  by_delta site e came =
      let of : IsTextOfRuns sites runs (text_in came.line) = given site (text_in came.line) (told_given (lines site) came.line came.among came.told) in
      let same : came.delta ≡ of.delta = let both : Ok came.delta ≡ Ok of.delta = sym came.read ∙ of.read in cc in
      at_its_origin (text_in came.line) of e (ap (λ (d : List Placed). holds d e) (sym same) ∙ came.held)

  known_here : (site : ℕ) (e : Placed) → holds (arrivals site) e ≡ true → holds (arrivals e.origin) e ≡ true
  known_here site e held = elim (comes_from (lines site) (opened site sites) (some site) e held) as (λ c. holds (arrivals e.origin) e ≡ true) [
    | inl old ↦ absurd (false≢true old)
    | inr other ↦ elim other as (λ c. holds (arrivals e.origin) e ≡ true) [
      | inl home ↦ ap (λ (o : ℕ). holds (arrivals o) e) home ∙ held
      | inr came ↦ by_delta site e came
    ]
  ]

  honest_here : MayBegin sites (record { lines = lines; texts = map (text_of sites) runs })
  honest_here = record {
    are = are;
    some = some;
    known = λ site e valid held. known_here site e held;
    texts = λ text among.
        let of : IsTextOfRuns sites runs text = cut_texts sites runs honest text among in
        record {
          delta = of.delta;
          read = of.read;
          held = λ e there. record { site = e.origin; opened = its_site_is_open text of e there; held = at_its_origin text of e there };
        };
  }

pub honest_begin : HonestHubsMayBegin
honest_begin sites lines runs honest are some longer given = honest_here sites lines runs honest are some longer given
