-- A site's own entries go by its journal alone. Proof plumbing.
use Rattle.std.proofs.Common.{◌≡◌, ◌∙◌, refl, ap, sym, subst, ℕ, true, false, not, List, ◌∷◌, [], ◌++◌, map, nat_eq, ◌≤◌}
use Rattle.std.specs.Prelude.{None}
use Rattle.std.proofs.lemmas.Bool.{eqb-true, false≢true}
use Rattle.std.proofs.lemmas.List.{append-nil}
use Rattle.sct_message.proofs.Tests.{none_kept as filter_none}
use Rattle.sct_delta.specs.Entries.{Placed, IsDelta, holds, is_from, log_of, same_entry}
use Rattle.sct_delta.specs.Laws.{IsFitting}
use Rattle.sct_delta.specs.Refusals.{is_held, vector_of}
use Rattle.sct_delta.proofs.EntryLemmas.{from-numbered, log-append, log_is}
use Rattle.sct_delta.proofs.FittingLemmas.{refused_where_it_does_not_fit}
use Rattle.sct_delta.proofs.HeldLemmas.{passes_none}
use Rattle.sct_site.specs.Cores.{Core, arrivals_joined, core_joined, fresh_entries, logs_of, refusal_by}
use Rattle.sct_site.proofs.HeldLemmas.{any_kept, kept_passes}
use Rattle.sct_exchange.specs.Journals.{core_of_journal, own_log}
use Rattle.sct_exchange.specs.Laws.{OwnEntriesGoByTheJournal}
use Rattle.sct_exchange.specs.Rounds.{File, files_in}
use Rattle.sct_exchange.specs.Sites.{site_after}
use Rattle.sct_exchange.specs.Ways.{AreAccepted, IsExchanged}
use Rattle.sct_exchange.proofs.JournalLemmas.{journal_core, journal_site}
use Rattle.sct_exchange.proofs.WayLemmas.{AreDeltas, exchanged_is, texts_are_deltas}

-- ---- a delta that is accepted brings no own entry

module _ (core : Core) (delta : List Placed) (shape : IsDelta delta) (fits : refusal_by core delta ≡ None) where
  fit : IsFitting core.number core.group (logs_of core.arrivals) delta
  fit = (refused_where_it_does_not_fit core.number core.group (logs_of core.arrivals) delta shape).0 fits

  not_own : (e : Placed) → holds (fresh_entries core.arrivals delta) e ≡ true → is_from core.number e ≡ false
  not_own e fresh =
      elim (nat_eq e.origin core.number) as (λ b. nat_eq e.origin core.number ≡ b → b ≡ false) [
        | true ↦ λ same.
            let site : e.origin ≡ core.number = eqb-true e.origin core.number same in
            let among : holds delta e ≡ true = any_kept (λ x. not (is_held (logs_of core.arrivals) x)) (λ x. same_entry x e) delta fresh in
            let held : is_held (logs_of core.arrivals) e ≡ true = fit.no_fork e among (subst (λ (o : ℕ). e.n ≤ vector_of (logs_of core.arrivals) o) (sym site) (fit.known e among site)) in
            let new : not (is_held (logs_of core.arrivals) e) ≡ true = kept_passes (λ x. not (is_held (logs_of core.arrivals) x)) delta e fresh in
            absurd (false≢true (ap not (sym held) ∙ new))
        | false ↦ λ other. refl
      ] refl

  pub own_kept : log_of core.number (arrivals_joined core.arrivals delta) ≡ log_of core.number core.arrivals
  own_kept =
      log-append core.number core.arrivals (fresh_entries core.arrivals delta)
      ∙ ap (λ (es : List Placed). log_of core.number core.arrivals ++ map (λ entry. entry.message) es)
      (filter_none (is_from core.number) (fresh_entries core.arrivals delta) (passes_none (is_from core.number) (fresh_entries core.arrivals delta) not_own))
      ∙ append-nil (log_of core.number core.arrivals)

-- ---- along deltas

own_along : (files : List File) → AreDeltas files → (deltas : List (List Placed)) (before after : Core) → AreAccepted files before deltas after
    → log_of before.number after.arrivals ≡ log_of before.number before.arrivals
own_along files shapes [] before after is = ap (λ (c : Core). log_of before.number c.arrivals) is
own_along files shapes (delta ∷ deltas) before after way =
    own_along files shapes deltas (core_joined before delta) after way.2 ∙ own_kept before delta (shapes delta way.0) way.1

pub by_the_journal : OwnEntriesGoByTheJournal
by_the_journal number group journal texts valid =
    let start : Core = core_of_journal number group journal in
    let way : IsExchanged (files_in texts) start (site_after number group journal texts).core =
    exchanged_is start (journal_site number group journal valid) (files_in texts) (texts_are_deltas texts) in
    let same : start.number ≡ number = ap (λ (c : Core). c.number) (journal_core number group journal) in
    ap (λ (n : ℕ). log_of n (site_after number group journal texts).core.arrivals) (sym same)
    ∙ own_along (files_in texts) (texts_are_deltas texts) way.deltas start (site_after number group journal texts).core way.accepted
    ∙ ap (λ (c : Core). log_of c.number c.arrivals) (journal_core number group journal)
    ∙ log_is number 1 (own_log journal) _ (from-numbered number 1 (own_log journal))
