-- A site is made anew from its own journal and one cut of everything. Proof plumbing.
use Rattle.std.proofs.Common.{◌≡◌, ◌∙◌, inl, inr, refl, ap, sym, subst, ℕ, suc, ◌≤◌, Bool, true, false, cond, ◌==◌, List, [], ◌∷◌, ◌++◌, length, arith}
use Rattle.std.specs.Prelude.{codes, Some, None, Ok}
use Rattle.std.specs.Cmp.{both_ways}
use Rattle.std.proofs.lemmas.Bool.{le-ltb}
use Rattle.std.proofs.lemmas.Bool.Decides.{nat_tests}
use Rattle.std.proofs.lemmas.List.{append-nil}
use Rattle.std.proofs.lemmas.Option.{same_Some}
use Rattle.sct_message.specs.declared.draft.Draft.{Draft}
use Rattle.sct_lines.specs.Lines.{told_after, refusals_told}
use Rattle.sct_delta.specs.DeltaText.{delta_in, written_delta}
use Rattle.sct_delta.specs.Entries.{IsArrivals, IsDelta, Placed, holds, log_of}
use Rattle.sct_delta.specs.Refusals.{has_site, message_at}
use Rattle.sct_delta.specs.TextLines.{lines_by_end}
use Rattle.sct_delta.specs.VectorText.{vector_text}
use Rattle.sct_site.specs.Cores.{Core, IsSite, core_joined, entries_above, fresh_entries, logs_of, refusal_by}
use Rattle.sct_site.proofs.ArrivalLemmas.{length-log}
use Rattle.sct_site.proofs.HeldLemmas.{among_above, at_number, held_number, held_stands, not_0, one_place, stands_held}
use Rattle.sct_site.proofs.MessageLemmas.{same_messages}
use Rattle.sct_site.proofs.SiteLemmas.{has_itself}
use Rattle.sct_exchange.specs.Journals.{core_of_journal, own_log}
use Rattle.sct_exchange.specs.Laws.{HaveEqualVectors, HoldAlike}
use Rattle.sct_exchange.specs.Owned.{IsOf, IsTextOf}
use Rattle.sct_exchange.specs.RefusedFiles.{refused_text}
use Rattle.sct_exchange.specs.Rounds.{File, files_in, numbered_files, refusal_of, refused_by}
use Rattle.sct_exchange.specs.Sites.{refused_after, site_after}
use Rattle.sct_exchange.specs.Ways.{AreAccepted, IsAmong, IsExchanged}
use Rattle.sct_exchange.proofs.AlikeLemmas.{HasAll, length_within}
use Rattle.sct_exchange.proofs.ExactlyLemmas.{refused_last, rounds_come_to_it}
use Rattle.sct_exchange.proofs.HubLemmas.{group_along, its_message, of_accepted, of_start}
use Rattle.sct_exchange.proofs.JournalLemmas.{journal_core}
use Rattle.sct_exchange.proofs.OwnLemmas.{by_the_journal}
use Rattle.sct_exchange.proofs.WayLemmas.{delta_shape}
use Rattle.sct_embed.specs.Restoring.{offered}
use Rattle.sct_hub.specs.Laws.{SitesAnswerAlike}
use Rattle.sct_hub.specs.Restored.{AreOneSite, IsCutOfAll, OneCutIsEnough, SitesAreRestored}
use Rattle.sct_hub.proofs.AlikeLemmas.{above_alike, number_along}
use Rattle.sct_hub.proofs.AskLemmas.{asked_alike}
use Rattle.sct_hub.proofs.CatchUpLemmas.{cut_fits, cut_has}
use Rattle.sct_hub.proofs.EmbeddedEqualLemmas.{answer_alike}

-- ---- sites that hold alike

count_alike : (es fs : List Placed) → IsArrivals es → IsArrivals fs → HoldAlike es fs → HaveEqualVectors es fs
count_alike es fs first second same o =
    omega (arith, length_within es fs first second (λ e held. sym (same e) ∙ held) o, length_within fs es second first (λ e held. same e ∙ held) o, length-log o es, length-log o fs)

-- ---- the site that the journal and the cut make

module _ (core : Core) (site : IsSite core) (journal text : List ℕ) (log : own_log journal ≡ log_of core.number core.arrivals) (read : IsCutOfAll text core.arrivals) where
  abbrev number : ℕ
  number = core.number

  abbrev group : ℕ
  group = core.group

  abbrev owned : ℕ → List Draft
  owned = logs_of core.arrivals

  abbrev delta : List Placed
  delta = entries_above (λ origin. 0) core.arrivals

  abbrev files : List File
  files = files_in (text ∷ [])

  abbrev start : Core
  start = core_of_journal number group journal

  abbrev again : Core
  again = (site_after number group journal (text ∷ [])).core

  way : IsExchanged files start again
  way = (rounds_come_to_it number group journal (text ∷ []) site.opened).0

  again_site : IsSite again
  again_site = (rounds_come_to_it number group journal (text ∷ []) site.opened).1

  shape : IsDelta delta
  shape = delta_shape text delta read

  its_delta : (d : List Placed) → IsAmong files (Ok d) → delta ≡ d
  its_delta d (inl is) = let both : Ok delta ≡ Ok d = sym read ∙ sym is in cc
  its_delta d (inr none) = absurd none

  its_text : (d : List Placed) → IsAmong files (Ok d) → IsTextOf owned group d
  its_text d among = subst (λ (x : List Placed). IsTextOf owned group x) (its_delta d among) (record {
    shape = shape;
    inside = λ e held. site.inside e (among_above (λ origin. 0) core.arrivals e held);
    known = λ e held. held_stands core.arrivals site.order e (among_above (λ origin. 0) core.arrivals e held);
  })

  start_is : IsOf owned start
  start_is =
      subst (λ (c : Core). IsOf owned c) (sym (journal_core number group journal))
      (of_start owned number group (has_itself number group site.opened) (own_log journal) (sym log))

  start_group : start.group ≡ group
  start_group = ap (λ (c : Core). c.group) (journal_core number group journal)

  pub again_group : again.group ≡ group
  again_group = group_along files way.deltas start again way.accepted ∙ start_group

  pub again_number : again.number ≡ number
  again_number = number_along files way.deltas start again way.accepted ∙ ap (λ (c : Core). c.number) (journal_core number group journal)

  again_is : IsOf owned again
  again_is = of_accepted owned files group its_text way.deltas start again start_group way.accepted start_is

  -- an entry that was there, and under whose number there is one again, is there again
  there_again : (e : Placed) → holds core.arrivals e ≡ true → (m : Draft) → message_at (log_of e.origin again.arrivals) e.n ≡ Some m → holds again.arrivals e ≡ true
  there_again e held m is =
      let found : Placed = record { origin = e.origin; n = e.n; message = m } in
      let there : holds again.arrivals found ≡ true = held_number again.arrivals again_site.order e.origin e.n m is in
      let same : m ≡ e.message = same_Some m e.message (sym (its_message owned found (again_is.known found there)) ∙ one_place core.arrivals site.order e held) in
      ap (λ (x : Draft). holds again.arrivals (record { origin = e.origin; n = e.n; message = x })) (sym same) ∙ there

  agree : (e : Placed) → holds core.arrivals e ≡ true → e.n ≤ length (log_of e.origin again.arrivals) → holds again.arrivals e ≡ true
  agree e held below =
      at_number (log_of e.origin again.arrivals) e.n (not_0 (log_of e.origin core.arrivals) e.n e.message (one_place core.arrivals site.order e held))
      (le-ltb (length (log_of e.origin again.arrivals)) e.n below) (holds again.arrivals e ≡ true) (there_again e held)

  own_most : length (log_of again.number core.arrivals) ≤ length (log_of again.number again.arrivals)
  own_most = let same : length (log_of again.number again.arrivals) ≡ length (log_of again.number core.arrivals) = ap length again_is.own in omega (arith, same)

  inside : (e : Placed) → holds core.arrivals e ≡ true → has_site again.group e.origin ≡ true
  inside e held = ap (λ (g : ℕ). has_site g e.origin) again_group ∙ site.inside e held

  pub cut_accepted : refusal_by again delta ≡ None
  cut_accepted = cut_fits core.arrivals site.order again again_site.order (λ origin. 0) shape inside own_most (λ o. omega arith) agree

  none_left : fresh_entries again.arrivals delta ≡ []
  none_left = way.complete delta (inl (sym read)) cut_accepted

  all_there : HasAll core.arrivals again.arrivals
  all_there e held =
      ap (λ (es : List Placed). holds es e) (sym (ap (λ (es : List Placed). again.arrivals ++ es) none_left ∙ append-nil again.arrivals))
      ∙ cut_has core.arrivals site.order again again_site.order (λ origin. 0) shape inside own_most (λ o. omega arith) agree e held

  none_else : HasAll again.arrivals core.arrivals
  none_else e held = stands_held core.arrivals site.order e (again_is.known e held)

  hold_alike : HoldAlike core.arrivals again.arrivals
  hold_alike e = both_ways (holds core.arrivals e) (holds again.arrivals e) (all_there e) (none_else e)

  equal_vectors : HaveEqualVectors core.arrivals again.arrivals
  equal_vectors = count_alike core.arrivals again.arrivals site.order again_site.order hold_alike

  pub one_site : AreOneSite core again
  one_site = record {
    number = sym again_number;
    group = sym again_group;
    entries = hold_alike;
    vectors = equal_vectors;
    answers = answer_alike core again site.order again_site.order hold_alike equal_vectors;
  }

  pub none_refused : refused_after number group journal (text ∷ []) ≡ []
  none_refused = refused_last number group journal (text ∷ []) site.opened ∙ none_of_it again (delta_in text) (ap (refusal_of again) read ∙ cut_accepted)
    where
      none_of_it : (c : Core) (file : File) → refusal_of c file ≡ None → refused_by c (numbered_files (file ∷ [])) ≡ []
      none_of_it c file is = rw is refl

-- ---- a text that is read as a delta is offered

not_none : (n : ℕ) → (suc n == 0) ≡ false
not_none n = grind (arith, nat_tests)

no_delta : (ds : List Placed) → delta_in [] ≡ Ok ds → ⊥
unfolding delta_in lines_by_end
no_delta ds is = cc

offered_is : (text : List ℕ) (ds : List Placed) → delta_in text ≡ Ok ds → offered text ≡ text ∷ []
offered_is [] ds read = absurd (no_delta ds read)
offered_is (byte ∷ bytes) ds read = ap (λ (b : Bool). cond b [] ((byte ∷ bytes) ∷ [])) (not_none (length bytes))

no_files : refused_text [] ≡ []
unfolding refused_text
no_files = refl

pub sites_restored : SitesAreRestored
sites_restored core journal text site log read =
    let given : offered text ≡ text ∷ [] = offered_is text (entries_above (λ origin. 0) core.arrivals) read in
    let accepted : refused_after core.number core.group journal (offered text) ≡ [] =
    ap (refused_after core.number core.group journal) given ∙ none_refused core site journal text log read in
    record {
      site = subst (λ (texts : List (List ℕ)). AreOneSite core (site_after core.number core.group journal texts).core) (sym given) (one_site core site journal text log read);
      accepted = accepted;
      report = ap (λ (l : List ℕ). told_after (codes "file 1 ") (refusals_told journal) ++ l) (ap refused_text accepted ∙ no_files) ∙ append-nil (told_after (codes "file 1 ") (refusals_told journal));
    }

-- ---- one cut in place of all deltas

pub one_cut : OneCutIsEnough
one_cut number group journal texts whole valid read =
    let core : Core = (site_after number group journal texts).core in
    let end = rounds_come_to_it number group journal texts valid in
    let its_number : core.number ≡ number =
    number_along (files_in texts) end.0.deltas (core_of_journal number group journal) core end.0.accepted ∙ ap (λ (c : Core). c.number) (journal_core number group journal) in
    let its_group : core.group ≡ group =
    group_along (files_in texts) end.0.deltas (core_of_journal number group journal) core end.0.accepted ∙ ap (λ (c : Core). c.group) (journal_core number group journal) in
    let log : own_log journal ≡ log_of core.number core.arrivals =
    sym (by_the_journal number group journal texts valid) ∙ ap (λ (n : ℕ). log_of n core.arrivals) (sym its_number) in
    subst (λ (c : Core). AreOneSite core c) (λ i. (site_after (its_number i) (its_group i) journal (whole ∷ [])).core) (one_site core end.1 journal whole log read)
