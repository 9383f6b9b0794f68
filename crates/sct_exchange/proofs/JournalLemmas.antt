-- What a journal makes: its own log, and the site that took its messages. Proof plumbing.
use Rattle.std.proofs.Common.{◌≡◌, ◌∙◌, refl, ap, sym, subst, ℕ, ◌+◌, Bool, true, false, cond, List, [], ◌∷◌, ◌++◌, length, arith, append_assoc}
use Rattle.std.specs.FinSet as set
use Rattle.std.specs.List.{fold, list_any}
use Rattle.std.proofs.lemmas.List.{append-nil}
use Rattle.std.proofs.lemmas.List.Sums.{fold-append}
use Rattle.sct_message.specs.declared.draft.Draft.{Draft}
use Rattle.sct_message.specs.Order.{same_message}
use Rattle.sct_set.specs.Contents.{contents_of}
use Rattle.sct_set.proofs.ContentsLemmas.{contains-contents_of}
use Rattle.sct_lines.specs.Lines.{messages_read}
use Rattle.sct_lines.proofs.PartLemmas.{messages_stay}
use Rattle.sct_delta.specs.Entries.{Placed, numbered, entries_from, held_from}
use Rattle.sct_delta.proofs.EntryLemmas.{numbered-append as entries-append, from-numbered, length-numbered, messages-numbered}
use Rattle.sct_site.specs.Cores.{Core, IsSite, is_open, is_repeat, own_entry, arrivals_taken, core_taken}
use Rattle.sct_site.proofs.SiteLemmas.{site_opened, site_taken}
use Rattle.sct_exchange.specs.Journals.{Begins, with_message, each_once, own_log, core_taking, core_of_journal, opened}
use Rattle.sct_exchange.specs.Laws.{JournalsMakeLogs, NumbersLast}

-- ---- lists that begin alike

pub begins_itself : {X : Type 0} (xs : List X) → Begins xs xs
begins_itself xs = record { rest = []; is = sym (append-nil xs) }

pub begins_on : {X : Type 0} (xs ys zs : List X) → Begins xs ys → Begins ys zs → Begins xs zs
begins_on xs ys zs one two = record {
  rest = one.rest ++ two.rest;
  is = two.is ∙ ap (λ l. l ++ two.rest) one.is ∙ append_assoc xs one.rest two.rest;
}

-- ---- each message once

log_kept : (log : List Draft) (m : Draft) → Begins log (with_message log m)
log_kept log m = elim (list_any (λ held. same_message held m) log) as (λ b. Begins log (cond b log (log ++ m ∷ []))) [
  | true ↦ begins_itself log
  | false ↦ record { rest = m ∷ []; is = refl }
]

once_kept : (ms log : List Draft) → Begins log (fold with_message log ms)
once_kept [] log = begins_itself log
once_kept (m ∷ ms) log = begins_on log (with_message log m) (fold with_message (with_message log m) ms) (log_kept log m) (once_kept ms (with_message log m))

once-append : (ms more : List Draft) → Begins (each_once ms) (each_once (ms ++ more))
once-append ms more = subst (λ (l : List Draft). Begins (each_once ms) l) (sym (fold-append with_message [] ms more)) (once_kept more (each_once ms))

pub log_longer : NumbersLast
unfolding own_log
log_longer journal more whole =
    subst (λ (ms : List Draft). Begins (each_once (messages_read journal)) (each_once ms)) (sym (messages_stay journal more whole)) (once-append (messages_read journal) (messages_read more))

-- ---- the site that took the messages

module _ (number group : ℕ) (log : List Draft) (m : Draft) where
  abbrev of_log : List Draft → Core
  of_log l = record { number = number; group = group; arrivals = numbered number 1 l }

  repeat_as : is_repeat (of_log log) m ≡ list_any (λ held. same_message held m) log
  repeat_as = ap (λ (ms : List Draft). set.contains (contents_of ms) m) (messages-numbered number 1 log) ∙ contains-contents_of log m

  next_as : held_from number (numbered number 1 log) + 1 ≡ 1 + length log
  next_as =
      let count : length (entries_from number (numbered number 1 log)) ≡ length log = ap length (from-numbered number 1 log) ∙ length-numbered number 1 log in
      omega (arith, count)

  taken_as : core_taken (of_log log) m ≡ of_log (with_message log m)
  unfolding arrivals_taken
  taken_as =
      ap (λ (b : Bool). record { number = number; group = group; arrivals = cond b (numbered number 1 log) (numbered number 1 log ++ own_entry (of_log log) m ∷ []) }) repeat_as
      ∙ elim (list_any (λ held. same_message held m) log) as (λ b. record { number = number; group = group; arrivals = cond b (numbered number 1 log) (numbered number 1 log ++ own_entry (of_log log) m ∷ []) } ≡ of_log (cond b log (log ++ m ∷ []))) [
        | true ↦ refl
        | false ↦ ap (λ (es : List Placed). record { number = number; group = group; arrivals = es })
            (ap (λ (n : ℕ). numbered number 1 log ++ record { origin = number; n = n; message = m } ∷ []) next_as ∙ sym (entries-append number 1 log (m ∷ [])))
      ]

taking_is : (number group : ℕ) (ms log : List Draft)
    → core_taking (record { number = number; group = group; arrivals = numbered number 1 log }) ms ≡ record { number = number; group = group; arrivals = numbered number 1 (fold with_message log ms) }
taking_is number group [] log = refl
taking_is number group (m ∷ ms) log =
    ap (λ (core : Core). core_taking core ms) (taken_as number group log m) ∙ taking_is number group ms (with_message log m)

pub journal_core : (number group : ℕ) (journal : List ℕ) → core_of_journal number group journal ≡ record { number = number; group = group; arrivals = numbered number 1 (own_log journal) }
unfolding own_log
journal_core number group journal = taking_is number group (messages_read journal) []

pub makes_logs : JournalsMakeLogs
makes_logs number group journal = ap (λ (core : Core). core.arrivals) (journal_core number group journal)

-- and it is a site
site_taking : (messages : List Draft) (core : Core) → IsSite core → IsSite (core_taking core messages)
site_taking [] core site = site
site_taking (m ∷ messages) core site = site_taking messages (core_taken core m) (site_taken core m site)

pub journal_site : (number group : ℕ) (journal : List ℕ) → is_open number group ≡ true → IsSite (core_of_journal number group journal)
journal_site number group journal valid = site_taking (messages_read journal) (opened number group) (site_opened number group valid)
