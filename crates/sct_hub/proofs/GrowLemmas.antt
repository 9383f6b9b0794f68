-- A journal grows with its site by the lines of the own entries that it lacks. Proof plumbing.
use Rattle.std.proofs.Common.{◌≡◌, ◌≢◌, ◌∙◌, refl, ap, sym, subst, ℕ, ◌+◌, ◌<◌, Bool, true, false, not, cond, ◌&&◌, ◌==◌, List, [], ◌∷◌, ◌++◌, map, length, arith, append_assoc, length-append, nat_eq, nat_lt}
use Rattle.std.specs.List.{All, flat_map, fold, list_any}
use Rattle.std.proofs.lemmas.Bool.{and_parts, eqb-true, false_from_ne_true, false≢true, lt-ltb}
use Rattle.std.proofs.lemmas.Bool.Decides.{nat_tests}
use Rattle.std.proofs.lemmas.List.{append-nil}
use Rattle.std.proofs.lemmas.List.Elements.{All-head, All-tail, filter-append}
use Rattle.std.proofs.lemmas.List.Sums.{fold-append}
use Rattle.sct_message.specs.declared.draft.Draft.{Draft}
use Rattle.sct_message.specs.Order.{same_message}
use Rattle.sct_message.proofs.Members.{list_any-map}
use Rattle.sct_message.proofs.Tests.{none_kept as filter_none}
use Rattle.sct_json.specs.Writing.{has_no_line_feed, written_text}
use Rattle.sct_json.proofs.Texts.{text_is_one_line}
use Rattle.sct_set.specs.Archive.{IsReadAgain, line_of}
use Rattle.sct_set.proofs.ContentsLemmas.{contains-contents_of}
use Rattle.sct_lines.specs.LineLaws.{IsOfWholeLines}
use Rattle.sct_lines.specs.Lines.{is_blank, lines_of, messages_among, messages_read, numbered_from}
use Rattle.sct_lines.proofs.PartLemmas.{lines_join, messages_stay}
use Rattle.sct_lines.proofs.LineLemmas.{visible}
use Rattle.sct_delta.specs.Entries.{IsArrivals, Placed, entries_from, held_from, is_from, log_of, numbered}
use Rattle.sct_delta.specs.Refusals.{message_at}
use Rattle.sct_delta.proofs.EntryLemmas.{from-numbered, log-append, log_is, same_number}
use Rattle.sct_delta.proofs.HeldLemmas.{passes_none}
use Rattle.sct_site.specs.Cores.{Core, IsSite, arrivals_taken, core_taken, is_repeat, own_entry}
use Rattle.sct_site.proofs.ArrivalLemmas.{length-log}
use Rattle.sct_site.proofs.HeldLemmas.{any_kept, one_place, within}
use Rattle.sct_exchange.specs.Journals.{core_taking, each_once, own_log, with_message}
use Rattle.sct_journal.specs.Kept.{IsLine}
use Rattle.sct_requests.proofs.BringLemmas.{with_own}
use Rattle.sct_embed.specs.Asking.{own_above}
use Rattle.sct_hub.specs.Restored.{IsJournalOf, JournalsGrowWithTheirSites, lines_above}
use Rattle.sct_hub.proofs.OwnLogLemmas.{line_whole, log_taken, not_in_log, read_line_is}

-- ---- lines of messages are read as the messages

no_feed : (byte : ℕ) → not (byte == 10) ≡ true → byte ≢ 10
no_feed byte other = grind (arith, nat_tests)

is_line : (bytes : List ℕ) → has_no_line_feed bytes ≡ true → IsLine bytes
is_line [] none = tt
is_line (byte ∷ bytes) none =
    let parts = and_parts (not (byte == 10)) (has_no_line_feed bytes) none in (no_feed byte parts.0, is_line bytes parts.1)

none_read : messages_read [] ≡ []
unfolding messages_among numbered_from lines_of
none_read = refl

abbrev AllReadAgain : List Draft → Type 0
AllReadAgain [] = Unit {0}
AllReadAgain (message ∷ messages) = IsReadAgain message × AllReadAgain messages

messages_again : (messages : List Draft) → AllReadAgain messages → messages_read (flat_map line_of messages) ≡ messages
messages_again [] again = none_read
messages_again (message ∷ messages) again =
    messages_stay (line_of message) (flat_map line_of messages) (line_whole (written_text message))
    ∙ (λ i. read_line_is (written_text message) message (is_line (written_text message) (text_is_one_line message)) (visible message) again.0 i ++ messages_again messages again.1 i)

-- ---- a site that took messages

-- The site took messages that it did not have, each once, as its next own entries.
record Grew (core after : Core) : Type 0 where
  fresh : List Draft
  arrivals : after.arrivals ≡ core.arrivals ++ numbered core.number (held_from core.number core.arrivals + 1) fresh
  once : fold with_message (log_of core.number core.arrivals) fresh ≡ log_of core.number core.arrivals ++ fresh

taken_again : (core : Core) (message : Draft) → is_repeat core message ≡ true → core ≡ core_taken core message
unfolding arrivals_taken
taken_again core message again =
    sym (ap (λ (b : Bool). record { number = core.number; group = core.group; arrivals = cond b core.arrivals (core.arrivals ++ own_entry core message ∷ []) }) again)

taken_new : (core : Core) (message : Draft) → is_repeat core message ≡ false → with_own core message ≡ core_taken core message
unfolding arrivals_taken
taken_new core message new =
    sym (ap (λ (b : Bool). record { number = core.number; group = core.group; arrivals = cond b core.arrivals (core.arrivals ++ own_entry core message ∷ []) }) new)

one_more : (core : Core) (message : Draft) → held_from core.number (core.arrivals ++ own_entry core message ∷ []) ≡ held_from core.number core.arrivals + 1
one_more core message =
    let longer : length (log_of core.number (core.arrivals ++ own_entry core message ∷ [])) ≡ length (log_of core.number core.arrivals ++ message ∷ []) = ap length (log_taken core message) in
    omega (
      arith,
      longer,
      length-append (log_of core.number core.arrivals) (message ∷ []),
      length-log core.number core.arrivals,
      length-log core.number (core.arrivals ++ own_entry core message ∷ []),
    )

grew_first : (core : Core) (message : Draft) (after : Core) → is_repeat core message ≡ false → Grew (with_own core message) after → Grew core after
grew_first core message after new later = record {
  fresh = message ∷ later.fresh;
  arrivals =
      later.arrivals
      ∙ append_assoc core.arrivals (own_entry core message ∷ []) _
      ∙ ap (λ (k : ℕ). core.arrivals ++ own_entry core message ∷ numbered core.number (k + 1) later.fresh) (one_more core message);
  once =
      ap (λ (b : Bool). fold with_message (cond b (log_of core.number core.arrivals) (log_of core.number core.arrivals ++ message ∷ [])) later.fresh) (not_in_log core message new)
      ∙ ap (λ (l : List Draft). fold with_message l later.fresh) (sym (log_taken core message))
      ∙ later.once
      ∙ ap (λ (l : List Draft). l ++ later.fresh) (log_taken core message)
      ∙ append_assoc (log_of core.number core.arrivals) (message ∷ []) later.fresh;
}

grew : (messages : List Draft) (core : Core) → Grew core (core_taking core messages)
grew [] core = record { fresh = []; arrivals = sym (append-nil core.arrivals); once = sym (append-nil (log_of core.number core.arrivals)) }
grew (message ∷ messages) core = (elim (is_repeat core message) as (λ b. is_repeat core message ≡ b → Grew core (core_taking core (message ∷ messages))) [
  | true ↦ λ again. subst (λ (c : Core). Grew core (core_taking c messages)) (taken_again core message again) (grew messages core)
  | false ↦ λ new.
      subst (λ (c : Core). Grew core (core_taking c messages)) (taken_new core message new)
      (grew_first core message (core_taking (with_own core message) messages) new (grew messages (with_own core message)))
]) refl

-- ---- the own entries that came since

abbrev is_since : ℕ → ℕ → Placed → Bool
is_since number above entry = nat_eq entry.origin number && nat_lt above entry.n

none_before : (number : ℕ) (es : List Placed) → IsArrivals es → own_above number (held_from number es) es ≡ []
none_before number es order =
    filter_none (is_since number (held_from number es)) es (passes_none (is_since number (held_from number es)) es (λ e held.
    elim (nat_eq e.origin number) as (λ b. nat_eq e.origin number ≡ b → (b && nat_lt (held_from number es) e.n) ≡ false) [
      | true ↦ λ same.
          ap (λ (n : ℕ). nat_lt n e.n) (sym (length-log number es))
          ∙ within (log_of number es) e.n e.message (ap (λ (o : ℕ). message_at (log_of o es) e.n) (sym (eqb-true e.origin number same)) ∙ one_place es order e held)
      | false ↦ λ other. refl
    ] refl))

all_since : (number above n : ℕ) (messages : List Draft) → above < n → own_above number above (numbered number n messages) ≡ numbered number n messages
all_since number above n [] less = refl
all_since number above n (message ∷ messages) less =
    rw (same_number number, lt-ltb above n less)
    (ap (λ (es : List Placed). record { origin = number; n = n; message = message } ∷ es) (all_since number above (n + 1) messages (omega arith)))

lines_since : (number n : ℕ) (messages : List Draft) → flat_map (λ entry. line_of entry.message) (numbered number n messages) ≡ flat_map line_of messages
lines_since number n [] = refl
lines_since number n (message ∷ messages) = ap (λ (l : List ℕ). line_of message ++ l) (lines_since number (n + 1) messages)

abbrev IsEntryReadAgain : Placed → Type 0
IsEntryReadAgain entry = IsReadAgain entry.message

again_since : (number n : ℕ) (messages : List Draft) → All IsEntryReadAgain (numbered number n messages) → AllReadAgain messages
again_since number n [] again = tt
again_since number n (message ∷ messages) again =
    let first : Placed = record { origin = number; n = n; message = message } in
    let rest : List Placed = numbered number (n + 1) messages in
    (All-head IsEntryReadAgain first rest again, again_since number (n + 1) messages (All-tail IsEntryReadAgain first rest again))

lines_whole : (messages : List Draft) → IsOfWholeLines (flat_map line_of messages)
lines_whole [] = refl
lines_whole (message ∷ messages) = lines_join (line_of message) (flat_map line_of messages) (line_whole (written_text message)) (lines_whole messages)

number_taking : (messages : List Draft) (core : Core) → (core_taking core messages).number ≡ core.number
number_taking [] core = refl
number_taking (message ∷ messages) core = number_taking messages (core_taken core message)

module _ (core : Core) (journal : List ℕ) (messages : List Draft) (site : IsSite core) (before : IsJournalOf core journal)
    (again : All IsEntryReadAgain (own_above core.number (held_from core.number core.arrivals) (core_taking core messages).arrivals)) where
  abbrev number : ℕ
  number = core.number

  abbrev count : ℕ
  count = held_from number core.arrivals

  abbrev after : Core
  after = core_taking core messages

  abbrev text : List ℕ
  text = lines_above number count after.arrivals

  since : Grew core after
  since = grew messages core

  abbrev own_since : List Placed
  own_since = numbered number (count + 1) since.fresh

  entries_since : own_above number count after.arrivals ≡ own_since
  entries_since =
      ap (own_above number count) since.arrivals
      ∙ filter-append (is_since number count) core.arrivals own_since
      ∙ (λ i. none_before number core.arrivals site.order i ++ all_since number count (count + 1) since.fresh (omega arith) i)

  text_since : text ≡ flat_map line_of since.fresh
  text_since = ap (flat_map (λ entry. line_of entry.message)) entries_since ∙ lines_since number (count + 1) since.fresh

  read_since : messages_read text ≡ since.fresh
  read_since =
      ap messages_read text_since
      ∙ messages_again since.fresh (again_since number (count + 1) since.fresh (subst (λ (es : List Placed). All IsEntryReadAgain es) entries_since again))

  log_since : log_of number after.arrivals ≡ log_of number core.arrivals ++ since.fresh
  log_since =
      ap (log_of number) since.arrivals
      ∙ log-append number core.arrivals own_since
      ∙ ap (λ (l : List Draft). log_of number core.arrivals ++ l) (log_is number (count + 1) since.fresh own_since (from-numbered number (count + 1) since.fresh))

  log_grows : own_log (journal ++ text) ≡ log_of number after.arrivals
  unfolding own_log
  log_grows =
      ap each_once (messages_stay journal text before.whole ∙ ap (λ (l : List Draft). messages_read journal ++ l) read_since)
      ∙ fold-append with_message [] (messages_read journal) since.fresh
      ∙ ap (λ (l : List Draft). fold with_message l since.fresh) before.log
      ∙ since.once
      ∙ sym log_since

  pub journal_grows : IsJournalOf after (journal ++ text)
  journal_grows = record {
    whole = lines_join journal text before.whole (subst IsOfWholeLines (sym text_since) (lines_whole since.fresh));
    log = log_grows ∙ ap (λ (n : ℕ). log_of n after.arrivals) (sym (number_taking messages core));
  }

pub journals_grow : JournalsGrowWithTheirSites
journals_grow core journal messages site before again = journal_grows core journal messages site before again
