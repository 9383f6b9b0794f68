-- The own log of a keeper's site is that of its own journal. Proof plumbing.
use Rattle.std.proofs.Common.{◌≡◌, ◌≢◌, ◌∙◌, inl, inr, refl, ap, sym, ℕ, Bool, true, false, cond, ◌||◌, ◌==◌, List, [], ◌∷◌, ◌++◌, map, filter, append_assoc, arith, nat_eq}
use Rattle.std.specs.Prelude.{Ok}
use Rattle.std.specs.List.{list_any}
use Rattle.std.proofs.lemmas.Bool.Decides.{nat_tests}
use Rattle.std.proofs.lemmas.List.{append-nil}
use Rattle.std.proofs.lemmas.List.Sums.{fold-append}
use Rattle.sct_message.specs.declared.draft.Draft.{Draft}
use Rattle.sct_message.specs.Order.{same_message}
use Rattle.sct_set.proofs.ContentsLemmas.{contains-contents_of}
use Rattle.sct_json.specs.Reading.{message_in}
use Rattle.sct_lines.specs.LineLaws.{IsOfWholeLines}
use Rattle.sct_lines.specs.Lines.{is_blank, lines_of, messages_among, messages_read, numbered_from}
use Rattle.sct_lines.proofs.LineLemmas.{message_line, written_line}
use Rattle.sct_lines.proofs.PartLemmas.{lines_join, messages_stay}
use Rattle.sct_delta.specs.Entries.{Placed, log_of}
use Rattle.sct_delta.proofs.EntryLemmas.{same_number}
use Rattle.sct_site.specs.Cores.{Core, is_repeat, own_entry}
use Rattle.sct_site.proofs.TakeLemmas.{log-push}
use Rattle.sct_exchange.specs.Journals.{each_once, own_log, with_message}
use Rattle.sct_exchange.proofs.OwnLemmas.{own_kept}
use Rattle.sct_exchange.proofs.WayLemmas.{delta_shape}
use Rattle.sct_journal.specs.Kept.{AreLines, IsLine}
use Rattle.sct_hub.specs.Hubs.{own_journal}
use Rattle.sct_requests.specs.Steps.{AreKept, core_after, core_given, is_delta_line, text_in}
use Rattle.sct_requests.proofs.BringLemmas.{Joins, Takes, brings_how}

-- ---- whole lines

pub line_whole : (line : List ℕ) → IsOfWholeLines (line ++ 10 ∷ [])
line_whole [] = refl
line_whole (byte ∷ []) = refl
line_whole (byte ∷ next ∷ bytes) = ap (λ (l : List ℕ). byte ∷ l) (line_whole (next ∷ bytes))

pub own_whole : (lines : List (List ℕ)) → IsOfWholeLines (own_journal lines)
own_whole [] = refl
own_whole (line ∷ lines) = elim (is_delta_line line) as (λ b. IsOfWholeLines (cond b (own_journal lines) ((line ++ 10 ∷ []) ++ own_journal lines))) [
  | true ↦ own_whole lines
  | false ↦ lines_join (line ++ 10 ∷ []) (own_journal lines) (line_whole line) (own_whole lines)
]

pub own_join : (lines more : List (List ℕ)) → own_journal (lines ++ more) ≡ own_journal lines ++ own_journal more
own_join [] more = refl
own_join (line ∷ lines) more = elim (is_delta_line line) as (λ b. cond b (own_journal (lines ++ more)) ((line ++ 10 ∷ []) ++ own_journal (lines ++ more)) ≡ cond b (own_journal lines) ((line ++ 10 ∷ []) ++ own_journal lines) ++ own_journal more) [
  | true ↦ own_join lines more
  | false ↦ ap (λ (l : List ℕ). (line ++ 10 ∷ []) ++ l) (own_join lines more) ∙ sym (append_assoc (line ++ 10 ∷ []) (own_journal lines) (own_journal more))
]

-- ---- a line is read as its message

one_line : (line : List ℕ) → IsLine line → lines_of (line ++ 10 ∷ []) ≡ line ∷ []
unfolding lines_of
one_line [] is = refl
one_line (byte ∷ line) is = let other : (byte == 10) ≡ false = let differs : byte ≢ 10 = is.0 in grind (arith, nat_tests) in rw (other, one_line line is.1) refl

pub read_line_is : (line : List ℕ) (message : Draft) → IsLine line → is_blank line ≡ false → message_in line ≡ Ok message → messages_read (line ++ 10 ∷ []) ≡ message ∷ []
read_line_is line message is written read =
    ap (λ (l : List (List ℕ)). messages_among (numbered_from 1 l)) (one_line line is) ∙ ap messages_among (written_line 1 line written) ∙ message_line 1 line message read

-- ---- a new message is not in the own log

or_parts : (a b : Bool) → (a || b) ≡ false → (a ≡ false) × (b ≡ false)
or_parts true b e = cc
or_parts false b e = (refl, e)

or_from : (a b : Bool) → a ≡ false → b ≡ false → (a || b) ≡ false
or_from a b e f = rw (e, f) refl

none_in_part : (t : Draft → Bool) (p : Placed → Bool) (es : List Placed) → list_any t (map (λ entry. entry.message) es) ≡ false → list_any t (map (λ entry. entry.message) (filter p es)) ≡ false
none_in_part t p [] none = refl
none_in_part t p (e ∷ es) none =
    let parts = or_parts (t e.message) (list_any t (map (λ entry. entry.message) es)) none in
    elim (p e) as (λ b. list_any t (map (λ entry. entry.message) (cond b (e ∷ filter p es) (filter p es))) ≡ false) [
      | true ↦ or_from (t e.message) _ parts.0 (none_in_part t p es parts.1)
      | false ↦ none_in_part t p es parts.1
    ]

pub not_in_log : (core : Core) (message : Draft) → is_repeat core message ≡ false → list_any (λ held. same_message held message) (log_of core.number core.arrivals) ≡ false
not_in_log core message new =
    none_in_part (λ held. same_message held message) (λ e. nat_eq e.origin core.number) core.arrivals
    (sym (contains-contents_of (map (λ entry. entry.message) core.arrivals) message) ∙ new)

pub log_taken : (core : Core) (message : Draft) → log_of core.number (core.arrivals ++ own_entry core message ∷ []) ≡ log_of core.number core.arrivals ++ message ∷ []
log_taken core message =
    sym (log-push core.number core.arrivals (own_entry core message))
    ∙ ap (λ (b : Bool). cond b (log_of core.number core.arrivals ++ message ∷ []) (log_of core.number core.arrivals)) (same_number core.number)

once_more : (ms : List Draft) (message : Draft) (log : List Draft) → log ≡ each_once ms → list_any (λ held. same_message held message) log ≡ false → log ++ message ∷ [] ≡ each_once (ms ++ message ∷ [])
once_more ms message log is none =
    sym (ap (λ (b : Bool). cond b log (log ++ message ∷ [])) none)
    ∙ ap (λ (l : List Draft). with_message l message) is
    ∙ sym (fold-append with_message [] ms (message ∷ []))

none_read : messages_read [] ≡ []
unfolding messages_among numbered_from lines_of
none_read = refl

-- ---- along the lines

abbrev LogIs : Core → List Draft → Type 0
LogIs core ms = log_of core.number core.arrivals ≡ each_once ms

log_given : (core : Core) (line : List ℕ) (ms : List Draft) → IsLine line → LogIs core ms → (how : Takes core line) → LogIs (core_given core line) (ms ++ messages_read (line ++ 10 ∷ []))
log_given core line ms is log how =
    ap (λ (c : Core). log_of c.number c.arrivals) how.is
    ∙ log_taken core how.message
    ∙ once_more ms how.message (log_of core.number core.arrivals) log (not_in_log core how.message how.new)
    ∙ ap (λ (l : List Draft). each_once (ms ++ l)) (sym (read_line_is line how.message is how.written how.read))

log_joined : (core : Core) (line : List ℕ) (ms : List Draft) → LogIs core ms → Joins core line → LogIs (core_given core line) ms
log_joined core line ms log how =
    ap (λ (c : Core). log_of c.number c.arrivals) how.is ∙ own_kept core how.delta (delta_shape (text_in line) how.delta how.read) how.fits ∙ log

log_along : (lines : List (List ℕ)) (core : Core) (ms : List Draft) → AreLines lines → AreKept core lines → LogIs core ms → LogIs (core_after core lines) (ms ++ messages_read (own_journal lines))
log_along [] core ms are brought log = log ∙ ap each_once (sym (append-nil ms) ∙ ap (λ (l : List Draft). ms ++ l) (sym none_read))
log_along (line ∷ lines) core ms are brought log = elim (brings_how core line brought.0) [
  | inl how ↦
      log_along lines (core_given core line) (ms ++ messages_read (line ++ 10 ∷ [])) are.1 brought.1 (log_given core line ms are.0 log how)
      ∙ ap each_once (append_assoc ms (messages_read (line ++ 10 ∷ [])) (messages_read (own_journal lines))
      ∙ ap (λ (l : List Draft). ms ++ l) (sym (messages_stay (line ++ 10 ∷ []) (own_journal lines) (line_whole line)))
      ∙ ap (λ (b : Bool). ms ++ messages_read (cond b (own_journal lines) ((line ++ 10 ∷ []) ++ own_journal lines))) (sym how.plain))
  | inr how ↦
      log_along lines (core_given core line) ms are.1 brought.1 (log_joined core line ms log how)
      ∙ ap (λ (b : Bool). each_once (ms ++ messages_read (cond b (own_journal lines) ((line ++ 10 ∷ []) ++ own_journal lines)))) (sym how.told)
]

-- the own log of the site that kept lines make
pub own_log_is : (number group : ℕ) (lines : List (List ℕ)) → AreLines lines → AreKept (record { number = number; group = group; arrivals = [] }) lines
    → log_of (core_after (record { number = number; group = group; arrivals = [] }) lines).number (core_after (record { number = number; group = group; arrivals = [] }) lines).arrivals ≡ own_log (own_journal lines)
unfolding own_log
own_log_is number group lines are brought = log_along lines (record { number = number; group = group; arrivals = [] }) [] are brought refl
