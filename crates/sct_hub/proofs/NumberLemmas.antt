-- The number of a message is its place in the own log. Proof plumbing.
use Rattle.std.proofs.Common.{◌≡◌, ◌∙◌, inl, inr, refl, ap, sym, ℕ, ◌-◌, Bool, cond, List, [], ◌∷◌, ◌++◌, length, arith, append_assoc, Some}
use Rattle.std.specs.Prelude.{Ok}
use Rattle.std.specs.List.{slice_get}
use Rattle.std.proofs.lemmas.Bool.{false≢true}
use Rattle.sct_message.specs.declared.draft.Draft.{Draft}
use Rattle.sct_json.specs.Reading.{message_in}
use Rattle.sct_delta.specs.Entries.{log_of}
use Rattle.sct_site.specs.Cores.{Core, next_own, took_by}
use Rattle.sct_site.specs.declared.answers.Took.TheVariants as took
use Rattle.sct_site.proofs.ArrivalLemmas.{length-log}
use Rattle.sct_exchange.specs.Journals.{Begins, opened, own_log}
use Rattle.sct_exchange.proofs.JournalLemmas.{log_longer}
use Rattle.sct_journal.specs.Kept.{AreLines}
use Rattle.sct_hub.specs.Hubs.{own_journal}
use Rattle.sct_hub.specs.Laws.{NumbersAreKept}
use Rattle.sct_requests.specs.Steps.{AreKept, answer_to, core_after, core_given, core_kept}
use Rattle.sct_requests.specs.declared.steps.Reply.TheVariants as answer
use Rattle.sct_requests.proofs.BringLemmas.{Takes, brings_how}
use Rattle.sct_hub.proofs.OwnLogLemmas.{log_taken, own_join, own_log_is, own_whole}
use Rattle.sct_requests.proofs.StepLemmas.{after_join}

-- the message behind a list
place_behind : (log rest : List Draft) (message : Draft) → slice_get ((log ++ message ∷ []) ++ rest) (length log) ≡ Some message
place_behind [] rest message = refl
place_behind (m ∷ log) rest message = place_behind log rest message

kept_parts : (xs ys : List (List ℕ)) (core : Core) → AreKept core (xs ++ ys) → AreKept (core_after core xs) ys
kept_parts [] ys core some = some
kept_parts (x ∷ xs) ys core some = kept_parts xs ys (core_given core x) some.1

-- the answer to a message that is new
taken_number : (core : Core) (line : List ℕ) (how : Takes core line) → answer_to core line ≡ answer.Took (took.Taken (next_own core))
unfolding answer_to took_by
taken_number core line how = rw (how.plain, how.unasked, how.written, how.read) (ap (λ (b : Bool). answer.Took (cond b took.Repeat (took.Taken (next_own core)))) how.new)

same_number : (m n : ℕ) → answer.Took (took.Taken m) ≡ answer.Took (took.Taken n) → m ≡ n
same_number m n same = cc

same_message : (one other : Draft) (line : List ℕ) → message_in line ≡ Ok one → message_in line ≡ Ok other → one ≡ other
same_message one other line first second = let both : Ok one ≡ Ok other = sym first ∙ second in cc

module _ (site sites : ℕ) (lines more : List (List ℕ)) (line : List ℕ) (message : Draft) (n : ℕ)
    (are : AreLines (lines ++ line ∷ [])) (some : AreKept (opened site sites) (lines ++ line ∷ [])) (told : answer_to (core_kept site sites lines) line ≡ answer.Took (took.Taken n)) where
  abbrev core : Core
  core = core_kept site sites lines

  abbrev log : List Draft
  log = log_of core.number core.arrivals

  at_its_place : Takes core line → message_in line ≡ Ok message → slice_get (own_log (own_journal (lines ++ line ∷ more))) (n - 1) ≡ Some message
  at_its_place how read =
      let is : how.message ≡ message = same_message how.message message line how.read read in
      let number : next_own core ≡ n = same_number (next_own core) n (sym (taken_number core line how) ∙ told) in
      let place : n - 1 ≡ length log = omega (arith, number, length-log core.number core.arrivals) in
      let whole : own_log (own_journal (lines ++ line ∷ [])) ≡ log ++ how.message ∷ [] =
      sym (own_log_is site sites (lines ++ line ∷ []) are some)
      ∙ ap (λ (c : Core). log_of c.number c.arrivals) (after_join lines (line ∷ []) (opened site sites) ∙ how.is)
      ∙ log_taken core how.message in
      let longer : Begins (own_log (own_journal (lines ++ line ∷ []))) (own_log (own_journal (lines ++ line ∷ []) ++ own_journal more)) =
      log_longer (own_journal (lines ++ line ∷ [])) (own_journal more) (own_whole (lines ++ line ∷ [])) in
      let journal : own_journal (lines ++ line ∷ more) ≡ own_journal (lines ++ line ∷ []) ++ own_journal more =
      ap own_journal (sym (append_assoc lines (line ∷ []) more)) ∙ own_join (lines ++ line ∷ []) more in
      ap (λ (l : List Draft). slice_get l (n - 1)) (ap own_log journal ∙ longer.is ∙ ap (λ (l : List Draft). l ++ longer.rest) whole)
      ∙ ap (slice_get ((log ++ how.message ∷ []) ++ longer.rest)) place
      ∙ place_behind log longer.rest how.message
      ∙ ap (λ (m : Draft). Some m) is

pub numbers_kept : NumbersAreKept
numbers_kept site sites lines more line message n are some plain read told =
    elim (brings_how (core_kept site sites lines) line (kept_parts lines (line ∷ []) (opened site sites) some).0) as (λ c. slice_get (own_log (own_journal (lines ++ line ∷ more))) (n - 1) ≡ Some message) [
      | inl how ↦ at_its_place site sites lines more line message n are some told how read
      | inr how ↦ absurd (false≢true (sym plain ∙ how.told))
    ]
