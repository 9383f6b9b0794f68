-- A question line brings a site nothing. Proof plumbing.
use Rattle.std.proofs.Common.{◌≡◌, ◌∙◌, refl, ap, sym, subst, ℕ, Bool, true, false, cond, ◌&&◌, List, [], ◌∷◌, ◌++◌, drop, length, nat_lt, arith}
use Rattle.std.specs.Prelude.{Option, nat_eq}
use Rattle.std.proofs.lemmas.List.{append-nil}
use Rattle.std.proofs.lemmas.Bool.{false≢true}
use Rattle.std.proofs.lemmas.Bool.Decides.{nat_tests}
use Rattle.sct_streams.specs.Stream.{AppendsIfTold, AppendsPrefixIfTold}
use Rattle.sct_site.specs.Cores.{Core}
use Rattle.sct_journal.specs.Kept.{recorded}
use Rattle.sct_requests.specs.Questions.{answer_asked, watched_after}
use Rattle.sct_requests.specs.WatchedSites.{WatchedSite}
use Rattle.sct_requests.specs.Grants.{brought_by, core_requested, granted, is_as_line}
use Rattle.sct_requests.specs.Steps.{brings, core_given, is_delta_line, is_question_line}
use Rattle.sct_requests.proofs.GrantLemmas.{granted_plain}
use Rattle.sct_serve.specs.Replies.{question_reply, replies_to, reply_to}
use Rattle.sct_serve.specs.Serving.{Leaves, Replied}
use Rattle.sct_serve.proofs.LeaveLemmas.{leaves_all, leaves_told}
use Rattle.sct_serve.proofs.ReplyLemmas.{question_reply_is, question_site}

-- a question line begins with another byte than a delta line
begins : (line : List ℕ) → is_question_line line ≡ true → is_delta_line line ≡ false
begins [] told = absurd (false≢true told)
begins (byte ∷ bytes) told =
    (elim (nat_eq byte 63) as (λ b. nat_eq byte 63 ≡ b → is_delta_line (byte ∷ bytes) ≡ false) [
      | true ↦ λ is. let same : byte ≡ 63 = grind (arith, nat_tests) in ap (λ (b : ℕ). is_delta_line (b ∷ bytes)) same
      | false ↦ λ other. absurd (false≢true (ap (λ (b : Bool). b && rest) (sym other) ∙ told))
    ]) refl
  where
    rest : Bool
    rest = is_question_line (63 ∷ bytes)

-- and it is no request in the name of banks
is_no_as : (line : List ℕ) → is_question_line line ≡ true → is_as_line line ≡ false
is_no_as [] told = absurd (false≢true told)
is_no_as (byte ∷ bytes) told =
    (elim (nat_eq byte 63) as (λ b. nat_eq byte 63 ≡ b → is_as_line (byte ∷ bytes) ≡ false) [
      | true ↦ λ is. let same : byte ≡ 63 = grind (arith, nat_tests) in ap (λ (b : ℕ). is_as_line (b ∷ bytes)) same
      | false ↦ λ other. absurd (false≢true (ap (λ (b : Bool). b && rest) (sym other) ∙ told))
    ]) refl
  where
    rest : Bool
    rest = is_question_line (63 ∷ bytes)

given_itself : (core : Core) (line : List ℕ) → is_question_line line ≡ true → core_given core line ≡ core
unfolding core_given
given_itself core line told = rw (begins line told, told) refl

given_question : (core : Core) (line : List ℕ) → is_question_line line ≡ true → core_requested core line ≡ core
given_question core line told = ap (core_given core) (granted_plain core line (is_no_as line told)) ∙ given_itself core line told

not_longer : (n : ℕ) → nat_lt n n ≡ false
not_longer n = grind (arith, nat_tests)

brings_nothing : (core : Core) (line : List ℕ) → is_question_line line ≡ true → brings core (granted core line) ≡ false
unfolding brings
brings_nothing core line told = ap (λ (c : Core). nat_lt (length core.arrivals) (length c.arrivals)) (given_question core line told) ∙ not_longer (length core.arrivals)

pub question_brings : (core : Core) (line : List ℕ) → is_question_line line ≡ true → brought_by core (line ∷ []) ≡ []
question_brings core line told = ap (λ (b : Bool). cond b (granted core line ∷ []) []) (brings_nothing core line told)

pub question_reply_all : (s : WatchedSite) (line : List ℕ) → is_question_line line ≡ true → replies_to s (line ∷ []) ≡ question_reply (answer_asked s (drop 2 line))
question_reply_all s line told = append-nil (reply_to s line) ∙ question_reply_is s line told

behind : (s : WatchedSite) (before : List (List ℕ)) (line : List ℕ) → is_question_line line ≡ true → before ++ brought_by s.core (line ∷ []) ≡ before
behind s before line told = ap (λ (l : List (List ℕ)). before ++ l) (question_brings s.core line told) ∙ append-nil before

pub question_left : (s : WatchedSite) (before : List (List ℕ)) (line : List ℕ) (held now : Option (List ℕ)) (c : List ℕ) → is_question_line line ≡ true → recorded c ≡ before
    → AppendsPrefixIfTold held now (question_reply (answer_asked s (drop 2 line))) → Leaves s before held now (line ∷ []) c
question_left s before line held now c told same part =
    leaves_told s before (line ∷ []) held now c (same ∙ sym (behind s before line told)) (subst (λ (l : List ℕ). AppendsPrefixIfTold held now l) (sym (question_reply_all s line told)) part)

pub question_told : (s : WatchedSite) (before : List (List ℕ)) (line : List ℕ) (held now : Option (List ℕ)) (c : List ℕ) → is_question_line line ≡ true → recorded c ≡ before
    → AppendsIfTold held now (question_reply (answer_asked s (drop 2 line))) → Leaves s before held now (line ∷ []) c
question_told s before line held now c told same whole =
    leaves_all s before (line ∷ []) held now c (same ∙ sym (behind s before line told)) (subst (λ (l : List ℕ). AppendsIfTold held now l) (sym (question_reply_all s line told)) whole)

pub question_answered : (s m : WatchedSite) (sound : Type 0) (before after : List (List ℕ)) (held now : Option (List ℕ)) (line question : List ℕ) → is_question_line line ≡ true → question ≡ drop 2 line
    → m.core ≡ s.core → m.watched ≡ watched_after s question → after ≡ before → AppendsIfTold held now (question_reply (answer_asked s question)) → Replied s m sound before after held now (line ∷ [])
question_answered s m sound before after held now line question told is core watched same written = record {
  ends =
      (λ i. watched_site_by (core i) (watched i))
      ∙ (λ i. watched_site_by (sym (given_question s.core line told) i) (watched_after s (is i)))
      ∙ sym (question_site s line told);
  replied =
      subst (λ (l : List ℕ). AppendsIfTold held now l) (ap (λ (l : List ℕ). question_reply (answer_asked s l)) is ∙ sym (question_reply_all s line told)) written;
  keeps = λ _. same ∙ sym (behind s before line told);
}
  where
    watched_site_by : Core → Option ℕ → WatchedSite
    watched_site_by c w = record { core = c; watched = w }
