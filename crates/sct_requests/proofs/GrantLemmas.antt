-- What the site is given for requests. Proof plumbing.
use Rattle.std.proofs.Common.{nat_lt, length, ◌≡◌, ◌∙◌, ◌⊎◌, inl, inr, refl, ap, subst, sym, ℕ, Bool, true, false, not, ◌&&◌, cond, List, [], ◌∷◌, ◌++◌, arith}
use Rattle.std.specs.Prelude.{Option, None, Some, Result, Ok, Err, if◌then◌else◌, drop, position, zero, suc, ◌+◌, ⊤}
use Rattle.std.proofs.lemmas.Bool.{and_parts, false≢true, not-true}
use Rattle.std.proofs.lemmas.Bool.Decides.{nat_tests}
use Rattle.sct_message.specs.declared.draft.Draft.{Draft}
use Rattle.sct_json.specs.Reading.{message_in}
use Rattle.sct_json.specs.declared.faults.JsonFault.{JsonFault}
use Rattle.sct_json.specs.declared.faults.JsonFault.TheVariants.{NotJson}
use Rattle.sct_journal.specs.Kept.{AreLines, IsLine}
use Rattle.sct_delta.specs.TextLines.{is_space}
use Rattle.sct_requests.specs.declared.steps.Reply.{Reply}
use Rattle.sct_requests.specs.declared.steps.Reply.TheVariants as answer
use Rattle.sct_lines.specs.Lines.{is_blank}
use Rattle.sct_delta.specs.Entries.{messages_of}
use Rattle.sct_site.specs.Cores.{Core, core_taken, took_by}
use Rattle.sct_site.specs.declared.answers.Took.{Took}
use Rattle.sct_rights.specs.Rights.{verdict}
use Rattle.sct_rights.specs.declared.permission.Permission.{Permission}
use Rattle.sct_rights.specs.declared.permission.Permission.TheVariants as permission
use Rattle.sct_exchange.specs.Ways.{IsAmong}
use Rattle.sct_rights.specs.Listing.{banks_in}
use Rattle.sct_rights.specs.Sent.{is_allowed}
use Rattle.sct_requests.specs.Grants.{answer_as, answer_by_verdict, answer_to_request, answer_to_sender, answers_to_requests, as_parts, banks_text, brought_by, core_after_requests, core_requested, granted, granted_to, grants, is_as_line, is_permitted, is_plain, line_of_request, line_sent, parts_or_all}
use Rattle.sct_requests.specs.Laws.{RequestsAreInTheirName, IsSentInTheirName, RequestsAreGivenInOrder, WasSent}
use Rattle.sct_requests.specs.Words.{two_parts, two_parts_at}
use Rattle.sct_requests.specs.Steps.{answer_to, answer_to_message, brings, brought, core_after, core_given, core_with_message, is_delta_line, is_question_line}
use Rattle.sct_requests.proofs.StepLemmas.{after_brought, brings_nothing, brought_join, brought_lines}

-- ---- requests, one after another

pub grants_join : (xs ys : List (List ℕ)) (core : Core) → grants core (xs ++ ys) ≡ grants core xs ++ grants (core_after core (grants core xs)) ys
grants_join [] ys core = refl
grants_join (x ∷ xs) ys core = ap (λ (l : List (List ℕ)). granted core x ∷ l) (grants_join xs ys (core_given core (granted core x)))

pub brought_by_join : (xs ys : List (List ℕ)) (core : Core) → brought_by core (xs ++ ys) ≡ brought_by core xs ++ brought_by (core_after_requests core xs) ys
brought_by_join xs ys core =
    ap (brought core) (grants_join xs ys core) ∙ brought_join (grants core xs) (grants (core_after_requests core xs) ys) core

-- ---- a request in the name of banks

-- an empty line gives nothing
nothing_given : (core : Core) → core_given core [] ≡ core
unfolding core_given is_blank
nothing_given core = refl

not_longer : (n : ℕ) → nat_lt n n ≡ true → ⊥
not_longer n e = grind (arith, nat_tests)

nothing_brought : (core : Core) (line : List ℕ) → core_given core line ≡ core → brings core line ≡ true → ⊥
unfolding brings
nothing_brought core line same some = not_longer (length core.arrivals) (ap (λ (c : Core). nat_lt (length core.arrivals) (length c.arrivals)) (sym same) ∙ some)

granted_as : (core : Core) (request : List ℕ) → is_as_line request ≡ true → granted core request ≡ granted_to core (banks_in (banks_text request)) (line_sent request)
unfolding granted
granted_as core request as_line = rw as_line refl

plain_parts : (a b c d : Bool) → (not a && not b && not c && not d) ≡ true → (a ≡ false) × (b ≡ false) × (d ≡ false)
plain_parts true b c d e = absurd (false≢true e)
plain_parts false true c d e = absurd (false≢true e)
plain_parts false false true d e = absurd (false≢true e)
plain_parts false false false true e = absurd (false≢true e)
plain_parts false false false false e = (refl, refl, refl)

-- a line that is to be a message is given as one
plain_given : (core : Core) (line : List ℕ) → is_plain line ≡ true → core_given core line ≡ core_with_message core (message_in line)
unfolding core_given
plain_given core line plain =
    let each = plain_parts (is_delta_line line) (is_question_line line) (is_as_line line) (is_blank line) plain in
    rw (each.0, each.1, each.2) refl

module _ (core : Core) (request : List ℕ) (as_line : is_as_line request ≡ true) (some : brings core (granted core request) ≡ true) where
  abbrev its_line : List ℕ
  its_line = line_sent request

  not_empty : granted core request ≡ [] → ⊥
  not_empty e = nothing_brought core (granted core request) (ap (core_given core) e ∙ nothing_given core) some

  by_permission : (banks : List (List ℕ)) (message : Draft) → banks_in (banks_text request) ≡ Some banks → message_in its_line ≡ Ok message
      → granted core request ≡ its_line → is_plain its_line ≡ true → (p : Permission) → verdict banks (messages_of core.arrivals) message ≡ p → is_allowed p ≡ true
      → IsSentInTheirName core request
  by_permission banks message listed read given plain permission.Allowed may allowed = record {
    banks = banks;
    message = message;
    listed = listed;
    read = read;
    allowed = may;
    given = given;
    taken = ap (core_given core) given ∙ plain_given core its_line plain ∙ ap (core_with_message core) read;
  }
  by_permission banks message listed read given plain other may allowed = absurd (false≢true allowed)

  by_reading : (banks : List (List ℕ)) → banks_in (banks_text request) ≡ Some banks → granted core request ≡ its_line → is_plain its_line ≡ true
      → (read : Result Draft JsonFault) → message_in its_line ≡ read → is_permitted banks (messages_of core.arrivals) read ≡ true → IsSentInTheirName core request
  by_reading banks listed given plain (Ok message) read may =
      by_permission banks message listed read given plain (verdict banks (messages_of core.arrivals) message) refl may
  by_reading banks listed given plain (Err fault) read may = absurd (false≢true may)

  by_banks : (banks : Option (List (List ℕ))) → banks_in (banks_text request) ≡ banks → IsSentInTheirName core request
  by_banks None e = absurd (not_empty (granted_as core request as_line ∙ ap (λ (b : Option (List (List ℕ))). granted_to core b its_line) e))
  by_banks (Some banks) e =
      let is = granted_as core request as_line ∙ ap (λ (b : Option (List (List ℕ))). granted_to core b its_line) e in
      elim (is_plain its_line && is_permitted banks (messages_of core.arrivals) (message_in its_line))
      as (λ b. (is_plain its_line && is_permitted banks (messages_of core.arrivals) (message_in its_line)) ≡ b → granted core request ≡ cond b its_line [] → IsSentInTheirName core request) [
        | true ↦ λ may given. by_reading banks e given (and_parts _ _ may).0 (message_in its_line) refl (and_parts _ _ may).1
        | false ↦ λ may given. absurd (not_empty given)
      ] refl is

  pub in_their_name : IsSentInTheirName core request
  in_their_name = by_banks (banks_in (banks_text request)) refl

-- ---- each line that the journal has

sent_later : (core : Core) (request : List ℕ) (requests : List (List ℕ)) (line : List ℕ) → WasSent (core_requested core request) requests line → WasSent core (request ∷ requests) line
sent_later core request requests line was = record {
  before = request ∷ was.before;
  request = was.request;
  later = was.later;
  all = ap (λ (l : List (List ℕ)). request ∷ l) was.all;
  its = was.its;
  named = was.named;
}

sent_now : (core : Core) (request : List ℕ) (requests : List (List ℕ)) (line : List ℕ) → brings core (granted core request) ≡ true → line ≡ granted core request → WasSent core (request ∷ requests) line
sent_now core request requests line some is = record {
  before = [];
  request = request;
  later = requests;
  all = refl;
  its = is;
  named = λ told. in_their_name core request told some;
}

each_sent : (requests : List (List ℕ)) (core : Core) (line : List ℕ) → IsAmong (brought_by core requests) line → WasSent core requests line
each_sent [] core line among = absurd among
each_sent (request ∷ requests) core line among =
    (elim (brings core (granted core request)) as (λ b. brings core (granted core request) ≡ b
    → IsAmong (cond b (granted core request ∷ brought_by (core_requested core request) requests) (brought_by (core_requested core request) requests)) line
    → WasSent core (request ∷ requests) line) [
      | true ↦ λ some there. elim there [
        | inl is ↦ sent_now core request requests line some is
        | inr later ↦ sent_later core request requests line (each_sent requests (core_requested core request) line later)
      ]
      | false ↦ λ none later. sent_later core request requests line (each_sent requests (core_requested core request) line later)
    ]) refl among

pub send_in_their_name : RequestsAreInTheirName
send_in_their_name = record {
  allowed = in_their_name;
  others = λ core request as_line none. brings_nothing core (granted core request) none;
  each = λ core requests line among. each_sent requests core line among;
}

-- ---- laws of requests, one after another

answers_join : (xs ys : List (List ℕ)) (core : Core) → answers_to_requests core (xs ++ ys) ≡ answers_to_requests core xs ++ answers_to_requests (core_after core (grants core xs)) ys
answers_join [] ys core = refl
answers_join (x ∷ xs) ys core = ap (λ (l : List Reply). answer_to_request core x ∷ l) (answers_join xs ys (core_given core (granted core x)))

pub granted_plain : (core : Core) (request : List ℕ) → is_as_line request ≡ false → granted core request ≡ request
unfolding granted
granted_plain core request e = rw e refl

answered_plain : (core : Core) (request : List ℕ) → is_as_line request ≡ false → answer_to_request core request ≡ answer_to core request
unfolding answer_to_request
answered_plain core request e = rw e refl

-- what comes after a part of a line is a line
line_behind : (n : ℕ) (line : List ℕ) → IsLine line → IsLine (drop n line)
line_behind zero bytes is = is
line_behind (suc n) [] is = tt
line_behind (suc n) (byte ∷ bytes) is = line_behind n bytes is.1

sent_by_place : (words : List ℕ) → IsLine words → (place : Option ℕ) → IsLine (parts_or_all words (two_parts_at words place)).1
sent_by_place words is None = tt
sent_by_place words is (Some place) = line_behind (place + 1) words is

pub sent_is_line : (request : List ℕ) → IsLine request → IsLine (line_sent request)
sent_is_line request is = sent_by_place (drop 3 request) (line_behind 3 request is) (position is_space (drop 3 request))

to_is_line : (core : Core) (banks : Option (List (List ℕ))) (line : List ℕ) → IsLine line → IsLine (granted_to core banks line)
to_is_line core None sent is = tt
to_is_line core (Some banks) sent is =
    elim (is_plain sent && is_permitted banks (messages_of core.arrivals) (message_in sent)) as (λ b. IsLine (cond b sent [])) [ true ↦ is | false ↦ tt ]

granted_is_line : (core : Core) (request : List ℕ) → IsLine request → IsLine (granted core request)
unfolding granted
granted_is_line core request is =
    elim (is_as_line request) as (λ b. IsLine (cond b (granted_to core (banks_in (banks_text request)) (line_sent request)) request)) [
      | true ↦ to_is_line core (banks_in (banks_text request)) (line_sent request) (sent_is_line request is)
      | false ↦ is
    ]

grants_are_lines : (core : Core) (requests : List (List ℕ)) → AreLines requests → AreLines (grants core requests)
grants_are_lines core [] are = tt
grants_are_lines core (request ∷ requests) are =
    (granted_is_line core request are.0, grants_are_lines (core_given core (granted core request)) requests are.1)

-- ---- the line that the journal has of a request that brings an entry

pub granted_line : (core : Core) (request : List ℕ) → brings core (granted core request) ≡ true → granted core request ≡ line_of_request request
granted_line core request some =
    elim (is_as_line request) as (λ b. is_as_line request ≡ b → granted core request ≡ cond b (line_sent request) request) [
      | true ↦ λ told. (in_their_name core request told some).given
      | false ↦ λ told. granted_plain core request told
    ] refl

pub kept_alike : (core : Core) (request : List ℕ) → cond (brings core (granted core request)) (line_of_request request ∷ []) []
    ≡ cond (brings core (granted core request)) (granted core request ∷ []) []
kept_alike core request =
    elim (brings core (granted core request)) as (λ b. brings core (granted core request) ≡ b → cond b (line_of_request request ∷ []) [] ≡ cond b (granted core request ∷ []) []) [
      | true ↦ λ some. ap (λ (l : List ℕ). l ∷ []) (sym (granted_line core request some))
      | false ↦ λ none. refl
    ] refl

pub line_of_is_line : (request : List ℕ) → IsLine request → IsLine (line_of_request request)
line_of_is_line request is = elim (is_as_line request) as (λ b. IsLine (cond b (line_sent request) request)) [ true ↦ sent_is_line request is | false ↦ is ]

-- ---- a line in the name of banks is given

pub given_for_none : (core : Core) (banks : Option (List (List ℕ))) (line : List ℕ) → banks ≡ None → core_given core (granted_to core banks line) ≡ core
given_for_none core banks line none = ap (λ (b : Option (List (List ℕ))). core_given core (granted_to core b line)) none ∙ nothing_given core

pub given_unless_plain : (core : Core) (banks : List (List ℕ)) (line : List ℕ) → is_plain line ≡ false → core_given core (granted_to core (Some banks) line) ≡ core
given_unless_plain core banks line plain =
    ap (λ (b : Bool). core_given core (cond (b && is_permitted banks (messages_of core.arrivals) (message_in line)) line [])) plain ∙ nothing_given core

module _ (core : Core) (banks : List (List ℕ)) (line : List ℕ) (plain : is_plain line ≡ true) where
  by_permit : (b : Bool) → is_permitted banks (messages_of core.arrivals) (message_in line) ≡ b → granted_to core (Some banks) line ≡ cond b line []
  by_permit b permit = λ i. cond (plain i && permit i) line []

  not_given : is_permitted banks (messages_of core.arrivals) (message_in line) ≡ false → core_given core (granted_to core (Some banks) line) ≡ core
  not_given permit = ap (core_given core) (by_permit false permit) ∙ nothing_given core

  pub given_allowed : (m : Draft) → message_in line ≡ Ok m → verdict banks (messages_of core.arrivals) m ≡ permission.Allowed
      → core_given core (granted_to core (Some banks) line) ≡ core_taken core m
  given_allowed m read allowed =
      ap (core_given core) (by_permit true (ap (is_permitted banks (messages_of core.arrivals)) read ∙ ap is_allowed allowed))
      ∙ plain_given core line plain
      ∙ ap (core_with_message core) read

  pub given_unread : (f : JsonFault) → message_in line ≡ Err f → core_given core (granted_to core (Some banks) line) ≡ core
  given_unread f read = not_given (ap (is_permitted banks (messages_of core.arrivals)) read)

  not_allowed : (p : Permission) → (p ≡ permission.Allowed → ⊥) → is_allowed p ≡ false
  not_allowed permission.Allowed withheld = absurd (withheld refl)
  not_allowed other withheld = refl

  pub given_withheld : (m : Draft) (p : Permission) → message_in line ≡ Ok m → verdict banks (messages_of core.arrivals) m ≡ p → (p ≡ permission.Allowed → ⊥)
      → core_given core (granted_to core (Some banks) line) ≡ core
  given_withheld m p read judged withheld = not_given (ap (is_permitted banks (messages_of core.arrivals)) read ∙ ap is_allowed judged ∙ not_allowed p withheld)

-- ---- and answered

pub answered_allowed : (core : Core) (banks : List (List ℕ)) (line : List ℕ) (m : Draft) (took : Took) → message_in line ≡ Ok m
    → verdict banks (messages_of core.arrivals) m ≡ permission.Allowed → took ≡ took_by core m
    → answer.Took took ≡ answer_to_sender core banks (message_in line)
answered_allowed core banks line m took read allowed is =
    ap answer.Took is
    ∙ ap (λ (p : Permission). answer_by_verdict p (took_by core m)) (sym allowed)
    ∙ ap (answer_to_sender core banks) (sym read)

withheld_told : (p : Permission) (took : Took) → (p ≡ permission.Allowed → ⊥) → answer.Withheld p ≡ answer_by_verdict p took
withheld_told permission.Allowed took withheld = absurd (withheld refl)
withheld_told other took withheld = refl

pub answered_withheld : (core : Core) (banks : List (List ℕ)) (line : List ℕ) (m : Draft) (p : Permission) → message_in line ≡ Ok m
    → verdict banks (messages_of core.arrivals) m ≡ p → (p ≡ permission.Allowed → ⊥)
    → answer.Withheld p ≡ answer_to_sender core banks (message_in line)
answered_withheld core banks line m p read judged withheld =
    withheld_told p (took_by core m) withheld
    ∙ ap (λ (q : Permission). answer_by_verdict q (took_by core m)) (sym judged)
    ∙ ap (answer_to_sender core banks) (sym read)

-- ---- a request is answered as its line is, or nothing is taken of it

-- the reply says that nothing was taken, for a reason of the request's
abbrev pub IsUntaken : Reply → Type 0
IsUntaken answer.WrongBanks = ⊤
IsUntaken (answer.Unread fault) = ⊤
IsUntaken (answer.Withheld reason) = ⊤
IsUntaken other = ⊥

abbrev pub IsAnsweredSo : Core → List ℕ → Type 0
IsAnsweredSo core request =
    (answer_to_request core request ≡ answer_to core (granted core request)) ⊎ ((granted core request ≡ []) × IsUntaken (answer_to_request core request))

answered_as : (core : Core) (request : List ℕ) → is_as_line request ≡ true → answer_to_request core request ≡ answer_as core (banks_in (banks_text request)) (line_sent request)
unfolding answer_to_request
answered_as core request as_line = rw as_line refl

plain_answered : (core : Core) (line : List ℕ) → is_plain line ≡ true → answer_to core line ≡ answer_to_message core (message_in line)
unfolding answer_to
plain_answered core line plain =
    let each = plain_parts (is_delta_line line) (is_question_line line) (is_as_line line) (is_blank line) plain in
    rw (each.0, each.1, each.2) refl

module _ (core : Core) (request : List ℕ) (as_line : is_as_line request ≡ true) where
  abbrev sent : List ℕ
  sent = line_sent request

  untaken : (reply : Reply) → granted core request ≡ [] → answer_to_request core request ≡ reply → IsUntaken reply → IsAnsweredSo core request
  untaken reply none is said = inr (none, subst IsUntaken (sym is) said)

  module _ (banks : List (List ℕ)) (listed : banks_in (banks_text request) ≡ Some banks) where
    granted_some : granted core request ≡ granted_to core (Some banks) sent
    granted_some = granted_as core request as_line ∙ ap (λ (b : Option (List (List ℕ))). granted_to core b sent) listed

    answered_some : answer_to_request core request ≡ answer_as core (Some banks) sent
    answered_some = answered_as core request as_line ∙ ap (λ (b : Option (List (List ℕ))). answer_as core b sent) listed

    how_unless_plain : is_plain sent ≡ false → IsAnsweredSo core request
    how_unless_plain plain =
        untaken (answer.Unread NotJson)
        (granted_some ∙ ap (λ (b : Bool). cond (b && is_permitted banks (messages_of core.arrivals) (message_in sent)) sent []) plain)
        (answered_some ∙ ap (λ (b : Bool). cond b (answer_to_sender core banks (message_in sent)) (answer.Unread NotJson)) plain) tt

    module _ (plain : is_plain sent ≡ true) where
      answered_plainly : answer_to_request core request ≡ answer_to_sender core banks (message_in sent)
      answered_plainly = answered_some ∙ ap (λ (b : Bool). cond b (answer_to_sender core banks (message_in sent)) (answer.Unread NotJson)) plain

      not_permitted : is_permitted banks (messages_of core.arrivals) (message_in sent) ≡ false → granted core request ≡ []
      not_permitted permit = granted_some ∙ by_permit core banks sent plain false permit

      how_withheld : (m : Draft) (p : Permission) → message_in sent ≡ Ok m → verdict banks (messages_of core.arrivals) m ≡ p → is_allowed p ≡ false
          → answer_by_verdict p (took_by core m) ≡ answer.Withheld p → IsAnsweredSo core request
      how_withheld m p read judged kept told =
          untaken (answer.Withheld p)
          (not_permitted (ap (is_permitted banks (messages_of core.arrivals)) read ∙ ap is_allowed judged ∙ kept))
          (answered_plainly ∙ ap (answer_to_sender core banks) read ∙ ap (λ (q : Permission). answer_by_verdict q (took_by core m)) judged ∙ told) tt

      how_judged : (m : Draft) → message_in sent ≡ Ok m → (p : Permission) → verdict banks (messages_of core.arrivals) m ≡ p → IsAnsweredSo core request
      how_judged m read permission.Allowed judged =
          inl (
          sym (answered_allowed core banks sent m (took_by core m) read judged refl ∙ sym answered_plainly)
          ∙ sym (plain_answered core sent plain ∙ ap (answer_to_message core) read)
          ∙ ap (answer_to core) (sym (granted_some ∙ by_permit core banks sent plain true (ap (is_permitted banks (messages_of core.arrivals)) read ∙ ap is_allowed judged)))
          )
      how_judged m read permission.NotSender judged = how_withheld m permission.NotSender read judged refl refl
      how_judged m read (permission.NotOriginator place) judged = how_withheld m (permission.NotOriginator place) read judged refl refl
      how_judged m read permission.NotBeneficiary judged = how_withheld m permission.NotBeneficiary read judged refl refl
      how_judged m read (permission.Waits transfer) judged = how_withheld m (permission.Waits transfer) read judged refl refl

      how_read : (read : Result Draft JsonFault) → message_in sent ≡ read → IsAnsweredSo core request
      how_read (Ok m) read = how_judged m read (verdict banks (messages_of core.arrivals) m) refl
      how_read (Err fault) read =
          untaken (answer.Unread fault)
          (not_permitted (ap (is_permitted banks (messages_of core.arrivals)) read))
          (answered_plainly ∙ ap (answer_to_sender core banks) read) tt

    how_some : (b : Bool) → is_plain sent ≡ b → IsAnsweredSo core request
    how_some false plain = how_unless_plain plain
    how_some true plain = how_read plain (message_in sent) refl

  how_listed : (banks : Option (List (List ℕ))) → banks_in (banks_text request) ≡ banks → IsAnsweredSo core request
  how_listed None none =
      untaken answer.WrongBanks
      (granted_as core request as_line ∙ ap (λ (b : Option (List (List ℕ))). granted_to core b sent) none)
      (answered_as core request as_line ∙ ap (λ (b : Option (List (List ℕ))). answer_as core b sent) none) tt
  how_listed (Some banks) listed = how_some banks listed (is_plain sent) refl

pub answered_so : (core : Core) (request : List ℕ) → IsAnsweredSo core request
answered_so core request =
    elim (is_as_line request) as (λ b. is_as_line request ≡ b → IsAnsweredSo core request) [
      | true ↦ λ told. how_listed core request told (banks_in (banks_text request)) refl
      | false ↦ λ told. inl (answered_plain core request told ∙ ap (answer_to core) (sym (granted_plain core request told)))
    ] refl

untaken_took : (reply : Reply) (took : Took) → reply ≡ answer.Took took → IsUntaken reply → ⊥
untaken_took reply took is said = subst IsUntaken is said

took_so : (core : Core) (request : List ℕ) (took : Took) → answer_to_request core request ≡ answer.Took took → answer_to core (granted core request) ≡ answer.Took took
took_so core request took told = elim (answered_so core request) [
  | inl same ↦ sym same ∙ told
  | inr left ↦ absurd (untaken_took (answer_to_request core request) took told left.1)
]

pub given_in_order : RequestsAreGivenInOrder
given_in_order = record {
  plain = granted_plain;
  alike = answered_plain;
  took = took_so;
  given = λ core first later. grants_join first later core;
  answers = λ core first later. answers_join first later core;
  lines = λ core requests are. brought_lines (grants core requests) core (grants_are_lines core requests are);
  kept = λ core requests. after_brought (grants core requests) core;
}
