-- A line that brings an entry: a message that is new, or a delta that the site accepts. Proof plumbing.
use Rattle.std.proofs.Common.{◌≡◌, ◌∙◌, inl, inr, ◌⊎◌, refl, ap, sym, ℕ, Bool, true, false, cond, List, [], ◌∷◌, ◌++◌, length, arith, nat_lt}
use Rattle.std.specs.Prelude.{Option, None, Some, Result, Ok, Err}
use Rattle.std.specs.Option.{is_none}
use Rattle.std.proofs.lemmas.Bool.Decides.{nat_tests}
use Rattle.sct_message.specs.declared.draft.Draft.{Draft}
use Rattle.sct_json.specs.Reading.{message_in}
use Rattle.sct_json.specs.declared.faults.JsonFault.{JsonFault}
use Rattle.sct_lines.specs.Lines.{is_blank}
use Rattle.sct_delta.specs.DeltaText.{delta_in}
use Rattle.sct_delta.specs.Entries.{Placed}
use Rattle.sct_delta.specs.declared.fault.DeltaFault.{DeltaFault}
use Rattle.sct_site.specs.Cores.{Core, arrivals_taken, core_joined, is_repeat, own_entry, refusal_by}
use Rattle.sct_exchange.specs.Rounds.{File}
use Rattle.sct_requests.specs.Steps.{brings, core_given, core_offered, core_with_message, is_delta_line, is_question_line, text_in}

abbrev pub with_own : Core → Draft → Core
with_own core message = record { number = core.number; group = core.group; arrivals = core.arrivals ++ own_entry core message ∷ [] }

pub record Takes (core : Core) (line : List ℕ) : Type 0 where
  pub message : Draft
  pub plain : is_delta_line line ≡ false
  pub unasked : is_question_line line ≡ false
  pub written : is_blank line ≡ false
  pub read : message_in line ≡ Ok message
  pub new : is_repeat core message ≡ false
  pub is : core_given core line ≡ with_own core message

pub record Joins (core : Core) (line : List ℕ) : Type 0 where
  pub delta : List Placed
  pub told : is_delta_line line ≡ true
  pub read : delta_in (text_in line) ≡ Ok delta
  pub fits : refusal_by core delta ≡ None
  pub is : core_given core line ≡ core_joined core delta

not_longer : (n : ℕ) → nat_lt n n ≡ true → ⊥
not_longer n e = grind (arith, nat_tests)

module _ (core : Core) (line : List ℕ) (some : brings core line ≡ true) where
  changes : core_given core line ≡ core → ⊥
  unfolding brings
  changes same = not_longer (length core.arrivals) (ap (λ (c : Core). nat_lt (length core.arrivals) (length c.arrivals)) (sym same) ∙ some)

  given_delta : is_delta_line line ≡ true → core_given core line ≡ core_offered core (delta_in (text_in line))
  unfolding core_given
  given_delta told = rw told refl

  given_question : is_delta_line line ≡ false → is_question_line line ≡ true → core_given core line ≡ core
  unfolding core_given
  given_question plain asked = rw (plain, asked) refl

  given_blank : is_delta_line line ≡ false → is_question_line line ≡ false → is_blank line ≡ true → core_given core line ≡ core
  unfolding core_given
  given_blank plain unasked blank = rw (plain, unasked, blank) refl

  given_message : is_delta_line line ≡ false → is_question_line line ≡ false → is_blank line ≡ false → core_given core line ≡ core_with_message core (message_in line)
  unfolding core_given
  given_message plain unasked written = rw (plain, unasked, written) refl

  joins_by : (delta : List Placed) → is_delta_line line ≡ true → delta_in (text_in line) ≡ Ok delta → (o : Option DeltaFault) → refusal_by core delta ≡ o → Joins core line
  joins_by delta told read None fits = record {
    delta = delta;
    told = told;
    read = read;
    fits = fits;
    is = given_delta told ∙ ap (core_offered core) read ∙ ap (λ (r : Option DeltaFault). cond (is_none r) (core_joined core delta) core) fits;
  }
  joins_by delta told read (Some fault) refused = absurd (changes (given_delta told ∙ ap (core_offered core) read ∙ ap (λ (r : Option DeltaFault). cond (is_none r) (core_joined core delta) core) refused))

  joins : is_delta_line line ≡ true → (file : File) → delta_in (text_in line) ≡ file → Joins core line
  joins told (Ok delta) read = joins_by delta told read (refusal_by core delta) refl
  joins told (Err place) read = absurd (changes (given_delta told ∙ ap (core_offered core) read))

  takes_by : (message : Draft) → is_delta_line line ≡ false → is_question_line line ≡ false → is_blank line ≡ false → message_in line ≡ Ok message → (b : Bool) → is_repeat core message ≡ b → Takes core line
  unfolding arrivals_taken
  takes_by message plain unasked written read true again =
      absurd (changes (given_message plain unasked written ∙ ap (core_with_message core) read
      ∙ ap (λ (b : Bool). record { number = core.number; group = core.group; arrivals = cond b core.arrivals (core.arrivals ++ own_entry core message ∷ []) }) again))
  takes_by message plain unasked written read false new = record {
    message = message;
    plain = plain;
    unasked = unasked;
    written = written;
    read = read;
    new = new;
    is =
        given_message plain unasked written
        ∙ ap (core_with_message core) read
        ∙ ap (λ (b : Bool). record { number = core.number; group = core.group; arrivals = cond b core.arrivals (core.arrivals ++ own_entry core message ∷ []) }) new;
  }

  takes : is_delta_line line ≡ false → is_question_line line ≡ false → is_blank line ≡ false → (read : Result Draft JsonFault) → message_in line ≡ read → Takes core line
  takes plain unasked written (Ok message) read = takes_by message plain unasked written read (is_repeat core message) refl
  takes plain unasked written (Err fault) read = absurd (changes (given_message plain unasked written ∙ ap (core_with_message core) read))

  no_question : is_delta_line line ≡ false → is_question_line line ≡ false → (b : Bool) → is_blank line ≡ b → Takes core line
  no_question plain unasked true blank = absurd (changes (given_blank plain unasked blank))
  no_question plain unasked false written = takes plain unasked written (message_in line) refl

  no_delta : is_delta_line line ≡ false → (b : Bool) → is_question_line line ≡ b → Takes core line
  no_delta plain true asked = absurd (changes (given_question plain asked))
  no_delta plain false unasked = no_question plain unasked (is_blank line) refl

  either : (b : Bool) → is_delta_line line ≡ b → Takes core line ⊎ Joins core line
  either true told = inr (joins told (delta_in (text_in line)) refl)
  either false plain = inl (no_delta plain (is_question_line line) refl)

  pub brings_how : Takes core line ⊎ Joins core line
  brings_how = either (is_delta_line line) refl
