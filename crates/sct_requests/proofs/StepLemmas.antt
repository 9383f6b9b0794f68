-- Lines that a site is given. Proof plumbing.
use Rattle.std.proofs.Common.{◌≡◌, ◌∙◌, refl, ap, sym, ℕ, ◌+◌, ◌<◌, Bool, true, false, cond, List, [], ◌∷◌, ◌++◌, length, arith, append_assoc, length-append, nat_lt}
use Rattle.std.specs.Prelude.{Result, Ok, Err}
use Rattle.std.proofs.lemmas.List.{append-nil}
use Rattle.std.proofs.lemmas.Bool.Decides.{nat_tests}
use Rattle.sct_message.specs.declared.draft.Draft.{Draft}
use Rattle.sct_json.specs.Reading.{message_in}
use Rattle.sct_json.specs.declared.faults.JsonFault.{JsonFault}
use Rattle.sct_lines.specs.Lines.{is_blank}
use Rattle.sct_delta.specs.DeltaText.{delta_in}
use Rattle.sct_delta.specs.Entries.{Placed}
use Rattle.sct_site.specs.Cores.{Core, arrivals_taken, core_taken, fresh_entries, is_repeat, own_entry}
use Rattle.sct_exchange.specs.Journals.{opened}
use Rattle.sct_exchange.specs.Rounds.{File, core_with, is_accepted}
use Rattle.sct_journal.specs.Kept.{AreLines}
use Rattle.sct_requests.specs.Steps.{answer_to, answers_to, brings, brought, core_after, core_given, core_kept, core_offered, core_with_message, is_delta_line, is_question_line, text_in}
use Rattle.sct_requests.specs.declared.steps.Reply.{Reply}

-- ---- a line brings entries behind those that are there

abbrev pub with_more : Core → List Placed → Core
with_more core more = record { number = core.number; group = core.group; arrivals = core.arrivals ++ more }

pub record Grows (core after : Core) : Type 0 where
  pub more : List Placed
  pub is : after ≡ with_more core more

grows_not : (core : Core) → Grows core core
grows_not core = record { more = []; is = ap (λ (es : List Placed). record { number = core.number; group = core.group; arrivals = es }) (sym (append-nil core.arrivals)) }

grows_taken : (core : Core) (message : Draft) → Grows core (core_taken core message)
unfolding arrivals_taken
grows_taken core message = elim (is_repeat core message) as (λ b. Grows core (record { number = core.number; group = core.group; arrivals = cond b core.arrivals (core.arrivals ++ own_entry core message ∷ []) })) [
  | true ↦ grows_not core
  | false ↦ record { more = own_entry core message ∷ []; is = refl }
]

grows_message : (core : Core) (read : Result Draft JsonFault) → Grows core (core_with_message core read)
grows_message core (Ok message) = grows_taken core message
grows_message core (Err fault) = grows_not core

grows_with : (core : Core) (file : File) → Grows core (core_with core file)
grows_with core (Ok delta) = record { more = fresh_entries core.arrivals delta; is = refl }
grows_with core (Err line) = grows_not core

grows_offered : (core : Core) (file : File) → Grows core (core_offered core file)
grows_offered core file = elim (is_accepted core file) as (λ b. Grows core (cond b (core_with core file) core)) [
  | true ↦ grows_with core file
  | false ↦ grows_not core
]

grows_plain : (core : Core) (line : List ℕ) → Grows core (cond (is_question_line line) core (cond (is_blank line) core (core_with_message core (message_in line))))
grows_plain core line =
    elim (is_question_line line) as (λ b. Grows core (cond b core (cond (is_blank line) core (core_with_message core (message_in line))))) [
      | true ↦ grows_not core
      | false ↦ elim (is_blank line) as (λ b. Grows core (cond b core (core_with_message core (message_in line)))) [
        | true ↦ grows_not core
        | false ↦ grows_message core (message_in line)
      ]
    ]

pub grows : (core : Core) (line : List ℕ) → Grows core (core_given core line)
unfolding core_given
grows core line =
    elim (is_delta_line line) as (λ b. Grows core (cond b (core_offered core (delta_in (text_in line))) (cond (is_question_line line) core (cond (is_blank line) core (core_with_message core (message_in line)))))) [
      | true ↦ grows_offered core (delta_in (text_in line))
      | false ↦ grows_plain core line
    ]

pub number_given : (core : Core) (line : List ℕ) → (core_given core line).number ≡ core.number
number_given core line = ap (λ (c : Core). c.number) (grows core line).is

pub group_given : (core : Core) (line : List ℕ) → (core_given core line).group ≡ core.group
group_given core line = ap (λ (c : Core). c.group) (grows core line).is

-- a line that brings nothing changes nothing
pub brings_nothing : (core : Core) (line : List ℕ) → brings core line ≡ false → core_given core line ≡ core
unfolding brings
brings_nothing core line none = same (grows core line).more (grows core line).is
  where
    same : (more : List Placed) → core_given core line ≡ with_more core more → core_given core line ≡ core
    same [] is = is ∙ ap (λ (es : List Placed). record { number = core.number; group = core.group; arrivals = es }) (append-nil core.arrivals)
    same (entry ∷ more) is =
        let grown : length (core_given core line).arrivals ≡ length core.arrivals + length (entry ∷ more) =
        ap (λ (c : Core). length c.arrivals) is ∙ length-append core.arrivals (entry ∷ more) in
        let longer : length core.arrivals < length (core_given core line).arrivals = omega (arith, grown) in
        let told : nat_lt (length core.arrivals) (length (core_given core line).arrivals) ≡ true = grind (arith, nat_tests) in
        cc

-- ---- lines, one after another

pub after_join : (xs ys : List (List ℕ)) (core : Core) → core_after core (xs ++ ys) ≡ core_after (core_after core xs) ys
after_join [] ys core = refl
after_join (x ∷ xs) ys core = after_join xs ys (core_given core x)

pub number_after : (lines : List (List ℕ)) (core : Core) → (core_after core lines).number ≡ core.number
number_after [] core = refl
number_after (line ∷ lines) core = number_after lines (core_given core line) ∙ number_given core line

pub group_after : (lines : List (List ℕ)) (core : Core) → (core_after core lines).group ≡ core.group
group_after [] core = refl
group_after (line ∷ lines) core = group_after lines (core_given core line) ∙ group_given core line

-- the lines that brought something make the site that all of them made
pub after_brought : (lines : List (List ℕ)) (core : Core) → core_after core (brought core lines) ≡ core_after core lines
after_brought [] core = refl
after_brought (line ∷ lines) core =
    (elim (brings core line) as (λ b. brings core line ≡ b → core_after core (cond b (line ∷ brought (core_given core line) lines) (brought (core_given core line) lines)) ≡ core_after (core_given core line) lines) [
      | true ↦ λ some. after_brought lines (core_given core line)
      | false ↦ λ none.
          let same : core_given core line ≡ core = brings_nothing core line none in
          ap (λ (c : Core). core_after c (brought (core_given core line) lines)) (sym same) ∙ after_brought lines (core_given core line)
    ]) refl

pub brought_lines : (lines : List (List ℕ)) (core : Core) → AreLines lines → AreLines (brought core lines)
brought_lines [] core are = tt
brought_lines (line ∷ lines) core are = elim (brings core line) as (λ b. AreLines (cond b (line ∷ brought (core_given core line) lines) (brought (core_given core line) lines))) [
  | true ↦ (are.0, brought_lines lines (core_given core line) are.1)
  | false ↦ brought_lines lines (core_given core line) are.1
]

-- the site of a journal that has a round more
pub kept_more : (core after : Core) (lines : List (List ℕ)) (old new : List (List ℕ)) → after ≡ core_after core lines → core ≡ core_kept core.number core.group old
    → new ≡ old ++ brought core lines → after ≡ core_kept after.number after.group new
kept_more core after lines old new is was added =
    let number : after.number ≡ core.number = ap (λ (c : Core). c.number) is ∙ number_after lines core in
    let group : after.group ≡ core.group = ap (λ (c : Core). c.group) is ∙ group_after lines core in
    is
    ∙ sym (after_brought lines core)
    ∙ ap (λ (c : Core). core_after c (brought core lines)) was
    ∙ sym (after_join old (brought core lines) (opened core.number core.group))
    ∙ (λ i. core_kept (sym number i) (sym group i) (sym added i))

-- ---- answers and lines that are kept, of lines that are given in parts

pub answers_join : (xs ys : List (List ℕ)) (core : Core) → answers_to core (xs ++ ys) ≡ answers_to core xs ++ answers_to (core_after core xs) ys
answers_join [] ys core = refl
answers_join (x ∷ xs) ys core = ap (λ (l : List Reply). answer_to core x ∷ l) (answers_join xs ys (core_given core x))

pub brought_join : (xs ys : List (List ℕ)) (core : Core) → brought core (xs ++ ys) ≡ brought core xs ++ brought (core_after core xs) ys
brought_join [] ys core = refl
brought_join (x ∷ xs) ys core = elim (brings core x) as (λ b. cond b (x ∷ brought (core_given core x) (xs ++ ys)) (brought (core_given core x) (xs ++ ys)) ≡ cond b (x ∷ brought (core_given core x) xs) (brought (core_given core x) xs) ++ brought (core_after (core_given core x) xs) ys) [
  | true ↦ ap (λ (l : List (List ℕ)). x ∷ l) (brought_join xs ys (core_given core x))
  | false ↦ brought_join xs ys (core_given core x)
]

pub brought_next : (xs rest : List (List ℕ)) (line : List ℕ) (b : Bool) → (xs ++ cond b (line ∷ []) []) ++ rest ≡ xs ++ cond b (line ∷ rest) rest
brought_next xs rest line true = append_assoc xs (line ∷ []) rest
brought_next xs rest line false = ap (λ (l : List (List ℕ)). l ++ rest) (append-nil xs)

-- the site that a journal makes when it is opened
pub kept_opened : (number group : ℕ) (core after : Core) (lines new : List (List ℕ)) → core ≡ opened number group → after ≡ core_after core lines → lines ≡ new
    → (after ≡ core_kept after.number after.group new) × (after.number ≡ number) × (after.group ≡ group)
kept_opened number group core after lines new was is same =
    let from : after.number ≡ number = ap (λ (c : Core). c.number) is ∙ number_after lines core ∙ ap (λ (c : Core). c.number) was in
    let among : after.group ≡ group = ap (λ (c : Core). c.group) is ∙ group_after lines core ∙ ap (λ (c : Core). c.group) was in (
      is ∙ (λ i. core_after (was i) (same i)) ∙ (λ i. core_kept (sym from i) (sym among i) new),
      from,
      among,
    )
