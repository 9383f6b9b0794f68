-- The lines of a script, one after another. Proof plumbing.
use Rattle.std.proofs.Common.{ℕ, ◌≡◌, ◌+◌, ◌++◌, ◌∷◌, [], List, true, false, Result, Ok, Err, refl, sym, ap, ◌∙◌}
use Rattle.std.proofs.lemmas.List.{append-nil, map-append}
use Rattle.std.proofs.lemmas.List.Elements.{filter_map-append}
use Rattle.sct_lines.specs.Lines.{is_blank, lines_of, numbered_from}
use Rattle.sct_lines.specs.Refused.{reporting_line}
use Rattle.sct_lines.proofs.LineLemmas.{IsByLine, blank_line, lines_left, lines_left-cons, text_by_line, written_line}
use Rattle.sct_world.specs.declared.event.Event.{Event}
use Rattle.sct_world.specs.Happenings.{Happening, happening_of, happenings_of}
use Rattle.sct_script.specs.Events.{happening_in, told_by}
use Rattle.sct_script.specs.Scripts.{NumberedLine, event_refusal_line, event_refusals_among, event_refusals_text, happenings_among, line_fault_text}
use Rattle.sct_script.specs.declared.fault.LineFault.{LineFault}

-- ---- one line more

pub event_line : (number : ℕ) (line : List ℕ) (happening : Happening) → happening_in line ≡ Ok happening → happenings_among ((number, line) ∷ []) ≡ happening ∷ []
unfolding happenings_among
event_line number line happening read = rw read refl

pub no_refusal : (number : ℕ) (line : List ℕ) (happening : Happening) → happening_in line ≡ Ok happening → event_refusals_among ((number, line) ∷ []) ≡ []
unfolding event_refusals_among
no_refusal number line happening read = rw read refl

pub no_event : (number : ℕ) (line : List ℕ) (fault : LineFault) → happening_in line ≡ Err fault → happenings_among ((number, line) ∷ []) ≡ []
unfolding happenings_among
no_event number line fault read = rw read refl

pub refused_line : (number : ℕ) (line : List ℕ) (fault : LineFault) → happening_in line ≡ Err fault → event_refusals_among ((number, line) ∷ []) ≡ (number, fault) ∷ []
unfolding event_refusals_among
refused_line number line fault read = rw read refl

pub told_none : event_refusals_text [] ≡ []
unfolding event_refusals_text
told_none = refl

pub told_one : (number : ℕ) (fault : LineFault) → event_refusals_text ((number, fault) ∷ []) ≡ reporting_line number (line_fault_text fault)
unfolding event_refusals_text event_refusal_line
told_one number fault = append-nil (reporting_line number (line_fault_text fault))

pub happenings_of_none : happenings_among [] ≡ []
unfolding happenings_among
happenings_of_none = refl

pub refusals_of_none : event_refusals_among [] ≡ []
unfolding event_refusals_among
refusals_of_none = refl

-- what one line more gives
pub ruleset one_line = (blank_line, written_line, event_line, no_refusal, no_event, refused_line, told_none, told_one, happenings_of_none, refusals_of_none, append-nil)

-- an event behind the others, where it is what its line is read as
pub event_behind : (events : List Event) (event : Event) (number : ℕ) (line : List ℕ) → is_blank line ≡ false → told_by (Ok event) ≡ happening_in line
    → happenings_of (events ++ event ∷ []) ≡ happenings_of events ++ happenings_among (numbered_from number (line ∷ []))
event_behind events event number line written read =
    map-append happening_of events (event ∷ [])
    ∙ ap (λ (more : List Happening). happenings_of events ++ more) (sym (ap happenings_among (written_line number line written) ∙ event_line number line (happening_of event) (sym read)))

-- ---- the first line, and then the others

pub happenings_by_line : IsByLine happenings_among
unfolding happenings_among
happenings_by_line = record { none = refl; append = λ some more. filter_map-append _ some more }

pub refusals_by_line : IsByLine event_refusals_among
unfolding event_refusals_among
refusals_by_line = record { none = refl; append = λ some more. filter_map-append _ some more }

pub told_by_line : IsByLine (λ lines. event_refusals_text (event_refusals_among lines))
unfolding event_refusals_text
told_by_line = text_by_line event_refusals_among event_refusal_line refusals_by_line

-- a blank line is skipped
pub skipped : (number : ℕ) (line rest text : List ℕ) (all : List NumberedLine) → lines_of text ≡ line ∷ lines_of rest → is_blank line ≡ true → lines_left number text ≡ all → lines_left (number + 1) rest ≡ all
skipped number line rest text all first blank whole =
    rw (lines_left-cons number line rest text first, blank_line number line blank) at whole

-- another one is the first
pub not_skipped : (number : ℕ) (line rest text : List ℕ) (all : List NumberedLine) → lines_of text ≡ line ∷ lines_of rest → is_blank line ≡ false → lines_left number text ≡ all → all ≡ (number, line) ∷ lines_left (number + 1) rest
not_skipped number line rest text all first written whole =
    sym whole ∙ lines_left-cons number line rest text first ∙ ap (λ (front : List NumberedLine). front ++ lines_left (number + 1) rest) (written_line number line written)
