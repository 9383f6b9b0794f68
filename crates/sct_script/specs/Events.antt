-- One line of a script: its event at one site, or why the line is refused. Read by an auditor.
use Rattle.std.specs.Prelude.{ℕ, ◌^◌, List, take, nat_lt, codes, Option, Some, None, option_map, option_and_then, Result, Ok, Err, ok_or, if◌then◌else◌}
use Rattle.sct_message.specs.declared.draft.Draft.{Draft}
use Rattle.sct_json.specs.declared.faults.JsonFault.{JsonFault}
use Rattle.sct_json.specs.Reading.{message_in}
use Rattle.sct_delta.specs.TextLines.{Field, after_prefix, number_in, number_before_space}
use Rattle.sct_delta.specs.VectorText.{Pair, counts_of, vector_in}
use Rattle.sct_world.specs.Happenings.{Happening, Taken, Cut, Handed, happening_of}
use Rattle.sct_world.specs.declared.event.Event.{Event}
use Rattle.sct_script.specs.declared.fault.LineFault.{LineFault}
use Rattle.sct_script.specs.declared.fault.LineFault.TheVariants as fault

-- ---- fields

-- a site in a line: any number below 65,536, whether or not the world has such a site
abbrev pub site_named : ℕ → Option ℕ
site_named number = if nat_lt number (2 ^ 16) then Some number else None

unfoldable pub site_number_in : List ℕ → Option ℕ
site_number_in text = option_and_then site_named (number_in text)

abbrev pub site_field : Field → Option Field
site_field field = option_map (λ site. (site, field.1)) (site_named field.0)

-- the site before the first space, and the text after the space
unfoldable pub site_before_space : List ℕ → Option Field
site_before_space text = option_and_then site_field (number_before_space text)

-- ---- the three kinds of event

-- a step that may refuse, and the next one
infixl 10 ◌>>=◌
abbrev pub ◌>>=◌ : {X Y : Type 0} → Result X LineFault → (X → Result Y LineFault) → Result Y LineFault
(Ok x) >>= f = f x
(Err refusal) >>= f = Err refusal

-- a field that an event must have
abbrev pub required_field : {X : Type 0} → Option X → Result X LineFault
required_field found = ok_or found fault.NoEvent

-- the message of a JSON text, or why it has none
abbrev pub message_of : Result Draft JsonFault → Result Draft LineFault
message_of (Ok message) = Ok message
message_of (Err refusal) = Err (fault.Message refusal)

-- A take: a site, and a JSON text of the message. A take with a refused message is not an event, whatever the site.
abbrev pub take_event_in : List ℕ → Result Happening LineFault
take_event_in rest = do
  site ← required_field (site_before_space rest)
  message ← message_of (message_in site.1)
  Ok (Taken site.0 message)

-- A cut: a site, and a version vector.
abbrev pub cut_event_in : List ℕ → Result Happening LineFault
cut_event_in rest = do
  site ← required_field (site_before_space rest)
  pairs ← required_field (vector_in site.1)
  Ok (Cut site.0 (counts_of pairs))

-- A hand: the number of a delta, and the site that it is handed to.
abbrev pub hand_event_in : List ℕ → Result Happening LineFault
hand_event_in rest = do
  delta ← required_field (number_before_space rest)
  site ← required_field (site_number_in delta.1)
  Ok (Handed delta.0 site)

-- ---- a line

-- the text after a word is read in this way; a line without the word is read in another way
abbrev pub behind : Option (List ℕ) → (List ℕ → Result Happening LineFault) → Result Happening LineFault → Result Happening LineFault
behind None reads other = other
behind (Some rest) reads other = reads rest

-- the event of a line, by the word that it begins with
unfoldable pub happening_in : List ℕ → Result Happening LineFault
happening_in line =
    behind (after_prefix (codes "take ") line) take_event_in
    (behind (after_prefix (codes "cut ") line) cut_event_in
    (behind (after_prefix (codes "hand ") line) hand_event_in (Err fault.NoEvent)))

-- an event as it was read, by its values
abbrev pub told_by : Result Event LineFault → Result Happening LineFault
told_by (Ok event) = Ok (happening_of event)
told_by (Err refusal) = Err refusal
