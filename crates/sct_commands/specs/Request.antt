-- The requests of the command line. Read by an auditor.
use Rattle.std.specs.Prelude.{ℕ, ◌≡◌, List, map, length, Option, Some, None, Bool, true, false, if◌then◌else◌, codes, option_and_then, option_map, string_bytes, Result, Ok, Err}
use Rattle.sct_element.specs.Bank.{written_bic}
use Rattle.sct_element.specs.Date.{written_day}
use Rattle.sct_element.specs.Text.{is_text}
use Rattle.clap.specs.Words.{Row, Text, all_of, first_of}
use Rattle.sct_commands.specs.declared.jobs.Job.{Job}
use Rattle.sct_commands.specs.declared.jobs.Job.TheVariants.{Status, Archive, Totals, Keep, Closed, Replay}
use Rattle.sct_commands.specs.declared.fault.ProgramFault.{ProgramFault}
use Rattle.sct_commands.specs.declared.fault.ProgramFault.TheVariants as fault
use Rattle.sct_commands.specs.Mistakes.{Wrong, mistake_line}
use Rattle.sct_commands.specs.Places.{Wanted, messages, vector, digests, delta, deltas_ordered, have_ordered, place_ordered, wanted_of}
use Rattle.sct_commands.specs.Runs.{are_sites}
use Rattle.sct_commands.specs.declared.places.ServeCommand.{ServeCommand}
use Rattle.sct_commands.specs.declared.places.SiteCommand.{SiteCommand}
use Rattle.sct_commands.specs.declared.request.Reconciliation.{Reconciliation}
use Rattle.sct_commands.specs.declared.request.Request.{Request}
use Rattle.sct_commands.specs.declared.request.Request.TheVariants.{Run, Reconcile, Settle, Exchange, Serve, Help, Mistake}

-- the job that a word of the command line asks for
abbrev pub job_named : List ℕ → Option Job
job_named word =
    if is_text word (codes "status") then Some Status
    else if is_text word (codes "archive") then Some Archive
    else if is_text word (codes "totals") then Some Totals
    else if is_text word (codes "replay") then Some Replay
    else None

-- The order of a command: a job on standard input; to compare standard input with a bank's list for a day, in the file
-- at a path; to settle the sites that are filled from the files at some paths; what is wanted of a site, with its
-- number, the number of sites, the path of its journal and the paths of deltas; or to serve the site with a number, of a
-- group with a number of sites, whose journal is the file at a path.
pub data Order : Type 0 where
  job : Job → Order
  report : Text → Text → Text → Order
  sites : List Text → Order
  exchange : Wanted → ℕ → ℕ → Text → List Text → Order
  serve : ℕ → ℕ → Text → Order

-- the order with a bank, a day and a list
abbrev pub report_with : Reconciliation → Order
report_with reconciliation = report reconciliation.bank reconciliation.day reconciliation.list.now

-- the order of a command on one site
abbrev pub exchange_with : SiteCommand → Order
exchange_with request = exchange (wanted_of request.wanting) request.site request.sites request.journal.now (map (λ path. path.now) request.deltas.items)

-- the order to serve a site
abbrev pub serve_with : ServeCommand → Order
serve_with command = serve command.site command.sites command.journal.now

-- the order of a request, if it is neither help nor a mistake
abbrev pub order_of : Request → Option Order
order_of (Run work) = Some (job work)
order_of (Reconcile reconciliation) = Some (report_with reconciliation)
order_of (Settle files) = Some (sites (map (λ path. path.now) files.items))
order_of (Exchange request) = Some (exchange_with request)
order_of (Serve command) = Some (serve_with command)
order_of (Help text) = None
order_of (Mistake text) = None

-- the order of `report` from the values of its arguments: the bank and the day in their written form, if
-- these are valid, and the path of the list
abbrev pub report_ordered : List Row → Option Order
report_ordered given =
    option_and_then (λ bank. option_and_then (λ day. option_map (λ list. report bank day list)
    (first_of (codes "LIST") given))
    (option_and_then written_day (first_of (codes "DAY") given)))
    (option_and_then written_bic (first_of (codes "BANK") given))

-- the day among the values of the arguments of a command, if it is valid
abbrev pub day_ordered : List Row → Option (List ℕ)
day_ordered given = option_and_then written_day (first_of (codes "DAY") given)

-- the order of `run` with these files, if they can be run
abbrev pub sites_from : List Text → Option Order
sites_from files = if are_sites (length files) then Some (sites files) else None

-- the order of `run` from the values of its arguments
abbrev pub sites_ordered : List Row → Option Order
sites_ordered given = option_and_then sites_from (all_of (codes "FILE") given)

-- the order of a command on one site from the values of its arguments, if the site is one of a group
abbrev pub exchange_from : Wanted → List Row → Option Order
exchange_from wanted given =
    option_and_then (λ place. option_map (λ journal. exchange wanted place.0 place.1 journal (deltas_ordered given))
    (first_of (codes "JOURNAL") given)) (place_ordered given)

-- the order of `cut` from the values of its arguments
abbrev pub cut_ordered : List Row → Option Order
cut_ordered given = option_and_then (λ have. exchange_from (delta have) given) (have_ordered given)

-- the order of `serve` from the values of its arguments, if the site is one of a group
abbrev pub serve_from : List Row → Option Order
serve_from given =
    option_and_then (λ place. option_map (λ journal. serve place.0 place.1 journal) (first_of (codes "JOURNAL") given)) (place_ordered given)

-- the order of the command with this name, from the values of its arguments
abbrev pub order_named : Text → List Row → Option Order
order_named name given =
    if is_text name (codes "report") then report_ordered given
    else if is_text name (codes "run") then sites_ordered given
    else if is_text name (codes "keep") then option_map (λ day. job (Keep day)) (day_ordered given)
    else if is_text name (codes "closed") then option_map (λ day. job (Closed day)) (day_ordered given)
    else if is_text name (codes "site") then exchange_from messages given
    else if is_text name (codes "vector") then exchange_from vector given
    else if is_text name (codes "digests") then exchange_from digests given
    else if is_text name (codes "cut") then cut_ordered given
    else if is_text name (codes "serve") then serve_from given
    else option_map (λ work. job work) (job_named name)

-- the request is the order; if there is no order, or the call is out of memory, there is no request
abbrev pub IsOrdered : Option Order → Result Request ProgramFault → Type 0
IsOrdered (Some order) (Ok request) = order_of request ≡ Some order
IsOrdered None (Ok request) = ⊥
IsOrdered order (Err fault.Memory) = Unit {0}
IsOrdered order (Err fault.Usage) = order ≡ None
IsOrdered order (Err _) = ⊥

-- the request is the mistake of this word: its text is the line about it
abbrev pub IsMistakeOf : Option Wrong → Request → Type 0
IsMistakeOf (Some wrong) (Mistake text) = string_bytes text ≡ mistake_line wrong
IsMistakeOf _ _ = ⊥

-- the request is the mistake of the wrong word; if no word is wrong, or the call is out of memory, there is no request
abbrev pub IsMistaken : Option Wrong → Result Request ProgramFault → Type 0
IsMistaken wrong (Ok request) = IsMistakeOf wrong request
IsMistaken wrong (Err fault.Memory) = Unit {0}
IsMistaken wrong (Err fault.Usage) = wrong ≡ None
IsMistaken wrong (Err _) = ⊥

-- the request is the order; if there is no order, it is the mistake of the wrong word
abbrev pub IsOrderedOrMistaken : Option Order → Option Wrong → Result Request ProgramFault → Type 0
IsOrderedOrMistaken (Some order) wrong result = IsOrdered (Some order) result
IsOrderedOrMistaken None wrong result = IsMistaken wrong result

-- the request is a mistake
abbrev pub is_mistake : Request → Bool
is_mistake (Mistake text) = true
is_mistake _ = false

-- the request is not an order: it is help or a mistake
abbrev pub AsksForNoOrder : Request → Type 0
AsksForNoOrder (Help text) = Unit {0}
AsksForNoOrder (Mistake text) = Unit {0}
AsksForNoOrder _ = ⊥
