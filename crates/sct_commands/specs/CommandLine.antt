-- The orders that the words of a command line give, by clap's own definitions. Read by an auditor.
use Rattle.std.specs.Prelude.{◌≡◌, ◌≢◌, ◌⊎◌, ◌↔◌, true, List, [], ◌∷◌, ◌++◌, Option, Some, None, option_and_then, option_map, IsTrue, Result, Ok, Err, codes, string_bytes}
use Rattle.clap.specs.Words.{App, Rule, Text, new_app, new_rule, subcommand_of, with_rule, with_subcommand, fault_of, IsAmong}
use Rattle.clap.specs.declared.builder.action.ArgAction.TheVariants.{Append}
use Rattle.clap.specs.declared.error.kind.ErrorKind.{ErrorKind}
use Rattle.clap.specs.declared.error.kind.ErrorKind.TheVariants as kind
use Rattle.sct_version.specs.declared.TheConstants.{VERSION}
use Rattle.sct_element.specs.Bank.{written_bic}
use Rattle.sct_element.specs.Date.{written_day}
use Rattle.sct_commands.specs.declared.jobs.Job.TheVariants.{Status, Archive, Totals, Keep, Closed, Replay}
use Rattle.sct_commands.specs.declared.fault.ProgramFault.{ProgramFault}
use Rattle.sct_commands.specs.declared.fault.ProgramFault.TheVariants as fault
use Rattle.sct_commands.specs.declared.request.Request.{Request}
use Rattle.sct_commands.specs.declared.request.Request.TheVariants.{Help, Mistake}
use Rattle.sct_commands.specs.Mistakes.{Wrong, mistake_line, wrong_word}
use Rattle.sct_commands.specs.declared.mistakes.Argument.TheVariants as argument
use Rattle.sct_commands.specs.Places.{counts_in, delta, digests, messages, place_named, vector, Wanted}
use Rattle.sct_commands.specs.Request.{exchange, is_mistake, job, order_named, order_of, report, serve, sites, Order}

-- a command that requires one of its subcommands, and has a version
abbrev pub wanting_one : App → App
wanting_one app = record app { top = record app.top { subcommand_required = true; has_version = true } }

-- the program with the commands `status` and `archive`; one of its commands is required, or the option `--version`
abbrev pub listing_commands : App
listing_commands =
    with_subcommand (with_subcommand (wanting_one (new_app (codes "sct_sites"))) (new_app (codes "status")).top)
    (new_app (codes "archive")).top

-- a word that is required in its place
abbrev pub wanted_word : Text → Rule
wanted_word name = record (new_rule name) { required = true }

-- one word or more
abbrev pub wanted_words : Text → Rule
wanted_words name = record (new_rule name) { required = true; action = Some Append }

-- a day
abbrev pub day_command : Text → App
day_command name = with_rule (new_app name) (wanted_word (codes "DAY"))

-- the program with the commands `keep` and `closed` added
abbrev pub closing_commands : App
closing_commands = with_subcommand (with_subcommand listing_commands (day_command (codes "keep")).top) (day_command (codes "closed")).top

-- a bank and a day
abbrev pub listless_report_command : App
listless_report_command = with_rule (with_rule (new_app (codes "report")) (wanted_word (codes "BANK"))) (wanted_word (codes "DAY"))

-- a bank, a day and a file
abbrev pub report_command : App
report_command = with_rule listless_report_command (wanted_word (codes "LIST"))

-- one file or more
abbrev pub run_command : App
run_command = with_rule (new_app (codes "run")) (wanted_words (codes "FILE"))

-- the program with the commands `totals` and `report` added
abbrev pub comparing_commands : App
comparing_commands = with_subcommand (with_subcommand closing_commands (new_app (codes "totals")).top) report_command.top

-- the program with the commands `replay` and `run` added
abbrev pub running_commands : App
running_commands = with_subcommand (with_subcommand comparing_commands (new_app (codes "replay")).top) run_command.top

-- any number of words, also none
abbrev pub optional_words : Text → Rule
optional_words name = record (new_rule name) { action = Some Append }

-- the number of a site and the number of sites
abbrev pub place_command : Text → App
place_command name = with_rule (with_rule (new_app name) (wanted_word (codes "SITE"))) (wanted_word (codes "SITES"))

-- the files of a site added: its journal, and any number of deltas
abbrev pub files_of_a_site : App → App
files_of_a_site app = with_rule (with_rule app (wanted_word (codes "JOURNAL"))) (optional_words (codes "DELTA"))

abbrev pub site_command : App
site_command = files_of_a_site (place_command (codes "site"))

abbrev pub vector_command : App
vector_command = files_of_a_site (place_command (codes "vector"))

abbrev pub digests_command : App
digests_command = files_of_a_site (place_command (codes "digests"))

-- the version vector comes before the files
abbrev pub cut_command : App
cut_command = files_of_a_site (with_rule (place_command (codes "cut")) (wanted_word (codes "HAVE")))

-- the program with the commands `site` and `vector` added
abbrev pub holding_commands : App
holding_commands = with_subcommand (with_subcommand running_commands site_command.top) vector_command.top

-- the program with the commands `digests` and `cut` added
abbrev pub exchanging_commands : App
exchanging_commands = with_subcommand (with_subcommand holding_commands digests_command.top) cut_command.top

-- a site is served with its journal alone
abbrev pub serve_command : App
serve_command = with_rule (place_command (codes "serve")) (wanted_word (codes "JOURNAL"))

-- the program's command line as clap sees it: one command for each order, and one of them is required
abbrev pub command_line : App
command_line = with_subcommand exchanging_commands serve_command.top

-- the order of the command that clap finds in the words; the first word is the program's name
abbrev pub order_asked : List Text → Option Order
order_asked words = option_and_then (λ found. order_named found.0 found.1) (subcommand_of command_line words)

-- the wrong word among the arguments of the command that clap finds in the words
abbrev pub wrong_asked : List Text → Option Wrong
wrong_asked words = option_and_then (λ found. wrong_word found.1) (subcommand_of command_line words)

-- the line that `--version` prints: the name of the program, a space and its version
abbrev pub version_line : Text
version_line = codes "sct_sites " ++ VERSION.now ++ 10 ∷ []

-- clap counts this kind as an error, not as a request for help
abbrev pub IsMistakeKind : ErrorKind → Type 0
IsMistakeKind k = (k ≢ kind.DisplayHelp) × (k ≢ kind.DisplayVersion)

-- The request is not an order but clap's answer by an error of this kind. The answer to a request for the version is
-- the line with the version.
abbrev pub AnswersKind : Request → ErrorKind → Type 0
AnswersKind (Help text) k =
    (IsTrue (is_mistake (Help text)) ↔ IsMistakeKind k) × (k ≡ kind.DisplayVersion → string_bytes text ≡ version_line)
AnswersKind (Mistake text) k = IsTrue (is_mistake (Mistake text)) ↔ IsMistakeKind k
AnswersKind _ k = ⊥

-- clap has no error for the words, but there is no order: a word is wrong, and the text is the line about it
pub record NamesTheWrongWord (words : List Text) (text : Text) : Type 0 where
  pub no_error : fault_of command_line words ≡ []
  pub no_order : order_asked words ≡ None
  pub named : option_map mistake_line (wrong_asked words) ≡ Some text

-- the words ask for the request: an order is that of the command found in them, and clap has no error for the words;
-- help or a mistake needs an error of such a kind that clap has for the words, but a mistake may also be a wrong word
abbrev pub AsksFor : List Text → Request → Type 0
AsksFor words (Help text) = (k : ErrorKind) × (IsAmong k (fault_of command_line words) × AnswersKind (Help text) k)
AsksFor words (Mistake text) =
    ((k : ErrorKind) × (IsAmong k (fault_of command_line words) × AnswersKind (Mistake text) k)) ⊎ NamesTheWrongWord words (string_bytes text)
AsksFor words request = (fault_of command_line words ≡ []) × (order_asked words ≡ order_of request)

-- the words ask for the request; or there is no request: the call is out of memory, or clap has no error for the words,
-- there is no order, and no word is wrong
abbrev pub AreAsking : List Text → Result Request ProgramFault → Type 0
AreAsking words (Ok request) = AsksFor words request
AreAsking words (Err fault.Memory) = Unit {0}
AreAsking words (Err fault.Usage) = (fault_of command_line words ≡ []) × (order_asked words ≡ None) × (wrong_asked words ≡ None)
AreAsking words (Err _) = ⊥

-- clap has no error for the words, and they give this order, if any
pub record AskFor (words : List Text) (order : Option Order) : Type 0 where
  pub no_error : fault_of command_line words ≡ []
  pub found : order_asked words ≡ order

-- a report is ordered if the bank and the day are valid
abbrev pub report_from : Text → Text → Text → Option Order
report_from bank day list =
    option_and_then (λ b. option_and_then (λ d. Some (report b d list)) (written_day day)) (written_bic bank)

-- a command on one site is ordered if its numbers are those of a site in a group
abbrev pub exchange_at : Wanted → Text → Text → Text → List Text → Option Order
exchange_at wanted number group journal deltas =
    option_and_then (λ place. Some (exchange wanted place.0 place.1 journal deltas)) (place_named number group)

-- the same for a site that is served
abbrev pub serve_at : Text → Text → Text → Option Order
serve_at number group journal = option_and_then (λ place. Some (serve place.0 place.1 journal)) (place_named number group)

-- each command asks for its order, whatever the program is called; and, after `--`, whatever the arguments are. Lines as people
-- write them, without `--`, are examples.
pub record CommandsAskForTheirOrders : Type 0 where
  pub status : (program : Text) → AskFor (program ∷ codes "status" ∷ []) (Some (job Status))
  pub archive : (program : Text) → AskFor (program ∷ codes "archive" ∷ []) (Some (job Archive))
  pub totals : (program : Text) → AskFor (program ∷ codes "totals" ∷ []) (Some (job Totals))
  pub replay : (program : Text) → AskFor (program ∷ codes "replay" ∷ []) (Some (job Replay))
  pub keep : (program day : Text)
      → AskFor (program ∷ codes "keep" ∷ codes "--" ∷ day ∷ []) (option_map (λ d. job (Keep d)) (written_day day))
  pub keep_written : (program : Text)
      → AskFor (program ∷ codes "keep" ∷ codes "2026-11-01" ∷ []) (option_map (λ d. job (Keep d)) (written_day (codes "2026-11-01")))
  pub closed : (program day : Text)
      → AskFor (program ∷ codes "closed" ∷ codes "--" ∷ day ∷ []) (option_map (λ d. job (Closed d)) (written_day day))
  pub list : (program bank day path : Text)
      → AskFor (program ∷ codes "report" ∷ codes "--" ∷ bank ∷ day ∷ path ∷ []) (report_from bank day path)
  pub one_file : (program file : Text) → AskFor (program ∷ codes "run" ∷ codes "--" ∷ file ∷ []) (Some (sites (file ∷ [])))
  pub two_files : (program file other : Text)
      → AskFor (program ∷ codes "run" ∷ codes "--" ∷ file ∷ other ∷ []) (Some (sites (file ∷ other ∷ [])))
  pub site : (program number group journal : Text)
      → AskFor (program ∷ codes "site" ∷ codes "--" ∷ number ∷ group ∷ journal ∷ []) (exchange_at messages number group journal [])
  pub site_with_deltas : (program number group journal one other : Text)
      → AskFor (program ∷ codes "site" ∷ codes "--" ∷ number ∷ group ∷ journal ∷ one ∷ other ∷ [])
      (exchange_at messages number group journal (one ∷ other ∷ []))
  pub vector_written : (program : Text)
      → AskFor (program ∷ codes "vector" ∷ codes "1" ∷ codes "8" ∷ codes "site1/journal" ∷ codes "in/2" ∷ [])
      (exchange_at vector (codes "1") (codes "8") (codes "site1/journal") (codes "in/2" ∷ []))
  pub vector : (program number group journal : Text)
      → AskFor (program ∷ codes "vector" ∷ codes "--" ∷ number ∷ group ∷ journal ∷ []) (exchange_at vector number group journal [])
  pub digests_written : (program : Text)
      → AskFor (program ∷ codes "digests" ∷ codes "1" ∷ codes "8" ∷ codes "site1/journal" ∷ codes "in/2" ∷ [])
      (exchange_at digests (codes "1") (codes "8") (codes "site1/journal") (codes "in/2" ∷ []))
  pub digests : (program number group journal one : Text)
      → AskFor (program ∷ codes "digests" ∷ codes "--" ∷ number ∷ group ∷ journal ∷ one ∷ []) (exchange_at digests number group journal (one ∷ []))
  pub cut : (program number group have journal one : Text)
      → AskFor (program ∷ codes "cut" ∷ codes "--" ∷ number ∷ group ∷ have ∷ journal ∷ one ∷ [])
      (option_and_then (λ counts. exchange_at (delta counts) number group journal (one ∷ [])) (counts_in have))
  pub cut_all : (program : Text)
      → AskFor (program ∷ codes "cut" ∷ codes "1" ∷ codes "2" ∷ codes "-" ∷ codes "journal" ∷ [])
      (option_and_then (λ counts. exchange_at (delta counts) (codes "1") (codes "2") (codes "journal") []) (counts_in (codes "-")))
  pub site_written : (program : Text)
      → AskFor (program ∷ codes "site" ∷ codes "1" ∷ codes "8" ∷ codes "site1/journal" ∷ codes "in/2" ∷ codes "in/3" ∷ [])
      (exchange_at messages (codes "1") (codes "8") (codes "site1/journal") (codes "in/2" ∷ codes "in/3" ∷ []))
  pub cut_written : (program : Text)
      → AskFor (program ∷ codes "cut" ∷ codes "1" ∷ codes "8" ∷ codes "2:7" ∷ codes "site1/journal" ∷ codes "in/2" ∷ [])
      (option_and_then (λ counts. exchange_at (delta counts) (codes "1") (codes "8") (codes "site1/journal") (codes "in/2" ∷ []))
      (counts_in (codes "2:7")))
  pub serve : (program number group journal : Text)
      → AskFor (program ∷ codes "serve" ∷ codes "--" ∷ number ∷ group ∷ journal ∷ []) (serve_at number group journal)

-- clap answers the words by an error of this kind alone, and they give no order
pub record AskForText (words : List Text) (k : ErrorKind) : Type 0 where
  pub answer : fault_of command_line words ≡ k ∷ []
  pub no_order : order_asked words ≡ None

-- the options ask for the help and for the version, whatever the program is called
pub record OptionsAskForTheirTexts : Type 0 where
  pub help : (program : Text) → AskForText (program ∷ codes "--help" ∷ []) kind.DisplayHelp
  pub help_by_letter : (program : Text) → AskForText (program ∷ codes "-h" ∷ []) kind.DisplayHelp
  pub version : (program : Text) → AskForText (program ∷ codes "--version" ∷ []) kind.DisplayVersion
  pub version_by_letter : (program : Text) → AskForText (program ∷ codes "-V" ∷ []) kind.DisplayVersion

-- clap has no error for the words, they give no order, and this word is wrong
pub record NameTheWord (words : List Text) (wrong : Wrong) : Type 0 where
  pub no_error : fault_of command_line words ≡ []
  pub no_order : order_asked words ≡ None
  pub word : wrong_asked words ≡ Some wrong

-- a day that is not valid is named, after `--`, whatever the program is called
pub record MistakesNameTheirWords : Type 0 where
  pub keep : (program day : Text) → written_day day ≡ None
      → NameTheWord (program ∷ codes "keep" ∷ codes "--" ∷ day ∷ []) (argument.Day, day)
  pub closed : (program day : Text) → written_day day ≡ None
      → NameTheWord (program ∷ codes "closed" ∷ codes "--" ∷ day ∷ []) (argument.Day, day)
