-- What is asked for where clap has matches or an error for the words.
use Rattle.std.proofs.Common.{◌≡◌, ◌∙◌, [], ap, option_and_then, sym, subst, map, string_bytes}
use Rattle.clap.specs.Words.{HasKind, HasMatchesOf, app_of, fault_of, is_simple_and_free}
use Rattle.sct_commands.specs.CommandLine.{command_line}
use Rattle.sct_commands.specs.Mistakes.{wrong_word}
use Rattle.sct_commands.specs.Request.{order_named}
use Rattle.sct_commands.proofs.CommandLineLemmas.{asked_by_error, asked_by_order, command_line_is_free, command_line_is_simple}
use Rattle.sct_commands.proofs.request.read_request.Goals as goal

pub returns-in-Ok-clause-asked : goal.returns-in-Ok-clause-asked
returns-in-Ok-clause-asked c =
    let found : HasMatchesOf command_line (map string_bytes c.args.words.now) c.in-Ok.matches =
    subst (λ app. HasMatchesOf app (map string_bytes c.args.words.now) c.in-Ok.matches) c.in_ok-command.ensures c.in-Ok.ensures.matches in
    let is : app_of c.in_ok-command.field-0 ≡ command_line = c.in_ok-command.ensures in
    let clean : fault_of command_line (map string_bytes c.args.words.now) ≡ [] =
    subst (λ app. fault_of app (map string_bytes c.args.words.now) ≡ []) is
    (c.in-Ok.ensures.kinds (ap is_simple_and_free is ∙ command_line_is_free)) in
    asked_by_order (map string_bytes c.args.words.now) _ _ c.request_of_matches.result clean
    (ap (option_and_then (λ found. order_named found.0 found.1)) (sym (found command_line_is_simple).1))
    (ap (option_and_then (λ found. wrong_word found.1)) (sym (found command_line_is_simple).1)) c.request_of_matches.ensures

pub returns-in-Err-clause-asked : goal.returns-in-Err-clause-asked
returns-in-Err-clause-asked c =
    let is : app_of c.in_ok-command.field-0 ≡ command_line = c.in_ok-command.ensures in
    asked_by_error (map string_bytes c.args.words.now) c.in-Err.error c.request_of_error.result
    (subst (λ app. HasKind (fault_of app (map string_bytes c.args.words.now)) c.in-Err.error) is
    (c.in-Err.ensures.kinds (ap is_simple_and_free is ∙ command_line_is_free)))
    c.request_of_error.ensures.kind c.request_of_error.ensures.memory
