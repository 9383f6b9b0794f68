-- The line with the name of the argument, and with what is expected.
use Rattle.std.proofs.Common.{◌≡◌, subst, IfOk, string_bytes}
use Rattle.sct_commands.specs.Mistakes.{argument_name, mistake_text}
use Rattle.sct_commands.proofs.mistakes.WrongWord.line.Goals as goal

pub returns : goal.returns
returns c =
    let word = c.args.self.now.word.now in
    subst (λ expected. IfOk c.line_of.result (λ line. string_bytes line ≡ mistake_text word (argument_name c.args.self.now.argument) expected)) c.expected-expected.ensures
    (subst (λ name. IfOk c.line_of.result (λ line. string_bytes line ≡ mistake_text word name c.expected-expected.result.now)) c.name-name.ensures c.line_of.ensures)
