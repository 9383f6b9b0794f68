-- The files of a command on one site are read, or the first that cannot be read ends this.
use Rattle.std.proofs.Common.{◌≡◌, ◌≤◌, ◌∷◌, ◌∙◌, codes, length, map, IfErr, ap, ap₂, rules, refl, subst}
use Rattle.sct_exchange.specs.Journals.{core_taking, opened}
use Rattle.sct_exchange.specs.Rounds.{exchanged}
use Rattle.sct_lines.specs.Lines.{messages_read, refusals_told, told_after}
use Rattle.sct_message.specs.Sets.{messages_in}
use Rattle.sct_streams.specs.Files.{AreGiven}
use Rattle.sct_commands.specs.Stream.{EndsFiles}
use Rattle.sct_commands.specs.declared.fault.ProgramFault.TheVariants as fault
use Rattle.sct_commands.proofs.FileLemmas.{ended_by}
use Rattle.sct_commands.proofs.GatherLemmas.{ends_at_once, ends_later}
use Rattle.sct_commands.proofs.exchanging.gather.Goals as goal

pub returns-in_err-journal-clause-faults : goal.returns-in_err-journal-clause-faults
returns-in_err-journal-clause-faults g c =
    let gives = g.R.Files.gives c.args.files.now in
    let deltas = map (λ path. path.now) c.args.command.deltas.items in
    let is : IfErr c.from_residual.result (λ e. e ≡ c.in_err-journal.field-0.0) = search rules in
    ended_by (EndsFiles gives (c.args.command.journal.now ∷ deltas)) c.from_residual.result c.in_err-journal.field-0.0 is
    (ends_at_once gives c.args.command.journal.now deltas c.in_err-journal.field-0.0 c.in_err-journal.ensures.faults)

pub returns-in_err-messages-clause-faults : goal.returns-in_err-messages-clause-faults
returns-in_err-messages-clause-faults g c =
    let gives = g.R.Files.gives c.args.files.now in
    let deltas = map (λ path. path.now) c.args.command.deltas.items in
    let memory : IfErr c.from_residual-in_err-messages.result (λ e. e ≡ fault.Memory) = search rules in
    ended_by (EndsFiles gives (c.args.command.journal.now ∷ deltas)) c.from_residual-in_err-messages.result fault.Memory memory
    (ends_at_once gives c.args.command.journal.now deltas fault.Memory tt)

pub returns-in_err-deltas-clause-faults : goal.returns-in_err-deltas-clause-faults
returns-in_err-deltas-clause-faults g c =
    let gives = g.R.Files.gives c.args.files.now in
    let deltas = map (λ path. path.now) c.args.command.deltas.items in
    let paths : c.deref-2.result.now ≡ c.args.command.deltas.items = c.deref-2.ensures.value in
    let short : length c.in_ok-journal.journal.items ≤ 1073741824 = search rules in
    let is : IfErr c.from_residual-in_err-deltas.result (λ e. e ≡ c.in_err-deltas.field-0.0) = search rules in
    ended_by (EndsFiles gives (c.args.command.journal.now ∷ deltas)) c.from_residual-in_err-deltas.result c.in_err-deltas.field-0.0 is
    (ends_later gives c.args.command.journal.now c.in_ok-journal.journal.items deltas c.in_err-deltas.field-0.0 c.in_ok-journal.ensures.given short
    (subst (λ ps. EndsFiles gives (map (λ path. path.now) ps) c.in_err-deltas.field-0.0) paths c.in_err-deltas.ensures.faults))

pub returns-clause-gathered : goal.returns-clause-gathered
returns-clause-gathered g c =
    let gives = g.R.Files.gives c.args.files.now in
    let paths : c.deref-2.result.now ≡ c.args.command.deltas.items = c.deref-2.ensures.value in
    let journal : c.deref.result.now ≡ c.in_ok-journal.journal.items = c.deref.ensures.value in
    let text : c.in_ok-messages.field-0.refusals.text ≡ told_after (codes "file 1 ") (refusals_told c.deref.result.now) = search rules in
    let read : messages_in c.in_ok-messages.field-0.messages.items ≡ messages_read c.deref.result.now = search rules in
    record {
      journal = c.in_ok-journal.journal.items;
      texts = c.in_ok-deltas.ensures.read.texts;
      journal_given = c.in_ok-journal.ensures.given;
      journal_within = search rules;
      texts_within = c.in_ok-deltas.ensures.read.within;
      texts_given = subst (λ ps. AreGiven gives (map (λ path. path.now) ps) c.in_ok-deltas.ensures.read.texts) paths c.in_ok-deltas.ensures.read.given;
      wanted = refl;
      possible = refl;
      site = ap₂ (λ messages files. exchanged (core_taking (opened c.args.command.site c.args.command.sites) messages) files)
          (read ∙ ap messages_read journal) c.in_ok-deltas.ensures.read.read;
      told = text ∙ ap (λ input. told_after (codes "file 1 ") (refusals_told input)) journal;
      refused = search rules;
    }
