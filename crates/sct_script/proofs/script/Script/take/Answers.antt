-- An event more is the one that its line tells.
use Rattle.std.proofs.Common.{◌∙◌, ap, sym}
use Rattle.sct_world.specs.Happenings.{happenings_of}
use Rattle.sct_script.specs.Events.{told_by}
use Rattle.sct_script.proofs.ScriptLemmas.{event_behind}
use Rattle.sct_script.proofs.script.Script.take.Goals as goal

pub returns-in_ok-push-in-Ok-clause-events : goal.returns-in_ok-push-in-Ok-clause-events
returns-in_ok-push-in-Ok-clause-events c =
    ap happenings_of c.in_ok-push-in-Ok.ensures.items
    ∙ event_behind c.args.self.now.events.items c.in-Ok.event c.args.number c.args.line.now
    (sym c.is_blank_line.ensures ∙ c.if-is_blank_line.false) (ap told_by (sym c.in-Ok.is) ∙ c.in_ok-event.ensures)
