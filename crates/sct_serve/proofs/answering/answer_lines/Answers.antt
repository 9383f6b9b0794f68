-- What each exit leaves.
use Rattle.std.proofs.Common.{◌≡◌, ◌∙◌, ap, sym, subst, List, ℕ, arith}
use Rattle.std.specs.Prelude.{Option, flat_map}
use Rattle.sct_streams.specs.Stream.{AppendsIfTold, AppendsPrefixIfTold}
use Rattle.sct_journal.specs.Kept.{ended_lines, recorded}
use Rattle.sct_keeper.specs.Keepers.{keeper_disk, watched_site_of}
use Rattle.sct_requests.specs.WatchedSites.{WatchedSite}
use Rattle.sct_requests.specs.declared.steps.Reply.{Reply}
use Rattle.sct_site.specs.Cores.{Core}
use Rattle.sct_serve.specs.Replies.{replies_to, reply_line}
use Rattle.sct_serve.proofs.LeaveLemmas.{leaves_all, leaves_told, leaves_untold, stops_round, stops_told}
use Rattle.sct_serve.proofs.ReplyLemmas.{quiet_replies, quiet_site}
use Rattle.sct_serve.proofs.answering.answer_lines.Goals as goal

pub returns-in_err-answers-clause-crash : goal.returns-in_err-answers-clause-crash
returns-in_err-answers-clause-crash g c clean f left =
    leaves_untold (watched_site_of c.args.keeper.now) (recorded (g.D.Disk.seen (keeper_disk c.args.keeper.now))) (ended_lines c.args.lines.now) (g.K.Sink.state c.args.sink.now).held f (c.round.ensures.crash clean f left)

pub returns-in_err-text-clause-crash : goal.returns-in_err-text-clause-crash
returns-in_err-text-clause-crash g c clean f left =
    leaves_untold (watched_site_of c.args.keeper.now) (recorded (g.D.Disk.seen (keeper_disk c.args.keeper.now))) (ended_lines c.args.lines.now) (g.K.Sink.state c.args.sink.now).held f (c.round.ensures.crash clean f left)

pub returns-in_err-write-clause-crash : goal.returns-in_err-write-clause-crash
returns-in_err-write-clause-crash g c clean f left =
    let s = watched_site_of c.args.keeper.now in
    let lines = ended_lines c.args.lines.now in
    let held = (g.K.Sink.state c.args.sink.now).held in
    let now = (g.K.Sink.state c.write.new.sink).held in
    let text : c.as_bytes.result.now ≡ replies_to s lines =
    c.as_bytes.ensures.value ∙ c.in_ok-text.ensures ∙ ap (λ (l : List Reply). flat_map reply_line l) (c.deref.ensures.value ∙ c.in_ok-answers.ensures.answers) ∙ sym (quiet_replies lines s c.requires.none) in
    leaves_told s (recorded (g.D.Disk.seen (keeper_disk c.args.keeper.now))) lines held now f
    (ap recorded (c.in_ok-answers.ensures.keeper.settled.durable f left) ∙ c.in_ok-answers.ensures.acknowledged clean)
    (subst (λ (l : List ℕ). AppendsPrefixIfTold held now l) text c.in_err-write.ensures.cut_off)

pub returns-clause-crash : goal.returns-clause-crash
returns-clause-crash g c clean f left =
    let s = watched_site_of c.args.keeper.now in
    let lines = ended_lines c.args.lines.now in
    let held = (g.K.Sink.state c.args.sink.now).held in
    let now = (g.K.Sink.state c.write.new.sink).held in
    let text : c.as_bytes.result.now ≡ replies_to s lines =
    c.as_bytes.ensures.value ∙ c.in_ok-text.ensures ∙ ap (λ (l : List Reply). flat_map reply_line l) (c.deref.ensures.value ∙ c.in_ok-answers.ensures.answers) ∙ sym (quiet_replies lines s c.requires.none) in
    leaves_all s (recorded (g.D.Disk.seen (keeper_disk c.args.keeper.now))) lines held now f
    (ap recorded (c.in_ok-answers.ensures.keeper.settled.durable f left) ∙ c.in_ok-answers.ensures.acknowledged clean)
    (subst (λ (l : List ℕ). AppendsIfTold held now l) text c.in_ok-write.ensures.written)

pub returns-in_err-answers-clause-stops : goal.returns-in_err-answers-clause-stops
returns-in_err-answers-clause-stops g c quiet clean =
    stops_round (watched_site_of c.args.keeper.now) (recorded (g.D.Disk.seen (keeper_disk c.args.keeper.now))) (g.K.Sink.state c.args.sink.now).held (ended_lines c.args.lines.now) _ (λ f left. c.round.ensures.crash clean f left)

pub returns-in_err-text-clause-stops : goal.returns-in_err-text-clause-stops
returns-in_err-text-clause-stops g c quiet clean =
    stops_round (watched_site_of c.args.keeper.now) (recorded (g.D.Disk.seen (keeper_disk c.args.keeper.now))) (g.K.Sink.state c.args.sink.now).held (ended_lines c.args.lines.now) _ (λ f left. c.round.ensures.crash clean f left)

pub returns-in_err-write-clause-stops : goal.returns-in_err-write-clause-stops
returns-in_err-write-clause-stops g c quiet clean = absurd (omega (arith, quiet, c.in_err-write.ensures.counted.1))

pub returns-clause-stops : goal.returns-clause-stops
returns-clause-stops g c quiet clean =
    let s = watched_site_of c.args.keeper.now in
    let lines = ended_lines c.args.lines.now in
    let held = (g.K.Sink.state c.args.sink.now).held in
    let now = (g.K.Sink.state c.write.new.sink).held in
    let text : c.as_bytes.result.now ≡ replies_to s lines =
    c.as_bytes.ensures.value ∙ c.in_ok-text.ensures ∙ ap (λ (l : List Reply). flat_map reply_line l) (c.deref.ensures.value ∙ c.in_ok-answers.ensures.answers) ∙ sym (quiet_replies lines s c.requires.none) in
    stops_told s (recorded (g.D.Disk.seen (keeper_disk c.args.keeper.now))) held now lines _
    (λ f left. ap recorded (c.in_ok-answers.ensures.keeper.settled.durable f left) ∙ c.in_ok-answers.ensures.acknowledged clean)
    (subst (λ (l : List ℕ). AppendsIfTold held now l) text c.in_ok-write.ensures.written)

pub returns-clause-replied : goal.returns-clause-replied
returns-clause-replied g c =
    let s = watched_site_of c.args.keeper.now in
    let lines = ended_lines c.args.lines.now in
    let held = (g.K.Sink.state c.args.sink.now).held in
    let now = (g.K.Sink.state c.write.new.sink).held in
    let text : c.as_bytes.result.now ≡ replies_to s lines =
    c.as_bytes.ensures.value ∙ c.in_ok-text.ensures ∙ ap (λ (l : List Reply). flat_map reply_line l) (c.deref.ensures.value ∙ c.in_ok-answers.ensures.answers) ∙ sym (quiet_replies lines s c.requires.none) in
    record {
      ends = (λ i. watched_site_by (c.in_ok-answers.ensures.site i) (c.round.ensures.watched i)) ∙ sym (quiet_site lines s c.requires.none);
      replied = subst (λ (l : List ℕ). AppendsIfTold held now l) text c.in_ok-write.ensures.written;
      keeps = λ clean. c.in_ok-answers.ensures.acknowledged clean;
    }
  where
    watched_site_by : Core → Option ℕ → WatchedSite
    watched_site_by core watched = record { core = core; watched = watched }
