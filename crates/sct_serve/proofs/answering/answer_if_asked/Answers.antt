-- A question changes no journal.
use Rattle.std.proofs.Common.{◌≡◌, ◌∙◌, ◌∷◌, [], ap, sym, subst, List, ℕ, IsTrue, true}
use Rattle.std.specs.Prelude.{IfSome, option_map}
use Rattle.sct_journal.specs.Kept.{recorded}
use Rattle.sct_keeper.specs.Keepers.{keeper_disk, watched_site_of}
use Rattle.sct_requests.specs.Questions.{answer_asked}
use Rattle.sct_requests.specs.Steps.{is_question_line}
use Rattle.sct_serve.specs.Replies.{question_reply}
use Rattle.sct_serve.specs.Serving.{asked}
use Rattle.sct_serve.proofs.LeaveLemmas.{leaves_none, leaves_of, replied_of, stops_alike, stops_all, stops_none, stops_of}
use Rattle.sct_serve.proofs.QuestionLemmas.{question_told, question_answered, question_left}
use Rattle.sct_streams.specs.Stream.{AppendsIfTold, AppendsPrefixIfTold, Output}
use Rattle.sct_serve.proofs.answering.answer_if_asked.Goals as goal

pub returns-in_default-clause-crash : goal.returns-in_default-clause-crash
returns-in_default-clause-crash g c clean f left =
    leaves_none (watched_site_of c.args.keeper.now) (recorded (g.D.Disk.seen (keeper_disk c.args.keeper.now))) _ (g.K.Sink.state c.args.sink.now).held f
    (ap recorded (c.requires.keeper.settled.durable f left))

pub returns-in_err-answer_question-clause-crash : goal.returns-in_err-answer_question-clause-crash
returns-in_err-answer_question-clause-crash g c clean f left =
    let s = watched_site_of c.args.keeper.now in
    let held = (g.K.Sink.state c.args.sink.now).held in
    let now = (g.K.Sink.state c.answer_question.new.sink).held in
    let line = c.in-Some.line.now in
    let told : is_question_line line ≡ true = subst (λ o. IfSome o (λ line. is_question_line line.now ≡ true)) c.in-Some.is c.requires.question in
    let before = recorded (g.D.Disk.seen (keeper_disk c.args.keeper.now)) in
    let same = ap recorded (c.answer_question.ensures.keeper.settled.durable f left) ∙ ap (λ d. recorded (g.D.Disk.seen d)) c.answer_question.ensures.disk in
    leaves_of s before held now (line ∷ []) _ f (sym (ap (λ o. asked (option_map (λ line. line.now) o)) c.in-Some.is))
    (question_left s before line held now f told same
    (subst (λ (l : List ℕ). AppendsPrefixIfTold held now (question_reply (answer_asked s l))) c.split_at.ensures.back c.in_err-answer_question.ensures.cut_off))

pub returns-clause-crash : goal.returns-clause-crash
returns-clause-crash g c clean f left =
    let s = watched_site_of c.args.keeper.now in
    let held = (g.K.Sink.state c.args.sink.now).held in
    let now = (g.K.Sink.state c.answer_question.new.sink).held in
    let line = c.in-Some.line.now in
    let told : is_question_line line ≡ true = subst (λ o. IfSome o (λ line. is_question_line line.now ≡ true)) c.in-Some.is c.requires.question in
    let before = recorded (g.D.Disk.seen (keeper_disk c.args.keeper.now)) in
    let same = ap recorded (c.answer_question.ensures.keeper.settled.durable f left) ∙ ap (λ d. recorded (g.D.Disk.seen d)) c.answer_question.ensures.disk in
    leaves_of s before held now (line ∷ []) _ f (sym (ap (λ o. asked (option_map (λ line. line.now) o)) c.in-Some.is))
    (question_told s before line held now f told same
    (subst (λ (l : List ℕ). AppendsIfTold held now (question_reply (answer_asked s l))) c.split_at.ensures.back c.in_ok-answer_question.ensures.written))

pub returns-clause-replied : goal.returns-clause-replied
returns-clause-replied g c =
    let s = watched_site_of c.args.keeper.now in
    let m = watched_site_of c.answer_question.new.keeper in
    let held = (g.K.Sink.state c.args.sink.now).held in
    let now = (g.K.Sink.state c.answer_question.new.sink).held in
    let line = c.in-Some.line.now in
    let told : is_question_line line ≡ true = subst (λ o. IfSome o (λ line. is_question_line line.now ≡ true)) c.in-Some.is c.requires.question in
    replied_of s m (IsTrue (g.D.Disk.is_clean (keeper_disk c.args.keeper.now))) _ _ held now (line ∷ []) _ (sym (ap (λ o. asked (option_map (λ line. line.now) o)) c.in-Some.is))
    (question_answered s m (IsTrue (g.D.Disk.is_clean (keeper_disk c.args.keeper.now))) (recorded (g.D.Disk.seen (keeper_disk c.args.keeper.now))) (recorded (g.D.Disk.seen (keeper_disk c.answer_question.new.keeper))) held now line c.split_at.result.1.now
    told c.split_at.ensures.back c.answer_question.ensures.site c.in_ok-answer_question.ensures.watched (ap (λ d. recorded (g.D.Disk.seen d)) c.answer_question.ensures.disk) c.in_ok-answer_question.ensures.written)

pub returns-in_err-answer_question-clause-stops : goal.returns-in_err-answer_question-clause-stops
returns-in_err-answer_question-clause-stops g c quiet clean =
    let s = watched_site_of c.args.keeper.now in
    let before = recorded (g.D.Disk.seen (keeper_disk c.args.keeper.now)) in
    let held = (g.K.Sink.state c.args.sink.now).held in
    let now = (g.K.Sink.state c.answer_question.new.sink).held in
    let alike = ap (λ (o : Output). o.held) (c.in_err-answer_question.ensures.unwritten quiet) in
    stops_alike s before held now _ _ alike (λ f left. ap recorded (c.answer_question.ensures.keeper.settled.durable f left) ∙ ap (λ d. recorded (g.D.Disk.seen d)) c.answer_question.ensures.disk)

pub returns-in_default-clause-stops : goal.returns-in_default-clause-stops
returns-in_default-clause-stops g c quiet clean =
    stops_none (watched_site_of c.args.keeper.now) (recorded (g.D.Disk.seen (keeper_disk c.args.keeper.now))) (g.K.Sink.state c.args.sink.now).held _ _
    (λ f left. ap recorded (c.requires.keeper.settled.durable f left))

pub returns-clause-stops : goal.returns-clause-stops
returns-clause-stops g c quiet clean =
    let s = watched_site_of c.args.keeper.now in
    let m = watched_site_of c.answer_question.new.keeper in
    let sound = IsTrue (g.D.Disk.is_clean (keeper_disk c.args.keeper.now)) in
    let held = (g.K.Sink.state c.args.sink.now).held in
    let now = (g.K.Sink.state c.answer_question.new.sink).held in
    let before = recorded (g.D.Disk.seen (keeper_disk c.args.keeper.now)) in
    let after = recorded (g.D.Disk.seen (keeper_disk c.answer_question.new.keeper)) in
    let line = c.in-Some.line.now in
    let told : is_question_line line ≡ true = subst (λ o. IfSome o (λ line. is_question_line line.now ≡ true)) c.in-Some.is c.requires.question in
    stops_of s before held now (line ∷ []) _ _ (sym (ap (λ o. asked (option_map (λ line. line.now) o)) c.in-Some.is))
    (stops_all s before m sound after held now (line ∷ []) _
    (question_answered s m sound before after held now line c.split_at.result.1.now
    told c.split_at.ensures.back c.answer_question.ensures.site c.in_ok-answer_question.ensures.watched (ap (λ d. recorded (g.D.Disk.seen d)) c.answer_question.ensures.disk) c.in_ok-answer_question.ensures.written)
    clean (λ f left. ap recorded (c.answer_question.ensures.keeper.settled.durable f left)))
