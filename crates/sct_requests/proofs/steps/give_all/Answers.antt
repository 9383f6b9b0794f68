-- One request more.
use Rattle.std.proofs.Common.{◌≡◌, ◌∙◌, ◌++◌, ◌∷◌, [], List, ℕ, cond, ap, sym, append_assoc}
use Rattle.sct_journal.specs.Kept.{ended_lines}
use Rattle.sct_site.specs.Cores.{Core}
use Rattle.sct_requests.specs.Grants.{answer_to_request, answers_to_requests, brought_by, core_after_requests, core_requested, granted, line_of_request}
use Rattle.sct_requests.specs.Steps.{brings}
use Rattle.sct_requests.specs.declared.steps.Reply.{Reply}
use Rattle.sct_requests.proofs.GrantLemmas.{kept_alike}
use Rattle.sct_requests.proofs.StepLemmas.{brought_next}
use Rattle.sct_requests.proofs.steps.give_all.Goals as goal

pub loop-request-preserved : goal.loop-request-preserved
loop-request-preserved c =
    let before : Core = c.loop-request.site.core in
    let after : Core = c.give_and_see.new.site.core in
    let request : List ℕ = c.in-Some.request.now in
    let rest : List (List ℕ) = ended_lines c.in-Some.after.now in
    let next : ended_lines c.loop-request.rest.now ≡ request ∷ rest = c.in-Some.ensures.first in
    let given : after ≡ core_requested before request = c.in_ok-answer.ensures.core in
    let answers = c.loop-request.answers.items in
    let brought = c.loop-request.brought in
    let some = brings before (granted before request) in
    record {
      core = ap (λ (x : Core). core_after_requests x rest) given ∙ ap (core_after_requests before) (sym next) ∙ c.loop-request.invariant.core;
      told =
          ap (λ (l : List Reply). l ++ answers_to_requests after rest) (c.in_ok-push.ensures.items ∙ ap (λ (a : Reply). answers ++ a ∷ []) c.in_ok-answer.ensures.answer)
          ∙ append_assoc answers (answer_to_request before request ∷ []) (answers_to_requests after rest)
          ∙ ap (λ (x : Core). answers ++ answer_to_request before request ∷ answers_to_requests x rest) given
          ∙ ap (λ (l : List (List ℕ)). answers ++ answers_to_requests before l) (sym next)
          ∙ c.loop-request.invariant.told;
      kept =
          ap (λ (l : List (List ℕ)). l ++ brought_by after rest)
          (c.in_ok-push_if.ensures
          ∙ (λ i. brought ++ cond (c.in_ok-answer.ensures.brings i) (c.line_of_request.ensures.value i ∷ []) [])
          ∙ ap (λ (l : List (List ℕ)). brought ++ l) (kept_alike before request))
          ∙ ap (λ (x : Core). (brought ++ cond some (granted before request ∷ []) []) ++ brought_by x rest) given
          ∙ brought_next brought (brought_by (core_requested before request) rest) (granted before request) some
          ∙ ap (λ (l : List (List ℕ)). brought ++ brought_by before l) (sym next)
          ∙ c.loop-request.invariant.kept;
      watched = c.give_and_see.ensures.watched ∙ c.loop-request.invariant.watched;
    }
