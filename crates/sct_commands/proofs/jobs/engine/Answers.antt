-- The answer of a job is written, or cut off.
use Rattle.sct_commands.proofs.JobLemmas.{are_cut_off, in_order, is_done, read_whole}
use Rattle.sct_commands.proofs.jobs.engine.Goals as goal

pub returns-clause-done : goal.returns-clause-done
returns-clause-done g c =
    is_done _ _ _ _ _ _ c.in_ok-answer.ensures.answered c.in_ok-write_answer.ensures.told c.in_ok-write_answer.ensures.text c.in_ok-write_answer.ensures.refused

pub returns-in_err-write_answer-clause-whole : goal.returns-in_err-write_answer-clause-whole
returns-in_err-write_answer-clause-whole g c = λ _. read_whole _ _ _ _ _ c.in_ok-answer.ensures.answered

pub returns-in_err-write_answer-clause-cut_off : goal.returns-in_err-write_answer-clause-cut_off
returns-in_err-write_answer-clause-cut_off g c =
    λ _. are_cut_off _ _ _ _ _ _ _ _ _ c.in_ok-answer.ensures.answered c.in_err-write_answer.ensures.cut_off

pub returns-in_err-write_answer-clause-order : goal.returns-in_err-write_answer-clause-order
returns-in_err-write_answer-clause-order g c =
    λ _. in_order _ _ _ _ _ _ _ _ c.in_ok-answer.ensures.answered c.in_err-write_answer.ensures.order
