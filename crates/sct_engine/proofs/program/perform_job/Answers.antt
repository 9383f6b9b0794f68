-- A job is a task that is answered: each part of it by itself.
use Rattle.std.proofs.Common.{rules}
use Rattle.sct_engine.proofs.program.perform_job.Goals as goal

pub returns-in_err-done : goal.returns-in_err-done
returns-in_err-done g c = record {
  ending = search rules;
  printed = search rules;
  told = search rules;
  read = search rules;
  taken = search rules;
  usage = search rules;
  list = search rules;
  unlisted = search rules;
  too_long = search rules;
  cut_input = search rules;
  reads = search rules;
  failed_read = search rules;
  left = search rules;
  cut_off = search rules;
  unwritten = search rules;
  ends = search rules;
}

pub returns : goal.returns
returns g c = record {
  ending = search rules;
  printed = search rules;
  told = search rules;
  read = search rules;
  taken = search rules;
  usage = search rules;
  list = search rules;
  unlisted = search rules;
  too_long = search rules;
  cut_input = search rules;
  reads = search rules;
  failed_read = search rules;
  left = search rules;
  cut_off = search rules;
  unwritten = search rules;
  ends = search rules;
}
