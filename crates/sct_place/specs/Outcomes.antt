-- What calls return to a program in another language. Read by an auditor.
use Rattle.std.specs.Prelude.{ℕ, true, false, Result, Ok, Err}
use Rattle.sct_site.specs.declared.answers.Took.{Took}
use Rattle.sct_site.specs.declared.answers.Took.TheVariants as took
use Rattle.sct_site.specs.declared.answers.Accepted.{Accepted}
use Rattle.sct_embed.specs.Faults.{embed_fault_number, embed_fault_place}
use Rattle.sct_embed.specs.declared.faults.EmbedFault.{EmbedFault}
use Rattle.sct_place.specs.declared.outcomes.CallOutcome.{CallOutcome}
use Rattle.sct_place.specs.declared.outcomes.TakeOutcome.{TakeOutcome}
use Rattle.sct_place.specs.declared.outcomes.LinesOutcome.{LinesOutcome}
use Rattle.sct_place.specs.declared.outcomes.AcceptOutcome.{AcceptOutcome}
use Rattle.sct_embed.specs.declared.taking.TakenLines.{TakenLines}

-- ---- a refusal: the number of the fault and its place, and nothing else. `reserved` is 0 in each result

abbrev pub refused_as : EmbedFault → CallOutcome
refused_as reason = record { ok = false; code = embed_fault_number reason; place = embed_fault_place reason; length = 0; reserved = 0 }

abbrev pub refused_take : EmbedFault → TakeOutcome
refused_take reason =
    record { ok = false; code = embed_fault_number reason; is_repeat = false; place = embed_fault_place reason; number = 0; reserved = 0 }

abbrev pub refused_lines : EmbedFault → LinesOutcome
refused_lines reason =
    record {
      ok = false;
      code = embed_fault_number reason;
      place = embed_fault_place reason;
      fresh = 0;
      repeats = 0;
      refused = 0;
      length = 0;
      reserved = 0;
    }

abbrev pub refused_accept : EmbedFault → AcceptOutcome
refused_accept reason =
    record { ok = false; code = embed_fault_number reason; place = embed_fault_place reason; fresh = 0; reserved = 0 }

-- ---- what a call returned, as numbers

-- a call that makes an answer of this length
abbrev pub done_as : Result Unit EmbedFault → ℕ → CallOutcome
done_as (Ok done) length = record { ok = true; code = 0; place = 0; length = length; reserved = 0 }
done_as (Err reason) length = refused_as reason

-- a take: a repeat, or the number of the new message
abbrev pub take_as : Result Took EmbedFault → TakeOutcome
take_as (Ok took.Repeat) = record { ok = true; code = 0; is_repeat = true; place = 0; number = 0; reserved = 0 }
take_as (Ok (took.Taken n)) = record { ok = true; code = 0; is_repeat = false; place = 0; number = n; reserved = 0 }
take_as (Err reason) = refused_take reason

-- a take of many lines, with an answer of this length
abbrev pub take_lines_as : Result TakenLines EmbedFault → ℕ → LinesOutcome
take_lines_as (Ok taken) length =
    record {
      ok = true;
      code = 0;
      place = 0;
      fresh = taken.fresh;
      repeats = taken.repeats;
      refused = taken.refused;
      length = length;
      reserved = 0;
    }
take_lines_as (Err reason) length = refused_lines reason

-- an accept
abbrev pub accept_as : Result Accepted EmbedFault → AcceptOutcome
accept_as (Ok accepted) = record { ok = true; code = 0; place = 0; fresh = accepted.fresh; reserved = 0 }
accept_as (Err reason) = refused_accept reason
