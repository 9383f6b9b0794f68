-- A text written in two parts, of which the second, or the first, may be cut off. Proof plumbing.
use Rattle.std.proofs.Common.{ℕ, ◌+◌, List, ◌++◌, Option, Some, None, Result, Ok, Err, length, take, OnErr, sym, ap, ◌∙◌, subst, append_assoc, arith}
use Rattle.std.proofs.lemmas.List.{take-append-le, length-append}
use Rattle.std.proofs.Math.Seq.{take-append-add}
use Rattle.sct_streams.specs.Stream.{AppendsIfTold, AppendsPrefixIfTold, IsCutOff, IsWritten, Output}
use Rattle.sct_streams.proofs.StreamLemmas.{appends_on, prefix_front, prefix_on}

-- both parts are written
pub both_written : (before between after : Output) (first second : List ℕ) → IsWritten before between (Some first) → IsWritten between after (Some second)
    → IsWritten before after (Some (first ++ second))
both_written before between after first second one two = record {
  none_failed = two.none_failed ∙ one.none_failed;
  whole = appends_on before.held between.held after.held first second one.whole two.whole;
}

-- the first part is cut off
pub first_cut_off : (before after : Output) (first second : List ℕ) → IsCutOff before after (Some first) → IsCutOff before after (Some (first ++ second))
first_cut_off before after first second cut = record {
  one_failed = cut.one_failed;
  prefix = prefix_front before.held after.held first second cut.prefix;
}

-- the first part is written, and the second is cut off
pub second_cut_off : (before between after : Output) (first second : List ℕ) → IsWritten before between (Some first) → IsCutOff between after (Some second)
    → IsCutOff before after (Some (first ++ second))
second_cut_off before between after first second one cut = record {
  one_failed = cut.one_failed ∙ ap (λ (n : ℕ). n + 1) one.none_failed;
  prefix = prefix_on before.held between.held after.held first second one.whole cut.prefix;
}

-- what holds holds on a refusal
pub on_err : {T E : Type 0} (result : Result T E) (P : Type 0) → P → OnErr result P
on_err (Ok done) P p = tt
on_err (Err e) P p = p

-- a fact on a refusal carries over
pub on_err_map : {T E : Type 0} (result : Result T E) (P Q : Type 0) → (P → Q) → OnErr result P → OnErr result Q
on_err_map (Ok done) P Q f p = tt
on_err_map (Err e) P Q f p = f p
