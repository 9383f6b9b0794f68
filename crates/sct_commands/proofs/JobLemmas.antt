-- What was written of the answer of a job, by the bytes that its input had left. Proof plumbing.
use Rattle.std.proofs.Common.{◌≡◌, ℕ, ◌≤◌, ◌⊎◌, List, [], length, Option, Some, None, option_map, sym, ap, ◌∙◌, subst, inl, inr}
use Rattle.std.specs.Prelude.{IfSome, string_bytes}
use Rattle.sct_set.specs.Pieces.{joined}
use Rattle.sct_streams.specs.Stream.{Input, Output, IsCutOff, IsWritten}
use Rattle.sct_commands.specs.Engine.{job_text_if_told, job_text_of, refused_of, told_of, told_text_if_told, AreCutOff, IsAnswerOf, IsDone, IsInputOf, IsReadWhole}
use Rattle.sct_commands.specs.Stream.{Streams}
use Rattle.sct_commands.specs.declared.answers.ProgramAnswer.{ProgramAnswer}
use Rattle.sct_commands.specs.declared.jobs.Job.{Job}

-- ---- the bytes left, if they are known, are the input

-- what holds of the input holds of them
of_left : (left : Option (List ℕ)) (input : List ℕ) (P : List ℕ → Type 0) (Q : Type 0) → IfSome left (λ bytes. (bytes ≡ input) × Q) → P input → IfSome left P
of_left None input P Q is p = tt
of_left (Some bytes) input P Q is p = subst P (sym is.0) p

within_left : (left : Option (List ℕ)) (input : List ℕ) (limit : ℕ) (Q : Type 0) → IfSome left (λ bytes. (bytes ≡ input) × Q) → length input ≤ limit
    → IfSome left (λ bytes. (length bytes ≤ limit) × Q)
within_left None input limit Q is within = tt
within_left (Some bytes) input limit Q is within = (subst (λ (i : List ℕ). length i ≤ limit) (sym is.0) within, is.1)

written_left : (left : Option (List ℕ)) (input text : List ℕ) (f : List ℕ → List ℕ) (Q : Type 0) (before after : Output) → IfSome left (λ bytes. (bytes ≡ input) × Q)
    → text ≡ f input → IsWritten before after (Some text) → IsWritten before after (option_map f left)
written_left None input text f Q before after is same all = record { none_failed = all.none_failed; whole = tt }
written_left (Some bytes) input text f Q before after is same all = subst (λ t. IsWritten before after (Some t)) (same ∙ ap f (sym is.0)) all

cut_off_left : (left : Option (List ℕ)) (input text : List ℕ) (f : List ℕ → List ℕ) (Q : Type 0) (before after : Output) → IfSome left (λ bytes. (bytes ≡ input) × Q)
    → text ≡ f input → IsCutOff before after (Some text) → IsCutOff before after (option_map f left)
cut_off_left None input text f Q before after is same cut = record { one_failed = cut.one_failed; prefix = tt }
cut_off_left (Some bytes) input text f Q before after is same cut = subst (λ t. IsCutOff before after (Some t)) (same ∙ ap f (sym is.0)) cut

-- ---- the answer

told_left : (work : Job) (limit : ℕ) (before after : Input) (answer : ProgramAnswer) (err err_now : Output) → IsAnswerOf work limit before after answer
    → IsWritten err err_now (Some (string_bytes answer.refusals)) → IsWritten err err_now (told_text_if_told work before.left)
told_left work limit before after answer err err_now is all =
    written_left before.left is.input (string_bytes answer.refusals) (told_of work) (after.left ≡ Some []) err err_now is.whole is.told all

text_left : (work : Job) (limit : ℕ) (before after : Input) (answer : ProgramAnswer) (out out_now : Output) → IsAnswerOf work limit before after answer
    → IsWritten out out_now (Some (joined answer.pieces.items)) → IsWritten out out_now (job_text_if_told work before.left)
text_left work limit before after answer out out_now is all =
    written_left before.left is.input (joined answer.pieces.items) (job_text_of work) (after.left ≡ Some []) out out_now is.whole is.text all

-- the input was read whole
pub read_whole : (work : Job) (limit : ℕ) (before after : Input) (answer : ProgramAnswer) → IsAnswerOf work limit before after answer → IsReadWhole limit before after
read_whole work limit before after answer is = within_left before.left is.input limit (after.left ≡ Some []) is.whole is.within

-- the answer was written, and the job is done
pub is_done : (work : Job) (limit : ℕ) (before after : Streams) (answer : ProgramAnswer) (refused : ℕ) → IsAnswerOf work limit before.input after.input answer
    → IsWritten before.err after.err (Some (string_bytes answer.refusals)) → IsWritten before.out after.out (Some (joined answer.pieces.items))
    → refused ≡ answer.refused → IsDone work limit before after refused
is_done work limit before after answer refused is told text count = record {
  read = read_whole work limit before.input after.input answer is;
  none_failed = is.none_failed;
  taken = of_left before.input.left is.input (IsInputOf work) (after.input.left ≡ Some []) is.whole is.taken;
  told = told_left work limit before.input after.input answer before.err after.err is told;
  text = text_left work limit before.input after.input answer before.out after.out is text;
  count = of_left before.input.left is.input (λ (input : List ℕ). refused ≡ refused_of work input) (after.input.left ≡ Some []) is.whole (count ∙ is.count);
}

-- a write of it failed
pub are_cut_off : (work : Job) (limit : ℕ) (before after : Input) (answer : ProgramAnswer) (err err_now out out_now : Output) → IsAnswerOf work limit before after answer
    → AreCutOff err err_now out out_now (Some (string_bytes answer.refusals)) (Some (joined answer.pieces.items))
    → AreCutOff err err_now out out_now (told_text_if_told work before.left) (job_text_if_told work before.left)
are_cut_off work limit before after answer err err_now out out_now is (inl cut) =
    inl (cut_off_left before.left is.input (string_bytes answer.refusals) (told_of work) (after.left ≡ Some []) err err_now is.whole is.told cut.0, cut.1)
are_cut_off work limit before after answer err err_now out out_now is (inr cut) = inr (
  told_left work limit before after answer err err_now is cut.0,
  cut_off_left before.left is.input (joined answer.pieces.items) (job_text_of work) (after.left ≡ Some []) out out_now is.whole is.text cut.1,
)

-- the text is written after what is refused
pub in_order : (work : Job) (limit : ℕ) (before after : Input) (answer : ProgramAnswer) (err err_now : Output) (P : Type 0) → IsAnswerOf work limit before after answer
    → P ⊎ IsWritten err err_now (Some (string_bytes answer.refusals)) → P ⊎ IsWritten err err_now (told_text_if_told work before.left)
in_order work limit before after answer err err_now P is (inl p) = inl p
in_order work limit before after answer err err_now P is (inr all) = inr (told_left work limit before after answer err err_now is all)
