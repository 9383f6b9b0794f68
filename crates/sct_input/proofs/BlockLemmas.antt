-- The bytes taken so far of a source, and what is read of them. Proof plumbing.
use Rattle.std.proofs.Common.{ℕ, ◌≡◌, ◌+◌, ◌<◌, ◌≤◌, ◌++◌, [], List, Option, None, Some, length, drop, refl, sym, ap, subst, ◌∙◌, arith, append_assoc, length-append, take, take-append-drop}
use Rattle.std.specs.Prelude.{IfErr, IfSome, Result, Ok, Err}
use Rattle.std.proofs.lemmas.List.{append-nil, drop-drop}
use Rattle.std.proofs.Math.Seq.{drop_at}
use Rattle.sct_streams.specs.Stream.{HasReadIfTold, HasTakenIfTold}
use Rattle.sct_streams.specs.Whole.{EndsAppending, EndsReading, HasAppended}
use Rattle.sct_streams.specs.declared.whole.ReadFault.{ReadFault}
use Rattle.sct_streams.specs.declared.whole.ReadFault.TheVariants.{TooLong, Failed, Memory}
use Rattle.sct_streams.proofs.StreamLemmas.{end_on, read_on}
use Rattle.sct_lines.specs.Blocks.{IsReadOf}
use Rattle.sct_lines.specs.declared.intake.Intake.{Intake}
use Rattle.sct_lines.specs.LineLaws.{with_last_feed, IsOfWholeLines}
use Rattle.sct_lines.specs.Lines.{lines_of}
use Rattle.sct_lines.proofs.PartLemmas.{ended_whole, few_lines, lines_join}
use Rattle.sct_input.specs.Inputs.{IsIntake}

-- bytes that are read are taken
taken_if_read : (before after : Option (List ℕ)) (bytes : List ℕ) → HasReadIfTold before after bytes → HasTakenIfTold before after (length bytes)
taken_if_read None after bytes read = tt
taken_if_read (Some left) after bytes read = (
  omega (arith, ap length read.1.0, length-append bytes read.0),
  read.1.1 ∙ ap Some (sym (ap (drop (length bytes)) read.1.0 ∙ drop_at bytes read.0 (length bytes) refl)),
)

-- bytes are read, and then some are taken
taken_on : (before between after : Option (List ℕ)) (bytes : List ℕ) (n : ℕ) → HasReadIfTold before between bytes → HasTakenIfTold between after n
    → HasTakenIfTold before after (length bytes + n)
taken_on None between after bytes n first second = tt
taken_on (Some left) between after bytes n first second =
    let then : HasTakenIfTold (Some first.0) after n = subst (λ b. HasTakenIfTold b after n) first.1.1 second in
    let rest : drop (length bytes) left ≡ first.0 = ap (drop (length bytes)) first.1.0 ∙ drop_at bytes first.0 (length bytes) refl in (
      omega (arith, then.0, ap length first.1.0, length-append bytes first.0),
      then.1 ∙ ap Some (sym (sym (drop-drop n (length bytes) left) ∙ ap (drop n) rest)),
    )

whole_of : (before after : Option (List ℕ)) (bytes : List ℕ) → HasReadIfTold before after bytes → IfSome before (λ _. after ≡ Some [])
    → IfSome before (λ left. (left ≡ bytes) × (after ≡ Some []))
whole_of None after bytes read end = tt
whole_of (Some left) after bytes read end =
    let none : read.0 ≡ [] = cc in
    (read.1.0 ∙ ap (λ r. bytes ++ r) none ∙ append-nil bytes, end)

-- ---- the bytes taken so far

-- what was taken of a source: a text of whole lines that was read, and the rest, which is kept
pub record HasTaken (total : ℕ) (before now : Option (List ℕ)) (rest text : List ℕ) : Type 0 where
  pub taken : HasReadIfTold before now (text ++ rest)
  pub whole : IsOfWholeLines text
  pub count : length text + length rest ≡ total

pub appended : (total count sum : ℕ) (before now after : Option (List ℕ)) (rest grown text : List ℕ) → HasTaken total before now rest text
    → HasAppended count rest grown now after → sum ≡ total + count → HasTaken sum before after grown text
appended total count sum before now after rest grown text so_far more is = record {
  taken =
      subst (λ t. HasReadIfTold before after t) (append_assoc text rest more.more ∙ ap (λ t. text ++ t) (sym more.bytes))
      (read_on before now after (text ++ rest) more.more so_far.taken more.read);
  whole = so_far.whole;
  count = omega (arith, is, so_far.count, more.count, ap length more.bytes, length-append rest more.more);
}

-- the lines that were read and the bytes that are kept are no more than the bytes taken
pub few_taken : (total : ℕ) (before now : Option (List ℕ)) (rest text : List ℕ) → HasTaken total before now rest text
    → length (lines_of text) + length rest ≤ total
few_taken total before now rest text so_far = omega (arith, so_far.count, few_lines text)

-- more lines are read, and no byte is lost
pub lines_taken : (total : ℕ) (before now : Option (List ℕ)) (rest left text read : List ℕ) → HasTaken total before now rest text
    → IsOfWholeLines read → read ++ left ≡ text ++ rest → HasTaken total before now left read
lines_taken total before now rest left text read so_far whole same = record {
  taken = subst (λ t. HasReadIfTold before now t) (sym same) so_far.taken;
  whole = whole;
  count = omega (arith, so_far.count, ap length same, length-append read left, length-append text rest);
}

-- whole lines behind whatever text make whole lines
pub whole_on : (text block read : List ℕ) → IsOfWholeLines block → read ≡ with_last_feed text ++ block → IsOfWholeLines read
whole_on text block read whole is = subst IsOfWholeLines (sym is) (lines_join (with_last_feed text) block (ended_whole text) whole)

-- the front of the bytes is read, and the others are left
pub bytes_on : (text block read bytes left : List ℕ) (count : ℕ) → block ≡ take count bytes → left ≡ drop count bytes → read ≡ text ++ block
    → read ++ left ≡ text ++ bytes
bytes_on text block read bytes left count front rest is =
    ap (λ t. t ++ left) is ∙ append_assoc text block left ∙ ap (λ t. text ++ t) ((λ i. front i ++ rest i) ∙ take-append-drop count bytes)

pub past_limit : (total : ℕ) (before now : Option (List ℕ)) (rest text : List ℕ) → HasTaken total before now rest text
    → HasTakenIfTold before now total
past_limit total before now rest text so_far =
    subst (λ n. HasTakenIfTold before now n) (length-append text rest ∙ so_far.count) (taken_if_read before now (text ++ rest) so_far.taken)

-- a read failed behind the bytes taken
failed_after : (total limit most : ℕ) (before now after : Option (List ℕ)) (rest text : List ℕ) → HasTaken total before now rest text
    → total + most ≤ limit + 1 → (n : ℕ) × ((n < most) × HasTakenIfTold now after n) → (n : ℕ) × ((n ≤ limit) × HasTakenIfTold before after n)
failed_after total limit most before now after rest text so_far within failed = (
  length (text ++ rest) + failed.0,
  (
    omega (arith, within, failed.1.0, so_far.count, length-append text rest),
    taken_on before now after (text ++ rest) failed.0 so_far.taken failed.1.1,
  ),
)

-- the meaning of a fault that ended a read, behind the bytes taken
pub ends_after : (fault : ReadFault) (total limit most : ℕ) (before now after : Option (List ℕ)) (rest text : List ℕ) → HasTaken total before now rest text
    → total + most ≤ limit + 1 → EndsAppending fault most now after → EndsReading fault limit before after
ends_after TooLong total limit most before now after rest text so_far within ended = absurd ended
ends_after Failed total limit most before now after rest text so_far within ended = failed_after total limit most before now after rest text so_far within ended
ends_after Memory total limit most before now after rest text so_far within ended = tt

-- what holds of a fault holds of a result that is this fault
pub of_fault : {T : Type 0} (P : ReadFault → Type 0) (result : Result T ReadFault) (fault : ReadFault) → IfErr result (λ e. e ≡ fault) → P fault → IfErr result P
of_fault P (Ok value) fault is holds = tt
of_fault P (Err e) fault is holds = subst P (sym is) holds

-- the whole input was taken, and its last line is read
pub all_read : (total sum limit : ℕ) (before now after : Option (List ℕ)) (rest last text all : List ℕ) (intake : Intake) → HasTaken total before now rest text
    → HasTaken sum before after last text → sum ≤ limit → IfSome now (λ _. after ≡ Some []) → all ≡ text ++ last → IsReadOf all intake
    → IsIntake limit before after intake
all_read total sum limit before now after rest last text all intake so_far now_taken within end is read = record {
  input = text ++ last;
  within = omega (arith, within, now_taken.count, length-append text last);
  whole = whole_of before after (text ++ last) now_taken.taken (end_on before now after (text ++ rest) so_far.taken end);
  read = subst (λ t. IsReadOf t intake) is read;
}
