-- A run whose words could not be read. Proof plumbing.
use Rattle.std.proofs.Common.{◌≡◌, ℕ, Bool, List, Option, Result, Ok, Err, refl, ap, sym, subst}
use Rattle.std.specs.Result.{IsErrAnd}
use Rattle.sct_journal.specs.declared.error.JournalError.{JournalError}
use Rattle.sct_commands.specs.declared.ending.Ending.{Ending}
use Rattle.sct_commands.specs.declared.fault.ProgramFault.{ProgramFault}
use Rattle.sct_engine.specs.Run.{IsAnsweredTo, IsAskedBy}
use Rattle.sct_commands.specs.Stream.{Streams}

-- it ends with the fault of the words, and leaves the streams as they were
pub unasked : {D : Type 0} (seen : D → List ℕ) (may_leave : D → List ℕ → Type 0) (is_clean : D → Bool) (faults : D → ℕ) (holds : List ℕ → List ℕ) (fails : List ℕ → JournalError → Type 0) (left : Option D) (gives : List ℕ → Option (List ℕ)) (failed : ℕ) (told : Result (List (List ℕ)) ProgramFault) (f : ProgramFault) (before : Streams) (ended : Result Ending ProgramFault)
    → told ≡ Err f → IsErrAnd ended (λ e. e ≡ f) → IsAnsweredTo seen may_leave is_clean faults holds fails left left gives failed failed told before before ended
unasked seen may_leave is_clean faults holds fails left gives failed told f before (Ok ending) is ends = absurd ends
unasked seen may_leave is_clean faults holds fails left gives failed told f before (Err e) is ends = record {
  asked = Err f;
  prepared = Err f;
  is_asked = subst (λ (t : Result (List (List ℕ)) ProgramFault). IsAskedBy t (Err f)) (sym is) refl;
  is_prepared = (refl, refl);
  is_answered = (ap Err ends, refl, refl);
}
