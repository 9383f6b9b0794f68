-- The written text is a form of the delta.
use Rattle.std.proofs.Common.{inr}
use Rattle.sct_delta.specs.DeltaText.{IsDeltaText}
use Rattle.sct_delta.proofs.DeltaLemmas.{read_from_form}
use Rattle.sct_delta.proofs.GroupWritingLemmas.{written_is_form}
use Rattle.sct_delta.proofs.text.writing.write_delta.Goals as goal

written_form : (c : goal.In_ok-text) → IsDeltaText c.in_ok-text.text.items c.args.delta.now
written_form c =
    rw (c.in_ok-text.ensures.written, ← c.entries.ensures.entries)
    (inr (written_is_form c.entries.result.now c.in_ok-text.ensures.few c.entries.ensures.shape c.in_ok-text.ensures.reads_back))

pub returns-clause-form : goal.returns-clause-form
returns-clause-form c = written_form c

pub returns-clause-reads_back : goal.returns-clause-reads_back
returns-clause-reads_back c = read_from_form _ _ (written_form c)
