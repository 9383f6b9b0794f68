-- The parts of the text.
use Rattle.std.proofs.Common.{◌∙◌, ap, ◌++◌, List, ℕ, codes}
use Rattle.sct_delta.proofs.GroupWritingLemmas.{whole_written}
use Rattle.sct_delta.proofs.text.writing.text_of_entries.Goals as goal

pub returns-clause-written : goal.returns-clause-written
returns-clause-written c =
    whole_written _ _ _ _ c.args.entries.now
    (c.in_ok-extend_from_slice.ensures.items ∙ ap (λ (t : List ℕ). t ++ codes "delta 2\n") c.new-text.ensures.items)
    c.in_ok-push_entries.ensures.written (c.as_bytes.ensures.value ∙ c.in_ok-end.ensures) c.in_ok-extend_from_slice-2.ensures.items
