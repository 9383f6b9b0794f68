-- The lines of the recalls so far.
use Rattle.std.proofs.Common.{◌≡◌, ◌++◌, take}
use Rattle.std.specs.Prelude.{string_bytes, flat_map}
use Rattle.sct_view.specs.StatusText.{recall_line}
use Rattle.sct_view.proofs.status_text.push_recall_lines.Given as goal

abbrev pub invariant-loop-cxl : goal.invariant-loop-cxl
invariant-loop-cxl l =
    string_bytes l.text ≡ string_bytes l.initial.text ++ flat_map (λ recall. recall_line l.transfer recall.0 recall.1) (take l.cxl-index l.recalls)
