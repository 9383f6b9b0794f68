-- Messages that receipts show, one after another. Proof plumbing.
use Rattle.std.specs.Prelude.{ℕ, ◌≡◌, ◌<◌, true, List, Some}
use Rattle.std.specs.List.{slice_get}
use Rattle.std.specs.Arc.{arc_value}
use Rattle.std.specs.Global.{Global}
use Rattle.std.specs.declared.sync.Arc.{Arc}
use Rattle.sct_message.specs.declared.draft.Draft.{Draft}
use Rattle.sct_desk.specs.Passes.{Told}
use Rattle.sct_workers.specs.Kept.{is_shown}

-- the receipts show each of the first `count` messages
abbrev pub ShownTo : ℕ → List (Arc Draft Global) → List Told → Type 0
ShownTo count messages receipts =
    (at : ℕ) (message : Arc Draft Global) → at < count → slice_get messages at ≡ Some message → is_shown receipts (arc_value message) ≡ true

-- the second receipts show every message that the first ones show
abbrev pub ShowsMore : List Told → List Told → Type 0
ShowsMore before after = (message : Draft) → is_shown before message ≡ true → is_shown after message ≡ true
