-- Proof plumbing: a recall that is named twice is found among neighbours of a sorted list.
use Rattle.std.specs.Prelude.{◌||◌, Bool, false, List, [], ◌∷◌}
use Rattle.sct_message.specs.declared.draft.RecallTx.{RecallTx}
use Rattle.sct_message.specs.Recalls.{have_same_recall}

-- a transaction and the next one make the same recall of the same transfer
abbrev pub recalls_next : RecallTx → List RecallTx → Bool
recalls_next tx [] = false
recalls_next tx (next ∷ others) = have_same_recall tx next

-- two neighbours make the same recall of the same transfer
abbrev pub repeats_next : List RecallTx → Bool
repeats_next [] = false
repeats_next (tx ∷ txs) = recalls_next tx txs || repeats_next txs
