-- What two batches touch, one after the other and together. Proof plumbing.
use Rattle.std.proofs.Common.{◌≡◌, Bool, not, ◌&&◌, ◌||◌, List, ◌++◌, sym, ap, ◌∙◌, filter, arith}
use Rattle.std.specs.FinSet as set
use Rattle.std.specs.FinSet.{contains-items, members}
use Rattle.std.specs.List.{flat_map, list_any}
use Rattle.std.proofs.lemmas.List.Concat.{flat_map-append}
use Rattle.std.proofs.lemmas.List.Folds.{list_any-append}
use Rattle.sct_message.specs.Keys.{transfers_of}
use Rattle.sct_message.specs.Order.{same_message, same_transfer}
use Rattle.sct_message.specs.OrderLaws.{message_total, message_same, transfer_total, transfers_same}
use Rattle.sct_message.specs.Sets.{MessageSet, is_contradicted}
use Rattle.sct_message.specs.declared.draft.Draft.{Draft}
use Rattle.sct_message.specs.declared.keys.TransferKey.{TransferKey}
use Rattle.sct_message.proofs.AscendingLemmas.{any_ascending, ascending-same, ascending-sorted, ascending_rises}
use Rattle.sct_message.proofs.Members.{same_any}
use Rattle.sct_message.proofs.Tests.{any_flat_map}
use Rattle.sct_view.specs.Touched.{TouchesAddUp, fresh_of, is_newly_contradicted, touched_by, touched_in}
use Rattle.sct_view.proofs.EvaluationLemmas.{among_picked, contradicted_in_union}
use Rattle.sct_view.proofs.TouchedLemmas.{union-fresh}

-- the messages whose transfers a batch touches: its fresh ones, and those held that it newly contradicts
abbrev touching : MessageSet → MessageSet → List Draft
touching held batch =
    set.items (fresh_of held batch) ++ filter (is_newly_contradicted held (fresh_of held batch)) (set.items held)

-- whether a message is one of them
abbrev is_touching : MessageSet → MessageSet → Draft → Bool
is_touching held batch m =
    (set.contains batch m && not (set.contains held m))
    || (set.contains held m && (is_contradicted batch m && not (is_contradicted held m)))

touching-is : (held batch : MessageSet) (m : Draft) → list_any (same_message m) (touching held batch) ≡ is_touching held batch m
touching-is held batch m =
    let fresh = fresh_of held batch in
    let contradicted = ap (λ (later : MessageSet). is_contradicted later m) (union-fresh held batch) ∙ contradicted_in_union held batch m in
    list_any-append (same_message m) (set.items fresh) (filter (is_newly_contradicted held fresh) (set.items held))
    ∙ grind (arith, members, message_total, contains-items fresh m, contains-items held m, among_picked (is_newly_contradicted held fresh) m (set.items held), contradicted)

-- two batches in turn have the same touching messages as both together
touching_in_turn : (held one other : MessageSet) (m : Draft)
    → list_any (same_message m) (touching held (set.union one other))
    ≡ list_any (same_message m) (touching held one ++ touching (set.union held one) other)
touching_in_turn held one other m =
    let later = set.union held one in
    touching-is held (set.union one other) m
    ∙ grind (arith, members, message_total, contradicted_in_union held one m, contradicted_in_union one other m)
    ∙ sym (list_any-append (same_message m) (touching held one) (touching later other) ∙ (λ i. touching-is held one m i || touching-is later other m i))

-- a transfer is touched if a touching message is on it
module _ (q : TransferKey) where
  abbrev at : Draft → Bool
  at m = list_any (same_transfer q) (transfers_of m)

  touched-at : (held batch : MessageSet) → list_any (same_transfer q) (touched_in held batch) ≡ list_any at (touching held batch)
  unfolding touched_by
  touched-at held batch =
      let fresh = set.items (fresh_of held batch) in
      let newly = filter (is_newly_contradicted held (fresh_of held batch)) (set.items held) in
      any_ascending transfer_total transfers_same (same_transfer q) (flat_map transfers_of fresh ++ flat_map transfers_of newly)
      ∙ ap (list_any (same_transfer q)) (sym (flat_map-append transfers_of fresh newly))
      ∙ any_flat_map (same_transfer q) transfers_of (touching held batch)

  touched_in_turn : (held one other : MessageSet)
      → list_any (same_transfer q) (touched_in held (set.union one other))
      ≡ list_any (same_transfer q) (touched_in held one ++ touched_in (set.union held one) other)
  touched_in_turn held one other =
      let later = set.union held one in
      touched-at held (set.union one other)
      ∙ same_any message_total message_same at (touching held (set.union one other)) (touching held one ++ touching later other) (touching_in_turn held one other)
      ∙ list_any-append at (touching held one) (touching later other)
      ∙ sym (list_any-append (same_transfer q) (touched_in held one) (touched_in later other) ∙ (λ i. touched-at held one i || touched-at later other i))

pub touches_add_up : TouchesAddUp
unfolding touched_by
touches_add_up held one other =
    sym (ascending-sorted transfer_total transfers_same (touched_in held (set.union one other)) (ascending_rises transfer_total transfers_same _))
    ∙ ascending-same transfer_total transfers_same (touched_in held (set.union one other)) (touched_in held one ++ touched_in (set.union held one) other)
    (λ q. touched_in_turn q held one other)
