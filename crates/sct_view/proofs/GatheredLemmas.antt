-- The messages of a transfer gathered from what was kept and what is fresh, and which messages of a batch are fresh.
-- Proof plumbing.
use Rattle.std.proofs.Common.{◌≡◌, ℕ, ◌+◌, ◌<◌, true, false, List, [], ◌∷◌, ◌++◌, length, take, get_or, refl, sym, ap, ◌∙◌, filter, arith}
use Rattle.std.specs.FinSet as set
use Rattle.std.specs.FinSet.{contains-items, members}
use Rattle.std.specs.Prelude.{if◌then◌else◌}
use Rattle.std.specs.Arc.{arc_value}
use Rattle.std.specs.Global.{Global}
use Rattle.std.specs.declared.sync.Arc.{Arc}
use Rattle.std.proofs.lemmas.List.Folds.{list_any-append}
use Rattle.sct_message.specs.Ascending.{ascending}
use Rattle.sct_message.specs.Order.{message_order, same_message}
use Rattle.sct_message.specs.OrderLaws.{message_total, message_same}
use Rattle.sct_message.specs.Sets.{MessageSet, in_order, is_contradicted, messages_in}
use Rattle.sct_message.specs.Transfers.{is_on, messages_on}
use Rattle.sct_message.specs.declared.draft.Draft.{Draft}
use Rattle.sct_message.specs.declared.keys.TransferKey.{TransferKey}
use Rattle.sct_message.proofs.AscendingLemmas.{ascending-filter, ascending-same, members_ascending}
use Rattle.sct_message.proofs.Members.{tie_is}
use Rattle.sct_set.specs.Contents.{contents_of}
use Rattle.sct_set.proofs.ArchiveLemmas.{drafts_in-more}
use Rattle.sct_set.proofs.ContentsLemmas.{same_contents}
use Rattle.sct_view.specs.Changes.{Change, case_after}
use Rattle.sct_view.specs.Filed.{HasThose}
use Rattle.sct_view.specs.Kept.{contradicted_on}
use Rattle.sct_view.specs.Touched.{fresh_of}
use Rattle.sct_view.proofs.EvaluationLemmas.{among_picked}
use Rattle.sct_view.proofs.StandingLemmas.{split}
use Rattle.sct_view.proofs.TotalsLemmas.{Cases}

-- ---- gathered

-- what was kept of a transfer and what is fresh of it, in any list that has it, are in order all messages on it
pub gathered_those : (s : MessageSet) (ns : List Draft) (t : TransferKey) (on_it : List Draft) → HasThose on_it (filter (is_on t) ns)
    → ascending message_order (messages_on s t ++ contradicted_on s t ++ on_it) ≡ filter (is_on t) (in_order (set.union s (contents_of ns)))
gathered_those s ns t on_it those =
    let all = set.union s (contents_of ns) in
    ascending-same message_total message_same (messages_on s t ++ contradicted_on s t ++ on_it) (filter (is_on t) (set.items all)) (λ q.
    let parts = split (same_message q) (is_contradicted s) (in_order s) in
    let held = members_ascending message_total message_same (set.items s) q in
    grind (arith, members, message_total, those q, parts, held, contains-items s q, contains-items all q, among_picked (is_on t) q, list_any-append (same_message q)))
    ∙ ascending-filter message_total message_same (is_on t) (set.items all)

-- ---- the fresh messages of a batch

-- no message is fresh in an empty batch
pub fresh_none : (held : MessageSet) → fresh_of held (contents_of []) ≡ set.empty
fresh_none held = same_contents _ _ (λ d. grind (arith, members, message_total))

-- one message more in the batch is fresh where it is not held
fresh_push : (held : MessageSet) (ds : List Draft) (m : Draft) → (if set.contains held m then fresh_of held (contents_of ds) else set.insert (fresh_of held (contents_of ds)) m)
    ≡ fresh_of held (contents_of (ds ++ m ∷ []))
fresh_push held ds m =
    let before = fresh_of held (contents_of ds) in
    let same = λ (d : Draft) (e : same_message d m ≡ true). ap (set.contains held) (tie_is message_total message_same d m e) in
    elim (set.contains held m) as (λ b. set.contains held m ≡ b → (if b then before else set.insert before m) ≡ fresh_of held (contents_of (ds ++ m ∷ []))) [
      | true ↦ λ is. same_contents _ _ (λ d. grind (arith, members, message_total, is, same d, list_any-append (same_message d) ds (m ∷ [])))
      | false ↦ λ is. same_contents _ _ (λ d. grind (arith, members, message_total, is, same d, list_any-append (same_message d) ds (m ∷ [])))
    ] refl

-- ---- changes

-- tables that keep the same keep the same after the same changes
pub case_after-alike : (changes : List Change) (old new : Cases) → ((k : TransferKey) → new k ≡ old k) → (t : TransferKey)
    → case_after changes new t ≡ case_after changes old t
case_after-alike changes old new same t = λ i. case_after changes (λ k. same k i) t

-- the fresh messages up to one more
pub fresh_step : (held f : MessageSet) (ms : List (Arc Draft Global)) (i : ℕ) (m : Arc Draft Global) → i < length ms
    → m ≡ get_or ms i m → f ≡ fresh_of held (contents_of (messages_in (take i ms)))
    → (if set.contains held (arc_value m) then f else set.insert f (arc_value m)) ≡ fresh_of held (contents_of (messages_in (take (i + 1) ms)))
fresh_step held f ms i m below is so_far =
    ap (λ (g : MessageSet). if set.contains held (arc_value m) then g else set.insert g (arc_value m)) so_far
    ∙ fresh_push held (messages_in (take i ms)) (arc_value m)
    ∙ ap (λ (ds : List Draft). fresh_of held (contents_of ds)) (sym (drafts_in-more ms i m below is))
