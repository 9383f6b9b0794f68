-- Messages filed under each transfer that they are on. Proof plumbing.
use Rattle.std.proofs.Common.{◌≡◌, ◌∙◌, ap, arith, ℕ, ◌+◌, ◌-◌, ◌<◌, Bool, false, cond, ◌&&◌, ◌||◌, List, [], ◌∷◌, ◌++◌, filter, take, Some}
use Rattle.std.specs.Arc.{arc_value}
use Rattle.std.specs.Global.{Global}
use Rattle.std.specs.List.{list_any, slice_get}
use Rattle.std.specs.declared.sync.Arc.{Arc}
use Rattle.std.proofs.lemmas.List.Folds.{list_any-append}
use Rattle.indexmap.specs.IndexMap.{IndexMap}
use Rattle.sct_message.specs.Keys.{transfers_of}
use Rattle.sct_message.specs.Order.{same_message, same_transfer}
use Rattle.sct_message.specs.Sets.{messages_in}
use Rattle.sct_message.specs.Transfers.{is_on}
use Rattle.sct_message.specs.declared.draft.Draft.{Draft}
use Rattle.sct_message.specs.declared.keys.TransferKey.{TransferKey}
use Rattle.sct_message.proofs.Members.{list_any-filter, list_any-map}
use Rattle.sct_set.specs.Buckets.{bucket}
use Rattle.sct_view.specs.Filed.{IsFiledBy}
use Rattle.sct_view.specs.Kept.{same_key}
use Rattle.sct_view.proofs.SetKeys.{same_key-same}
use Rattle.sct_view.proofs.SlotLemmas.{one_read}

-- the message is on the transfer by one of its first transfers, so many of them
abbrev pub on_by : ℕ → Draft → TransferKey → Bool
on_by i d t = list_any (λ k. same_transfer k t) (take i (transfers_of d))

-- some messages are filed, and one more under so many of its transfers
abbrev pub IsFiledUpTo : {S : Type 0} → ℕ → Draft → IndexMap TransferKey (List (Arc Draft Global)) S → List Draft → Type 0
IsFiledUpTo i d index ms = (t : TransferKey) (m : Draft)
    → list_any (same_message m) (messages_in (bucket same_key index t))
    ≡ (list_any (same_message m) (filter (is_on t) ms) || (on_by i d t && same_message m d))

-- one of its transfers more
on_more : (d : Draft) (i : ℕ) (k t : TransferKey) → slice_get (transfers_of d) i ≡ Some k → on_by (i + 1) d t ≡ (on_by i d t || (same_transfer k t || false))
on_more d i k t next =
    ap (list_any (λ j. same_transfer j t)) (one_read (transfers_of d) i k next) ∙ list_any-append (λ j. same_transfer j t) (take i (transfers_of d)) (k ∷ [])

module _ {S : Type 0} (d : Draft) (ms : List Draft) where
  -- none of its transfers yet
  pub filed_none : (index : IndexMap TransferKey (List (Arc Draft Global)) S) → IsFiledBy index ms → IsFiledUpTo 0 d index ms
  filed_none index filed t m = grind (arith, filed t m)

  -- all of them
  pub filed_all : (index : IndexMap TransferKey (List (Arc Draft Global)) S) (i : ℕ) → take i (transfers_of d) ≡ transfers_of d
      → IsFiledUpTo i d index ms → IsFiledBy index (ms ++ d ∷ [])
  filed_all index i all filed t m =
      let both = λ (k : Draft). is_on t k && same_message m k in
      grind (arith, filed t m, ap (list_any (λ k. same_transfer k t)) all, list_any-filter (same_message m) (is_on t) ms, list_any-filter (same_message m) (is_on t) (ms ++ d ∷ []), list_any-append both ms (d ∷ []))

  -- one more
  pub filed_one : (index later : IndexMap TransferKey (List (Arc Draft Global)) S) (i : ℕ) (k : TransferKey) (copy : Arc Draft Global)
      → slice_get (transfers_of d) i ≡ Some k → arc_value copy ≡ d
      → ((t : TransferKey) → bucket same_key later t ≡ cond (same_key k t) (bucket same_key index t ++ copy ∷ []) (bucket same_key index t))
      → IsFiledUpTo i d index ms → IsFiledUpTo (i + 1) d later ms
  filed_one index later i k copy next same made filed t m =
      let there = bucket same_key index t in
      ap (λ (found : List (Arc Draft Global)). list_any (same_message m) (messages_in found)) (made t)
      ∙ grind (arith, same, same_key-same k t, filed t m, on_more d i k t next, list_any-map (same_message m) arc_value there, list_any-map (same_message m) arc_value (there ++ copy ∷ []), list_any-append (λ x. same_message m (arc_value x)) there (copy ∷ []))

-- one more that is the one before
pub filed_again : {S : Type 0} (d : Draft) (ms : List Draft) (index : IndexMap TransferKey (List (Arc Draft Global)) S) (i : ℕ) (k : TransferKey) → 0 < i
    → slice_get (transfers_of d) (i - 1) ≡ Some k → slice_get (transfers_of d) i ≡ Some k
    → IsFiledUpTo i d index ms → IsFiledUpTo (i + 1) d index ms
filed_again d ms index i k above before next filed t m =
    let here : on_by i d t ≡ on_by (i - 1 + 1) d t = ap (λ n. on_by n d t) (omega arith) in
    grind (arith, here, filed t m, on_more d (i - 1) k t before, on_more d i k t next)
