-- What filing a row does to the rows of each transfer.
use Rattle.std.specs.Prelude.{map, filter, length, get_or, take, ◌+◌, ◌<◌, ℕ}
use Rattle.std.proofs.Common.{◌≡◌, ◌∙◌, ap, sym, subst, refl, Bool, true, false, cond, List, [], ◌∷◌, ◌++◌}
use Rattle.std.proofs.lemmas.List.{append-nil, map-append, take_more as longer}
use Rattle.std.proofs.lemmas.List.Elements.{filter-append}
use Rattle.indexmap.specs.IndexMap.{IndexMap}
use Rattle.sct_message.specs.Order.{same_transfer}
use Rattle.sct_message.specs.declared.keys.TransferKey.{TransferKey}
use Rattle.sct_set.specs.Buckets.{bucket}
use Rattle.sct_reconcile.specs.Filed.{IsFiled}
use Rattle.sct_reconcile.specs.Reports.{listed_on}
use Rattle.sct_reconcile.specs.declared.rows.ListRow.{ListRow}
use Rattle.sct_reconcile.specs.declared.rows.ListedRow.{ListedRow}

-- a row more
listed_more : (rows : List ListedRow) (row : ListedRow) (key : TransferKey)
    → listed_on (rows ++ row ∷ []) key ≡ cond (same_transfer row.key key) (listed_on rows key ++ row.listed ∷ []) (listed_on rows key)
listed_more rows row key =
    ap (map (λ (r : ListedRow). r.listed)) (filter-append (λ (r : ListedRow). same_transfer r.key key) rows (row ∷ []))
    ∙ map-append (λ (r : ListedRow). r.listed) (filter (λ (r : ListedRow). same_transfer r.key key) rows) (filter (λ (r : ListedRow). same_transfer r.key key) (row ∷ []))
    ∙ elim (same_transfer row.key key) as (λ b. listed_on rows key ++ map (λ (r : ListedRow). r.listed) (cond b (row ∷ []) []) ≡ cond b (listed_on rows key ++ row.listed ∷ []) (listed_on rows key)) [
      | true ↦ refl
      | false ↦ append-nil (listed_on rows key)
    ]

-- an item more in front
pub take_more : {X : Type 0} (xs : List X) (i : ℕ) (x : X) → i < length xs → x ≡ get_or xs i x → take i xs ++ x ∷ [] ≡ take (i + 1) xs
take_more xs i x inside here = ap (λ y. take i xs ++ y ∷ []) here ∙ sym (longer xs i x inside)

-- a map compares its keys by a test that answers as the one of the definition does
module _ (E : TransferKey → TransferKey → Bool) (ties : (j k : TransferKey) → E j k ≡ same_transfer j k) where
  is_same : E ≡ same_transfer
  is_same = λ n j k. ties j k n

  pub filed_more : {S : Type 0} (old new : IndexMap TransferKey (List ListRow) S) (rows : List ListedRow) (row : ListedRow) → IsFiled old rows
      → ((k : TransferKey) → bucket E new k ≡ cond (E row.key k) (bucket E old k ++ row.listed ∷ []) (bucket E old k))
      → IsFiled new (rows ++ row ∷ [])
  filed_more old new rows row was became = λ k.
      subst (λ (T : TransferKey → TransferKey → Bool). bucket T new k ≡ cond (T row.key k) (bucket T old k ++ row.listed ∷ []) (bucket T old k)) is_same (became k)
      ∙ ap (λ (b : List ListRow). cond (same_transfer row.key k) (b ++ row.listed ∷ []) b) (was k)
      ∙ sym (listed_more rows row k)

  pub filed_at : {S : Type 0} (index : IndexMap TransferKey (List ListRow) S) (rows : List ListedRow) (key : TransferKey) → IsFiled index rows
      → bucket E index key ≡ listed_on rows key
  filed_at index rows key filed = ap (λ (T : TransferKey → TransferKey → Bool). bucket T index key) is_same ∙ filed key
