-- A record by the places of its fields.
use Rattle.std.specs.Prelude.{suc, ◌≤◌, length, ◌==◌, drop, map, get_or, ◌+◌, ◌<◌}
use Rattle.std.proofs.Common.{append_assoc, arith, drop-cons, add-one, ◌≡◌, ◌∙◌, ap, sym, refl, ℕ, true, false, List, [], ◌∷◌, ◌++◌, Some, None, Result, Ok, Err}
use Rattle.std.proofs.lemmas.Bool.{ne_eqb, false≢true}
use Rattle.std.specs.List.{drop-map, slice_get}
use Rattle.std.proofs.lemmas.List.{drop_all}
use Rattle.csv.specs.Records.{field_at}
use Rattle.sct_reconcile.specs.Lists.{are_names, is_header, listed_rows_in, row_before, row_in, row_of, rows_below}
use Rattle.sct_reconcile.specs.Turns.{field_or, onto}
use Rattle.sct_reconcile.specs.declared.rows.ListedRow.{ListedRow}
use Rattle.sct_reconcile.specs.declared.fault.ReconcileFault.{ReconcileFault}
use Rattle.sct_reconcile.specs.declared.fault.ReconcileFault.TheVariants.{BadList}

abbrev at : List (List ℕ) → ℕ → List ℕ
at fields i = field_or (field_at fields i)

too_many : (a b c d f : List ℕ) (fs : List (List ℕ)) → (length (a ∷ b ∷ c ∷ d ∷ f ∷ fs) == 4) ≡ false
too_many a b c d f fs = ne_eqb _ 4 (λ e. omega (arith, e))

pub row_of_four : (fields : List (List ℕ)) → (length fields == 4) ≡ true
    → row_of fields ≡ row_in (at fields 0) (at fields 1) (at fields 2) (at fields 3)
unfolding row_of field_at
row_of_four [] e = cc e
row_of_four (a ∷ []) e = cc e
row_of_four (a ∷ b ∷ []) e = cc e
row_of_four (a ∷ b ∷ c ∷ []) e = cc e
row_of_four (a ∷ b ∷ c ∷ d ∷ []) e = refl
row_of_four (a ∷ b ∷ c ∷ d ∷ f ∷ fs) e = absurd (false≢true (sym (too_many a b c d f fs) ∙ e))

pub row_of_other : (fields : List (List ℕ)) → (length fields == 4) ≡ false → row_of fields ≡ None
unfolding row_of
row_of_other [] e = refl
row_of_other (a ∷ []) e = refl
row_of_other (a ∷ b ∷ []) e = refl
row_of_other (a ∷ b ∷ c ∷ []) e = refl
row_of_other (a ∷ b ∷ c ∷ d ∷ []) e = cc e
row_of_other (a ∷ b ∷ c ∷ d ∷ f ∷ fs) e = refl

pub header_four : (fields : List (List ℕ)) → (length fields == 4) ≡ true
    → is_header fields ≡ are_names (at fields 0) (at fields 1) (at fields 2) (at fields 3)
unfolding is_header field_at
header_four [] e = cc e
header_four (a ∷ []) e = cc e
header_four (a ∷ b ∷ []) e = cc e
header_four (a ∷ b ∷ c ∷ []) e = cc e
header_four (a ∷ b ∷ c ∷ d ∷ []) e = refl
header_four (a ∷ b ∷ c ∷ d ∷ f ∷ fs) e = absurd (false≢true (sym (too_many a b c d f fs) ∙ e))

pub header_other : (fields : List (List ℕ)) → (length fields == 4) ≡ false → is_header fields ≡ false
unfolding is_header
header_other [] e = refl
header_other (a ∷ []) e = refl
header_other (a ∷ b ∷ []) e = refl
header_other (a ∷ b ∷ c ∷ []) e = refl
header_other (a ∷ b ∷ c ∷ d ∷ []) e = cc e
header_other (a ∷ b ∷ c ∷ d ∷ f ∷ fs) e = refl

-- ---- the rows in turn

module _ {X : Type 0} (fields_in : X → List (List ℕ)) where
  pub rows_step : (all : List X) (i : ℕ) (x : X) → i < length all → x ≡ get_or all i x → rows_below (i + 1) (drop i (map fields_in all))
      ≡ row_before (row_of (fields_in x)) (i + 1) (rows_below (i + 1 + 1) (drop (i + 1) (map fields_in all)))
  unfolding rows_below
  rows_step all i x inside here =
      ap (rows_below (i + 1)) (drop-map fields_in i all ∙ ap (map fields_in) (drop-cons all i x inside))
      ∙ ap (λ (y : X). row_before (row_of (fields_in y)) (i + 1) (rows_below (i + 1 + 1) (map fields_in (drop (suc i) all)))) (sym here)
      ∙ ap (λ (n : ℕ). row_before (row_of (fields_in x)) (i + 1) (rows_below (i + 1 + 1) (map fields_in (drop n all)))) (sym (add-one i))
      ∙ ap (λ (fs : List (List (List ℕ))). row_before (row_of (fields_in x)) (i + 1) (rows_below (i + 1 + 1) fs)) (sym (drop-map fields_in (i + 1) all))

  pub rows_end : (all : List X) (i n : ℕ) → length all ≤ i → rows_below n (drop i (map fields_in all)) ≡ Ok []
  unfolding rows_below
  rows_end all i n past = ap (rows_below n) (drop-map fields_in i all ∙ ap (map fields_in) (drop_all i all past))

pub from_nothing : (rows : List ListedRow) (told : Result (List ListedRow) ReconcileFault) → rows ≡ [] → told ≡ onto rows told
from_nothing rows (Ok more) none = rw none refl
from_nothing rows (Err fault) none = refl

pub onto_more : (rows : List ListedRow) (row : ListedRow) (rest : Result (List ListedRow) ReconcileFault) (n : ℕ)
    → onto rows (row_before (Some row) n rest) ≡ onto (rows ++ row ∷ []) rest
onto_more rows row (Ok more) n = ap Ok (sym (append_assoc rows (row ∷ []) more))
onto_more rows row (Err fault) n = refl

-- ---- the list under its header

module _ {X : Type 0} (fields_in : X → List (List ℕ)) where
  pub list_empty : (all : List X) → slice_get all 0 ≡ None → listed_rows_in (map fields_in all) ≡ Err (BadList 1)
  unfolding listed_rows_in
  list_empty [] e = refl
  list_empty (x ∷ xs) e = cc e

  pub list_headless : (all : List X) (first : X) → slice_get all 0 ≡ Some first → is_header (fields_in first) ≡ false
      → listed_rows_in (map fields_in all) ≡ Err (BadList 1)
  unfolding listed_rows_in
  list_headless [] first e other = refl
  list_headless (x ∷ xs) first e other =
      let same : x ≡ first = cc e in
      rw (same, other) refl

  pub list_headed : (all : List X) (first : X) → slice_get all 0 ≡ Some first → is_header (fields_in first) ≡ true
      → listed_rows_in (map fields_in all) ≡ rows_below 2 (drop 1 (map fields_in all))
  unfolding listed_rows_in
  list_headed [] first e named = cc e
  list_headed (x ∷ xs) first e named =
      let same : x ≡ first = cc e in
      rw (same, named) refl
