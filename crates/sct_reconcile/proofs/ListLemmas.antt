-- Which records are a list.
use Rattle.std.specs.Prelude.{◌⊎◌, ◌+◌, length, map, if◌then◌else◌}
use Rattle.std.proofs.Common.{◌≡◌, ◌∙◌, ap, sym, refl, ℕ, Bool, true, false, List, [], ◌∷◌, ◌++◌, Option, Some, None, Result, Ok, Err, arith, inl, inr}
use Rattle.std.proofs.lemmas.Bool.{cases_Bool}
use Rattle.sct_reconcile.specs.Lists.{is_header, listed_rows_in, row_before, row_of, rows_below}
use Rattle.sct_reconcile.specs.Laws.{IsListOf, IsBadBelow, IsHeadless}
use Rattle.sct_reconcile.specs.declared.fault.ReconcileFault.{ReconcileFault}
use Rattle.sct_reconcile.specs.declared.fault.ReconcileFault.TheVariants.{BadList}
use Rattle.sct_reconcile.specs.declared.rows.ListedRow.{ListedRow}

-- ---- the rows below the header

before_cons : (o : Option ListedRow) (n : ℕ) (told : Result (List ListedRow) ReconcileFault) (rows : List ListedRow) → row_before o n told ≡ Ok rows
    → (row : ListedRow) × (more : List ListedRow) × (o ≡ Some row) × (told ≡ Ok more) × (rows ≡ row ∷ more)
before_cons None n told rows e = cc e
before_cons (Some row) n (Err fault) rows e = cc e
before_cons (Some row) n (Ok more) rows e = (row, more, refl, refl, cc)

rows_all : (records : List (List (List ℕ))) (n : ℕ) (rows : List ListedRow) → rows_below n records ≡ Ok rows → map row_of records ≡ map Some rows
unfolding rows_below
rows_all [] n rows e =
    let none : [] ≡ rows = cc e in ap (map Some) none
rows_all (r ∷ rs) n rows e =
    let parts = before_cons (row_of r) n (rows_below (n + 1) rs) rows e in
    let more = rows_all rs (n + 1) parts.1 parts.3 in
    ap (λ (o : Option ListedRow). o ∷ map row_of rs) parts.2 ∙ ap (λ (os : List (Option ListedRow)). Some parts.0 ∷ os) more ∙ ap (map Some) (sym parts.4)

all_rows : (records : List (List (List ℕ))) (n : ℕ) (rows : List ListedRow) → map row_of records ≡ map Some rows → rows_below n records ≡ Ok rows
unfolding rows_below
all_rows [] n [] e = refl
all_rows [] n (row ∷ rows) e = cc e
all_rows (r ∷ rs) n [] e = cc e
all_rows (r ∷ rs) n (row ∷ rows) e =
    let first : row_of r ≡ Some row = cc e in
    let more : map row_of rs ≡ map Some rows = cc e in
    ap (λ (o : Option ListedRow). row_before o n (rows_below (n + 1) rs)) first
    ∙ ap (row_before (Some row) n) (all_rows rs (n + 1) rows more)

-- ---- a record that is no row

before_err : (o : Option ListedRow) (n number : ℕ) (told : Result (List ListedRow) ReconcileFault) → row_before o n told ≡ Err (BadList number)
    → ((o ≡ None) × (n ≡ number)) ⊎ ((row : ListedRow) × (o ≡ Some row) × (told ≡ Err (BadList number)))
before_err None n number told e = inl (refl, cc e)
before_err (Some row) n number (Err fault) e = inr (row, refl, e)
before_err (Some row) n number (Ok more) e = cc e

-- the rows before a record that is none, and what is behind it
abbrev IsBad : List (List (List ℕ)) → ℕ → ℕ → Type 0
IsBad records n number = (before : List (List (List ℕ))) × (bad : List (List ℕ)) × (behind : List (List (List ℕ))) × (rows : List ListedRow)
    × (records ≡ before ++ bad ∷ behind) × (map row_of before ≡ map Some rows) × (row_of bad ≡ None) × (number ≡ length before + n)

bad_behind : (r : List (List ℕ)) (rs : List (List (List ℕ))) (row : ListedRow) (n number : ℕ) → row_of r ≡ Some row → IsBad rs (n + 1) number → IsBad (r ∷ rs) n number
bad_behind r rs row n number first (before, bad, behind, rows, is, good, none, counted) = (
  r ∷ before,
  bad,
  behind,
  row ∷ rows,
  ap (λ (fs : List (List (List ℕ))). r ∷ fs) is,
  ap (λ (o : Option ListedRow). o ∷ map row_of before) first ∙ ap (λ (os : List (Option ListedRow)). Some row ∷ os) good,
  none,
  omega (arith, counted),
)

first_bad : (records : List (List (List ℕ))) (n number : ℕ) → rows_below n records ≡ Err (BadList number) → IsBad records n number
unfolding rows_below
first_bad [] n number e = cc e
first_bad (r ∷ rs) n number e = elim (before_err (row_of r) n number (rows_below (n + 1) rs) e) [
  | inl here ↦ ([], r, rs, [], refl, refl, here.0, sym here.1 ∙ omega arith)
  | inr later ↦ bad_behind r rs later.0 n number later.1 (first_bad rs (n + 1) number later.2)
]

told_bad : (before : List (List (List ℕ))) (rows : List ListedRow) (bad : List (List ℕ)) (behind : List (List (List ℕ))) (n : ℕ)
    → map row_of before ≡ map Some rows → row_of bad ≡ None → rows_below n (before ++ bad ∷ behind) ≡ Err (BadList (length before + n))
unfolding rows_below
told_bad [] rows bad behind n good none = ap (λ (o : Option ListedRow). row_before o n (rows_below (n + 1) behind)) none ∙ ap (λ (m : ℕ). Err (BadList m)) (omega arith)
told_bad (r ∷ rs) [] bad behind n good none = cc good
told_bad (r ∷ rs) (row ∷ rows) bad behind n good none =
    let first : row_of r ≡ Some row = cc good in
    let more : map row_of rs ≡ map Some rows = cc good in
    ap (λ (o : Option ListedRow). row_before o n (rows_below (n + 1) (rs ++ bad ∷ behind))) first
    ∙ ap (row_before (Some row) n) (told_bad rs rows bad behind (n + 1) more none)
    ∙ ap (λ (m : ℕ). Err (BadList m)) (omega arith)

-- ---- the list

headed : (r : List (List ℕ)) (rs : List (List (List ℕ))) (b : Bool) → is_header r ≡ b → listed_rows_in (r ∷ rs) ≡ (if b then rows_below 2 rs else Err (BadList 1))
unfolding listed_rows_in
headed r rs b e = rw e refl

pub is_list : (records : List (List (List ℕ))) (rows : List ListedRow) → listed_rows_in records ≡ Ok rows → IsListOf records rows
unfolding listed_rows_in
is_list [] rows e = cc e
is_list (r ∷ rs) rows e = elim (cases_Bool (is_header r)) [
  | inl named ↦ record {
    header = r;
    below = rs;
    records_are = refl;
    header_is = named;
    rows_are = rows_all rs 2 rows (sym (headed r rs true named) ∙ e);
  }
  | inr other ↦ cc (sym (headed r rs false other) ∙ e)
]

pub list_is : (records : List (List (List ℕ))) (rows : List ListedRow) → IsListOf records rows → listed_rows_in records ≡ Ok rows
list_is records rows l = ap listed_rows_in l.records_are ∙ headed l.header l.below true l.header_is ∙ all_rows l.below 2 rows l.rows_are

bad_below : (r : List (List ℕ)) (rs : List (List (List ℕ))) (number : ℕ) → is_header r ≡ true → IsBad rs 2 number → IsBadBelow (r ∷ rs) number
bad_below r rs number named (before, bad, behind, rows, is, good, none, counted) = record {
  header = r;
  before = before;
  bad = bad;
  behind = behind;
  rows = rows;
  records_are = ap (λ (fs : List (List (List ℕ))). r ∷ fs) is;
  header_is = named;
  rows_are = good;
  bad_is = none;
  counted = counted;
}

one_is : (number : ℕ) → listed_rows_in [] ≡ Err (BadList number) → number ≡ 1
unfolding listed_rows_in
one_is number e =
    let same : BadList 1 ≡ BadList number = cc e in
    let one : 1 ≡ number = cc same in
    sym one

pub is_refused : (records : List (List (List ℕ))) (number : ℕ) → listed_rows_in records ≡ Err (BadList number)
    → ((number ≡ 1) × IsHeadless records) ⊎ IsBadBelow records number
unfolding listed_rows_in
is_refused [] number e = inl (one_is number e, tt)
is_refused (r ∷ rs) number e = elim (cases_Bool (is_header r)) [
  | inl named ↦ inr (bad_below r rs number named (first_bad rs 2 number (sym (headed r rs true named) ∙ e)))
  | inr other ↦
      let same : Err (BadList 1) ≡ Err (BadList number) = sym (headed r rs false other) ∙ e in
      let one : 1 ≡ number = cc same in
      inl (sym one, other)
]

headless_refused : (records : List (List (List ℕ))) → IsHeadless records → listed_rows_in records ≡ Err (BadList 1)
unfolding listed_rows_in
headless_refused [] headless = refl
headless_refused (r ∷ rs) other = headed r rs false other

pub refused_is : (records : List (List (List ℕ))) (number : ℕ) → ((number ≡ 1) × IsHeadless records) ⊎ IsBadBelow records number
    → listed_rows_in records ≡ Err (BadList number)
refused_is records number (inl (one, headless)) = headless_refused records headless ∙ ap (λ (m : ℕ). Err (BadList m)) (sym one)
refused_is records number (inr b) =
    ap listed_rows_in b.records_are
    ∙ headed b.header (b.before ++ b.bad ∷ b.behind) true b.header_is
    ∙ told_bad b.before b.rows b.bad b.behind 2 b.rows_are b.bad_is
    ∙ ap (λ (m : ℕ). Err (BadList m)) (sym b.counted)
