-- The walk along a list stops at the first element that is no object, or no transaction.
use Rattle.std.proofs.Common.{◌≡◌, ◌∙◌, ap, sym, subst, refl, arith, ℕ, zero, suc, ◌+◌, ◌<◌, Bool, true, false, cond, List, ◌∷◌, Option, Some, None, is_some, Result, Ok, Err}
use Rattle.std.proofs.lemmas.Bool.{false≢true}
use Rattle.serde_json.specs.Data.{Data, null, boolean, number, string, array, object, Items, no_items, item}
use Rattle.serde_json.specs.Find.{get_item, as_object}
use Rattle.sct_message.specs.declared.draft.RecallTx.{RecallTx}
use Rattle.sct_json.specs.declared.faults.JsonFault.{JsonFault}
use Rattle.sct_json.specs.Faults.{placed}
use Rattle.sct_json.specs.Reading.{◌>>=◌, items_list, first_no_object, element_in, at_place, elements_in}
use Rattle.sct_json.specs.Places.{IsObject, IsSomeTransaction}
use Rattle.sct_json.proofs.Names.{same_value}
use Rattle.sct_json.proofs.RecallForms.{element_holds}

-- each element before a place has the property
abbrev pub Earlier : (Data → Type 0) → Items → ℕ → Type 0
Earlier Has items before = (n : ℕ) (other : Data) → n < before → get_item n items ≡ Some other → Has other

none_earlier : (Has : Data → Type 0) (items : Items) → Earlier Has items 0
none_earlier Has items n other less there = absurd (omega (arith, less))

one_earlier : (Has : Data → Type 0) (d : Data) (ds : Items) (before : ℕ) → Has d → Earlier Has ds before → Earlier Has (item d ds) (suc before)
one_earlier Has d ds before here later zero other less there = subst Has (same_value d other there) here
one_earlier Has d ds before here later (suc n) other less there = later n other (omega (arith, less)) there

-- ---- the first that is no object

-- the first element without the property, where the first element has the place that is given
pub record IsFirstFrom (Has : Data → Type 0) (items : Items) (first place : ℕ) : Type 0 where
  pub before : ℕ
  pub is_place : place ≡ before + first
  pub element : Data
  pub stands : get_item before items ≡ Some element
  pub lacks : Has element → ⊥
  pub earlier : Earlier Has items before

some_object : (d : Data) → is_some (as_object d) ≡ true → IsObject d
some_object null e = absurd (false≢true e)
some_object (boolean b) e = absurd (false≢true e)
some_object (number n) e = absurd (false≢true e)
some_object (string s) e = absurd (false≢true e)
some_object (array ds) e = absurd (false≢true e)
some_object (object ms) e = (ms, refl)

no_object : (d : Data) → is_some (as_object d) ≡ false → IsObject d → ⊥
no_object d e h = false≢true (sym e ∙ ap (λ (v : Data). is_some (as_object v)) h.1)

same_place : (m n : ℕ) → ◌≡◌ {A = Option ℕ} (Some m) (Some n) → m ≡ n
same_place m n e = cc

first_at : (b : Bool) (first : ℕ) (d : Data) (ds : Items) (place : ℕ) → is_some (as_object d) ≡ b → cond b (first_no_object (first + 1) (items_list ds)) (Some first) ≡ Some place
    → (first_no_object (first + 1) (items_list ds) ≡ Some place → IsFirstFrom IsObject ds (first + 1) place) → IsFirstFrom IsObject (item d ds) first place
first_at true first d ds place is e next = let later : IsFirstFrom IsObject ds (first + 1) place = next e in let at = later.is_place in record {
  before = suc later.before;
  is_place = omega (arith, at);
  element = later.element;
  stands = later.stands;
  lacks = later.lacks;
  earlier = one_earlier IsObject d ds later.before (some_object d is) later.earlier;
}
first_at false first d ds place is e next = let same = same_place first place e in record {
  before = 0;
  is_place = omega (arith, same);
  element = d;
  stands = refl;
  lacks = no_object d is;
  earlier = none_earlier IsObject (item d ds);
}

pub first_is_no_object : (first : ℕ) (items : Items) (place : ℕ) → first_no_object first (items_list items) ≡ Some place → IsFirstFrom IsObject items first place
first_is_no_object first no_items place e = cc
first_is_no_object first (item d ds) place e = first_at (is_some (as_object d)) first d ds place refl e (first_is_no_object (first + 1) ds place)

object_at : (b : Bool) (first : ℕ) (d : Data) (ds : Items) (n : ℕ) (element : Data) → is_some (as_object d) ≡ b → cond b (first_no_object (first + 1) (items_list ds)) (Some first) ≡ None
    → get_item n (item d ds) ≡ Some element → (first_no_object (first + 1) (items_list ds) ≡ None → (m : ℕ) → get_item m ds ≡ Some element → IsObject element) → IsObject element
object_at true first d ds zero element is e there next = subst IsObject (same_value d element there) (some_object d is)
object_at true first d ds (suc n) element is e there next = next e n there
object_at false first d ds n element is e there next = cc

pub each_is_object : (first : ℕ) (items : Items) → first_no_object first (items_list items) ≡ None → (n : ℕ) (element : Data) → get_item n items ≡ Some element → IsObject element
each_is_object first no_items e n element there = cc
each_is_object first (item d ds) e n element there = object_at (is_some (as_object d)) first d ds n element refl e there (λ later m at. each_is_object (first + 1) ds later m element at)

-- ---- the first that is refused

-- the fault is that of the first element that is no transaction, where the first element has the place that is given
pub record IsRefusedAt (items : Items) (first : ℕ) (e : JsonFault) : Type 0 where
  pub before : ℕ
  pub element : Data
  pub stands : get_item before items ≡ Some element
  pub why : JsonFault
  pub refused : element_in element ≡ Err why
  pub is_placed : e ≡ placed (before + first) why
  pub earlier : Earlier IsSomeTransaction items before

fault_same : (e f : JsonFault) → ◌≡◌ {A = Result (List RecallTx) JsonFault} (Err e) (Err f) → e ≡ f
fault_same e f same = cc

rest_refused : (r : Result (List RecallTx) JsonFault) (tx : RecallTx) (e : JsonFault) → (r >>= λ txs. Ok (tx ∷ txs)) ≡ Err e → r ≡ Err e
rest_refused (Ok txs) tx e told = cc
rest_refused (Err f) tx e told = told

refused_at : (r : Result RecallTx JsonFault) (first : ℕ) (d : Data) (ds : Items) (e : JsonFault) → element_in d ≡ r
    → (at_place first r >>= λ tx. elements_in (first + 1) (items_list ds) >>= λ txs. Ok (tx ∷ txs)) ≡ Err e
    → (elements_in (first + 1) (items_list ds) ≡ Err e → IsRefusedAt ds (first + 1) e) → IsRefusedAt (item d ds) first e
refused_at (Ok tx) first d ds e read told next =
    let later : IsRefusedAt ds (first + 1) e = next (rest_refused (elements_in (first + 1) (items_list ds)) tx e told) in record {
      before = suc later.before;
      element = later.element;
      stands = later.stands;
      why = later.why;
      refused = later.refused;
      is_placed = later.is_placed ∙ ap (λ (place : ℕ). placed place later.why) (omega arith);
      earlier = one_earlier IsSomeTransaction d ds later.before (tx, element_holds d tx read) later.earlier;
    }
refused_at (Err why) first d ds e refused told next = record {
  before = 0;
  element = d;
  stands = refl;
  why = why;
  refused = refused;
  is_placed = sym (fault_same (placed first why) e told) ∙ ap (λ (place : ℕ). placed place why) (omega arith);
  earlier = none_earlier IsSomeTransaction (item d ds);
}

pub first_is_refused : (first : ℕ) (items : Items) (e : JsonFault) → elements_in first (items_list items) ≡ Err e → IsRefusedAt items first e
first_is_refused first no_items e told = cc
first_is_refused first (item d ds) e told = refused_at (element_in d) first d ds e refl told (first_is_refused (first + 1) ds e)
