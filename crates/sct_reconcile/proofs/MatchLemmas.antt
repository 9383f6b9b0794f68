-- Where all agrees, and where it does not.
use Rattle.std.specs.Prelude.{◌≢◌, nat_eq}
use Rattle.std.proofs.Common.{◌≡◌, ◌∙◌, ap, sym, refl, eq-eqb, ℕ, true, false, List, [], ◌∷◌, Option, Some, None, arith, inl, inr}
use Rattle.std.proofs.lemmas.Bool.{cases_Bool, eqb-true}
use Rattle.std.proofs.lemmas.Bool.Decides.{nat_tests}
use Rattle.sct_reconcile.specs.Words.{agrees, list_status_text}
use Rattle.sct_element.specs.Text.{is_text}
use Rattle.std.specs.Cmp.Lexicographic.{bytes_decides}
use Rattle.sct_reconcile.specs.Reports.{verdict_of, is_uninstructed, is_contradicted_word, is_listed_twice}
use Rattle.sct_reconcile.specs.Laws.{IsMatch}
use Rattle.sct_reconcile.specs.declared.rows.ListRow.{ListRow}
use Rattle.sct_case.specs.declared.words.StatusWord.{StatusWord}
use Rattle.sct_case.specs.declared.words.StatusWord.TheVariants as word
use Rattle.sct_reconcile.specs.declared.words.Verdict.TheVariants as verdict

is_two : (l m : ListRow) (rest : List ListRow) → is_listed_twice (l ∷ m ∷ rest) ≡ true
is_two l m rest = grind (arith, nat_tests)

-- a row agrees where its amount and its word do
decided : (listed : ListRow) (told : StatusWord) (amount : Option ℕ) → verdict_of (listed ∷ []) told amount ≡ verdict.Matched
    → is_contradicted_word told ≡ false → is_uninstructed told ≡ false → (amount ≡ Some listed.amount) × (agrees listed.status told ≡ true)
unfolding verdict_of
decided listed told None e a b = cc (rw (a, b) at e)
decided listed told (Some cents) e a b = elim (cases_Bool (nat_eq listed.amount cents)) [
  | inr differs ↦ cc (rw (a, b, differs) at e)
  | inl same ↦ elim (cases_Bool (agrees listed.status told)) [
    | inr differs ↦ cc (rw (a, b, same, differs) at e)
    | inl agreed ↦ (ap Some (sym (eqb-true _ _ same)), agreed)
  ]
]

one_row : (listed : ListRow) (told : StatusWord) (amount : Option ℕ) → verdict_of (listed ∷ []) told amount ≡ verdict.Matched
    → is_contradicted_word told ≡ false → is_uninstructed told ≡ false → told ≢ word.Contradicted → told ≢ word.Unknown → told ≢ word.Missing
    → IsMatch (listed ∷ []) told amount
one_row listed told amount e a b agreed known instructed =
    let same = decided listed told amount e a b in
    record {
      row = listed;
      once = refl;
      agreed = agreed;
      known = known;
      instructed = instructed;
      same_amount = same.0;
      same_word = sym ((bytes_decides _ _).0 same.1);
    }

pub is_match : (listed : List ListRow) (told : StatusWord) (amount : Option ℕ) → verdict_of listed told amount ≡ verdict.Matched → IsMatch listed told amount
unfolding verdict_of
is_match (l ∷ m ∷ rest) told amount e = cc (rw (is_two l m rest) at e)
is_match [] word.Contradicted amount e = cc e
is_match [] word.Unknown amount e = cc e
is_match [] word.Missing amount e = cc e
is_match [] word.Rejected amount e = cc e
is_match [] word.Returned amount e = cc e
is_match [] word.Accepted amount e = cc e
is_match [] word.Investigated amount e = cc e
is_match [] word.Pending amount e = cc e
is_match (l ∷ []) word.Contradicted amount e = cc e
is_match (l ∷ []) word.Unknown amount e = cc e
is_match (l ∷ []) word.Missing amount e = cc e
is_match (l ∷ []) word.Rejected amount e = one_row l word.Rejected amount e refl refl (λ d. cc d) (λ d. cc d) (λ d. cc d)
is_match (l ∷ []) word.Returned amount e = one_row l word.Returned amount e refl refl (λ d. cc d) (λ d. cc d) (λ d. cc d)
is_match (l ∷ []) word.Accepted amount e = one_row l word.Accepted amount e refl refl (λ d. cc d) (λ d. cc d) (λ d. cc d)
is_match (l ∷ []) word.Investigated amount e = one_row l word.Investigated amount e refl refl (λ d. cc d) (λ d. cc d) (λ d. cc d)
is_match (l ∷ []) word.Pending amount e = one_row l word.Pending amount e refl refl (λ d. cc d) (λ d. cc d) (λ d. cc d)

-- ---- and back

not_contradicted : (told : StatusWord) → told ≢ word.Contradicted → is_contradicted_word told ≡ false
not_contradicted word.Contradicted d = absurd (d refl)
not_contradicted word.Unknown d = refl
not_contradicted word.Missing d = refl
not_contradicted word.Rejected d = refl
not_contradicted word.Returned d = refl
not_contradicted word.Accepted d = refl
not_contradicted word.Investigated d = refl
not_contradicted word.Pending d = refl

not_uninstructed : (told : StatusWord) → told ≢ word.Unknown → told ≢ word.Missing → is_uninstructed told ≡ false
not_uninstructed word.Contradicted u m = refl
not_uninstructed word.Unknown u m = absurd (u refl)
not_uninstructed word.Missing u m = absurd (m refl)
not_uninstructed word.Rejected u m = refl
not_uninstructed word.Returned u m = refl
not_uninstructed word.Accepted u m = refl
not_uninstructed word.Investigated u m = refl
not_uninstructed word.Pending u m = refl

one_matched : (listed : ListRow) (told : StatusWord) → is_contradicted_word told ≡ false → is_uninstructed told ≡ false
    → agrees listed.status told ≡ true → verdict_of (listed ∷ []) told (Some listed.amount) ≡ verdict.Matched
unfolding verdict_of
one_matched listed told a b e = rw (a, b, eq-eqb listed.amount listed.amount refl, e) refl

pub is_matched : (listed : List ListRow) (told : StatusWord) (amount : Option ℕ) → IsMatch listed told amount → verdict_of listed told amount ≡ verdict.Matched
is_matched listed told amount m =
    ap (λ (ls : List ListRow). verdict_of ls told amount) m.once
    ∙ ap (verdict_of (m.row ∷ []) told) m.same_amount
    ∙ one_matched m.row told (not_contradicted told m.agreed) (not_uninstructed told m.known m.instructed)
    (ap (is_text (list_status_text m.row.status)) m.same_word ∙ (bytes_decides (list_status_text m.row.status) (list_status_text m.row.status)).1 refl)
