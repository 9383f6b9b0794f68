-- Proof plumbing: reasons and codes correspond. Each reason is read from its text and from no other text.
use Rattle.std.proofs.Common.{◌≡◌, ◌∙◌, refl, ap, sym, subst, ℕ, List, [], ◌∷◌, Option, Some, None, ◌&&◌, ◌||◌, Bool, true, false, not, if◌then◌else◌}
use Rattle.std.specs.Prelude.{◌↔◌, find}
use Rattle.std.specs.Option.{is_some}
use Rattle.std.specs.List.{list_any}
use Rattle.std.specs.Ordering.{is_eq, eq_by_cmp}
use Rattle.std.specs.declared.cmp.Ordering.{Ordering}
use Rattle.std.specs.declared.cmp.Ordering.TheVariants.{Less, Equal, Greater}
use Rattle.std.specs.Cmp.{IsTotalOrder, on_total}
use Rattle.std.specs.Cmp.Lexicographic.{nat_list_cmp_total}
use Rattle.std.specs.FinSet.{IsAntisymmetric, nat_cmp-IsAntisymmetric, slice_cmp-IsAntisymmetric}
use Rattle.std.proofs.lemmas.Bool.{and_parts, and_left, or_parts}
use Rattle.std.proofs.Props.{props}
use Rattle.std.proofs.lemmas.Slice.Eq.{bytes_eq-Decides}
use Rattle.sct_element.specs.Identification.{written_code}
use Rattle.sct_reason.specs.declared.other.OtherCode.{OtherCode}
use Rattle.sct_reason.specs.declared.reasons.Reason.{Reason}
use Rattle.sct_reason.specs.declared.reasons.Reason.TheVariants.{Unlisted}
use Rattle.sct_element.specs.Text.{is_text}
use Rattle.sct_reason.specs.Listed.{is_listed, is_other_code}
use Rattle.sct_reason.specs.Codes.{reason_text, listed}
use Rattle.sct_reason.specs.Reasons.{listed_reason, other_where, other_of, unlisted, or_else, reason_of, reason_order}

-- ---- looking something up in a list

-- the first item found passes the test, whether it is the head of the list or a later item
chosen : {X : Type 0} (p : X → Bool) (y x : X) (rest : Option X) (passes : Bool) → p y ≡ passes
    → (rest ≡ Some x → p x ≡ true)
    → (if passes then Some y else rest) ≡ Some x → p x ≡ true
chosen p y x rest true h later e = let same : y ≡ x = cc in subst (λ z. p z ≡ true) same h
chosen p y x rest false h later e = later e

found_passes : {X : Type 0} (p : X → Bool) (xs : List X) (x : X) → find p xs ≡ Some x → p x ≡ true
found_passes p [] x e = cc
found_passes p (y ∷ ys) x e = chosen p y x (find p ys) (p y) refl (found_passes p ys x) e

-- if nothing is found, nothing passes the test
none_chosen : {X : Type 0} (y : X) (rest : Option X) (passes any : Bool) → (rest ≡ None → any ≡ false)
    → (if passes then Some y else rest) ≡ None → (passes || any) ≡ false
none_chosen y rest true any later e = cc
none_chosen y rest false any later e = later e

none_passes : {X : Type 0} (p : X → Bool) (xs : List X) → find p xs ≡ None → list_any p xs ≡ false
none_passes p [] e = refl
none_passes p (y ∷ ys) e = none_chosen y (find p ys) (p y) (list_any p ys) (none_passes p ys) e

not_found : {X : Type 0} (p : X → Bool) (xs : List X) → list_any p xs ≡ false → find p xs ≡ None
not_found p [] e = refl
not_found p (y ∷ ys) e =
    let parts : (p y ≡ false) × (list_any p ys ≡ false) = or_parts _ _ e in
    ap (λ (passes : Bool). if passes then Some y else find p ys) parts.0 ∙ not_found p ys parts.1

-- whether one is found is whether any passes the test
found_or_later : {X : Type 0} (y : X) (rest : Option X) (passes any : Bool) → is_some rest ≡ any
    → is_some (if passes then Some y else rest) ≡ (passes || any)
found_or_later y rest true any later = refl
found_or_later y rest false any later = later

found_where_any : {X : Type 0} (p : X → Bool) (xs : List X) → is_some (find p xs) ≡ list_any p xs
found_where_any p [] = refl
found_where_any p (y ∷ ys) = found_or_later y (find p ys) (p y) (list_any p ys) (found_where_any p ys)

-- ---- listed codes

pub found_is_listed : (s : List ℕ) → is_some (listed_reason s) ≡ is_listed s
unfolding listed_reason is_listed
found_is_listed s = found_where_any (λ (q : Reason). is_text s (reason_text q)) listed

listed_has_text : (s : List ℕ) (r : Reason) → listed_reason s ≡ Some r → reason_text r ≡ s
unfolding listed_reason
listed_has_text s r e =
    sym ((bytes_eq-Decides s (reason_text r)).0 (found_passes (λ (q : Reason). is_text s (reason_text q)) listed r e))

not_listed_where_unfound : (s : List ℕ) → listed_reason s ≡ None → is_listed s ≡ false
unfolding listed_reason is_listed
not_listed_where_unfound s e = none_passes (λ (q : Reason). is_text s (reason_text q)) listed e

unfound_where_not_listed : (s : List ℕ) → is_listed s ≡ false → listed_reason s ≡ None
unfolding listed_reason is_listed
unfound_where_not_listed s h = not_found (λ (q : Reason). is_text s (reason_text q)) listed h

text_is_code : (r : Reason) → is_some (written_code (reason_text r)) ≡ true
unfolding written_code is_other_code
text_is_code (Unlisted other) = (and_parts _ _ other.other).0
text_is_code r = refl

-- ---- other codes

abbrev pub other_code : (s : List ℕ) → is_other_code s ≡ true → OtherCode
other_code s h = record { code = s; other = h }

-- two other codes of one text are equal: the proofs in them do not count
same_proof : (s : List ℕ) (p q : is_other_code s ≡ true) → other_code s p ≡ other_code s q
same_proof s p q =
    let one : IsProp (is_other_code s ≡ true) = hlevel props in λ i. record { code = s; other = one p q i }

pub same_code : (s t : List ℕ) (p : is_other_code s ≡ true) (q : is_other_code t ≡ true) → s ≡ t
    → other_code s p ≡ other_code t q
same_code s t p q e =
    subst (λ u. (h : is_other_code u ≡ true) → other_code s p ≡ other_code u h) e (same_proof s p) q

other_where_some : (s : List ℕ) (other : Bool) (e : is_other_code s ≡ other) (h : is_other_code s ≡ true)
    → other_where s other e ≡ Some (other_code s h)
other_where_some s true e h = ap (λ (o : OtherCode). Some o) (same_proof s e h)
other_where_some s false e h = cc

other_where_none : (s : List ℕ) (other : Bool) (e : is_other_code s ≡ other) → is_other_code s ≡ false
    → other_where s other e ≡ None
other_where_none s true e h = cc
other_where_none s false e h = refl

other_where_text : (s : List ℕ) (other : Bool) (e : is_other_code s ≡ other) (o : OtherCode)
    → other_where s other e ≡ Some o → o.code ≡ s
other_where_text s true e o h =
    let same : other_code s e ≡ o = cc in sym (ap (λ (c : OtherCode). c.code) same)
other_where_text s false e o h = cc

other_where_absent : (s : List ℕ) (other : Bool) (e : is_other_code s ≡ other) → other_where s other e ≡ None
    → is_other_code s ≡ false
other_where_absent s true e h = cc
other_where_absent s false e h = e

pub other_some : (s : List ℕ) (h : is_other_code s ≡ true) → other_of s ≡ Some (other_code s h)
unfolding other_of
other_some s h = other_where_some s (is_other_code s) refl h

pub other_none : (s : List ℕ) → is_other_code s ≡ false → other_of s ≡ None
unfolding other_of
other_none s h = other_where_none s (is_other_code s) refl h

other_text : (s : List ℕ) (o : OtherCode) → other_of s ≡ Some o → o.code ≡ s
unfolding other_of
other_text s o h = other_where_text s (is_other_code s) refl o h

other_absent : (s : List ℕ) → other_of s ≡ None → is_other_code s ≡ false
unfolding other_of
other_absent s h = other_where_absent s (is_other_code s) refl h

not_listed : (b : Bool) → not b ≡ true → b ≡ false
not_listed true h = cc
not_listed false h = refl

-- ---- the laws

-- the reason that a text is read as, by the listed reason and the other code of that text
read_by : (s : List ℕ) (found : Option Reason) (other : Option OtherCode) → listed_reason s ≡ found
    → other_of s ≡ other → reason_of s ≡ or_else found (unlisted other)
unfolding reason_of
read_by s found other e f = (λ i. or_else (e i) (unlisted (f i)))

read_other : (s : List ℕ) (h : is_other_code s ≡ true) → reason_of s ≡ Some (Unlisted (other_code s h))
unfolding is_other_code
read_other s h =
    let parts : (is_some (written_code s) ≡ true) × (not (is_listed s) ≡ true) = and_parts _ _ h in
    read_by s None (Some (other_code s h)) (unfound_where_not_listed s (not_listed _ parts.1)) (other_some s h)

pub text_is_read : (r : Reason) → reason_of (reason_text r) ≡ Some r
unfolding reason_of listed_reason
text_is_read (Unlisted other) = read_other other.code other.other
text_is_read r = refl

text_by : (s : List ℕ) (r : Reason) (found : Option Reason) (other : Option OtherCode)
    → listed_reason s ≡ found → other_of s ≡ other
    → or_else found (unlisted other) ≡ Some r → reason_text r ≡ s
text_by s r (Some q) other e f h = let same : q ≡ r = cc in ap reason_text (sym same) ∙ listed_has_text s q e
text_by s r None (Some o) e f h =
    let same : Unlisted o ≡ r = cc in ap reason_text (sym same) ∙ other_text s o f
text_by s r None None e f h = cc

pub read_is_text : (s : List ℕ) (r : Reason) → reason_of s ≡ Some r → reason_text r ≡ s
unfolding reason_of
read_is_text s r e = text_by s r (listed_reason s) (other_of s) refl refl e

no_code : (c : Option (List ℕ)) (b : Bool) → (is_some c && not b) ≡ false → b ≡ false → c ≡ None
no_code None b h e = refl
no_code (Some t) b h e = cc

none_by : (s : List ℕ) (found : Option Reason) (other : Option OtherCode) → listed_reason s ≡ found
    → other_of s ≡ other
    → or_else found (unlisted other) ≡ None → written_code s ≡ None
unfolding is_other_code
none_by s (Some q) other e f h = cc
none_by s None (Some o) e f h = cc
none_by s None None e f h =
    no_code (written_code s) (is_listed s) (other_absent s f) (not_listed_where_unfound s e)

none_where_no_code : (s : List ℕ) (found : Option Reason) → listed_reason s ≡ found → written_code s ≡ None
    → reason_of s ≡ None
unfolding is_other_code
none_where_no_code s None e h =
    read_by s None None e (other_none s (and_left _ _ (ap (λ (c : Option (List ℕ)). is_some c) h)))
none_where_no_code s (Some q) e h =
    let none : is_some (written_code s) ≡ false = ap (λ (c : Option (List ℕ)). is_some c) h in
    let some : is_some (written_code s) ≡ true =
    subst (λ (t : List ℕ). is_some (written_code t) ≡ true) (listed_has_text s q e) (text_is_code q) in
    cc

pub no_code_no_reason : (s : List ℕ) → (reason_of s ≡ None) ↔ (written_code s ≡ None)
unfolding reason_of
no_code_no_reason s =
    (none_by s (listed_reason s) (other_of s) refl refl, none_where_no_code s (listed_reason s) refl)

inside : {q r : Reason} → Some q ≡ Some r → q ≡ r
inside e = cc

pub same_text : (a b : Reason) → reason_text a ≡ reason_text b → a ≡ b
same_text a b e = inside (sym (text_is_read a) ∙ ap reason_of e ∙ text_is_read b)

pub reasons_same : IsAntisymmetric reason_order
reasons_same a b e = same_text a b (slice_cmp-IsAntisymmetric nat_cmp-IsAntisymmetric _ _ e)

pub reason_total : IsTotalOrder reason_order
reason_total = on_total reason_text nat_list_cmp_total

is_eq_Equal : (r : Ordering) → is_eq r ≡ true → r ≡ Equal
is_eq_Equal Less e = cc
is_eq_Equal Equal e = refl
is_eq_Equal Greater e = cc

-- a function of reasons has equal values for two that compare Equal
pub same_input : {X : Type 0} (told : Reason → X) (a b : Reason) → eq_by_cmp reason_order a b ≡ true
    → told a ≡ told b
same_input told a b e = ap told (reasons_same a b (is_eq_Equal (reason_order a b) e))
