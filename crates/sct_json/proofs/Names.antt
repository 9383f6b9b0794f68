-- The names of an object ascend by their bytes, in what is read and in what is written, and the first extra one is the least.
use Rattle.std.proofs.Common.{◌≡◌, ◌∙◌, ap, sym, subst, refl, inl, inr, ℕ, Bool, true, false, cond, List, Option, Some, None, option_map, Ordering, Less, Equal, Greater, nat_cmp}
use Rattle.std.specs.Prelude.{not, find, is_some, option_and_then, ◌⊎◌}
use Rattle.std.specs.List.{AllByRecursion}
use Rattle.std.specs.List.Sorted.{IsStrictlySortedBy}
use Rattle.std.specs.Ordering.{match_ordering, ordering_reverse}
use Rattle.std.specs.Cmp.Lexicographic.{slice_cmp, nat_list_cmp_total}
use Rattle.std.proofs.lemmas.Bool.{false≢true, not-true}
use Rattle.std.proofs.lemmas.Cmp.{tied_itself}
use Rattle.json.specs.Json as json
use Rattle.json.specs.Lex.{tokens}
use Rattle.serde_json.specs.Data.{Data, number, array, object, Items, no_items, item, Members, no_members, member, put}
use Rattle.serde_json.specs.Find.{get_member}
use Rattle.serde_json.specs.Read.{read, max_depth, of_json, of_items, of_members, number_of}
use Rattle.sct_json.specs.declared.keys.Shape.{Shape}
use Rattle.sct_json.specs.Keys.{is_key_in}
use Rattle.sct_json.specs.Reading.{names_of, first_extra}
use Rattle.sct_message.specs.CellsBack.{texts_same}
use Rattle.sct_json.specs.Names.{IsBefore, AscendByBytes, NamesAscend, NamesAscendInItems, NamesAscendInMembers, IsLeastExtraKey}
use Rattle.sct_json.proofs.Rows.{kept_put}

abbrev by_bytes : List ℕ → List ℕ → Ordering
by_bytes = slice_cmp nat_cmp

abbrev Ascend : Members → Type 0
Ascend ms = AscendByBytes (names_of ms)

abbrev AllNames : (List ℕ → Type 0) → Members → Type 0
AllNames P ms = AllByRecursion P (names_of ms)

-- ---- a member that is put

all_put : (P : List ℕ → Type 0) (k : List ℕ) (d : Data) (ms : Members) → P k → AllNames P ms → AllNames P (put k d ms)
all_put P k d ms here all =
    kept_put (AllNames P) (λ name _. P name)
    (record { none = tt; both = λ l e ns h rest. (h, rest); parts = λ l e ns h. h; mixed = λ j l e f h there. there }) k d here ms all

all_later : (k l : List ℕ) (ms : Members) → IsBefore k l → AllNames (λ y. IsBefore l y) ms → AllNames (λ y. IsBefore k y) ms
all_later k l no_members before all = tt
all_later k l (member n e ms) before all = (nat_list_cmp_total.trans k l n before all.0, all_later k l ms before all.1)

ascend_at : (o : Ordering) (k l : List ℕ) (d e : Data) (ms : Members) → by_bytes k l ≡ o → Ascend (member l e ms) → Ascend (put k d ms)
    → Ascend (match_ordering o (member k d (member l e ms)) (member l d ms) (member l e (put k d ms)))
unfolding IsStrictlySortedBy
ascend_at Less k l d e ms before all later = ((before, all_later k l ms before all.0), all)
ascend_at Equal k l d e ms same all later = all
ascend_at Greater k l d e ms after all later =
    let before : IsBefore l k = nat_list_cmp_total.antisymm l k ∙ ap ordering_reverse after in
    (all_put (λ y. IsBefore l y) k d ms before all.0, later)

names_put : (k : List ℕ) (d : Data) (ms : Members) → Ascend ms → Ascend (put k d ms)
unfolding IsStrictlySortedBy
names_put k d no_members all = (tt, tt)
names_put k d (member l e ms) all = ascend_at (by_bytes k l) k l d e ms refl all (names_put k d ms all.1)

-- ---- each value in an object

within_put : (k : List ℕ) (d : Data) (ms : Members) → NamesAscend d → NamesAscendInMembers ms → NamesAscendInMembers (put k d ms)
within_put k d ms here all =
    kept_put NamesAscendInMembers (λ _ value. NamesAscend value)
    (record { none = tt; both = λ l e ns h rest. (h, rest); parts = λ l e ns h. h; mixed = λ j l e f h there. h }) k d here ms all

pub ascend_none : NamesAscend (object no_members)
unfolding IsStrictlySortedBy
ascend_none = (tt, tt)

pub ascend_put : (k : List ℕ) (d : Data) (ms : Members) → NamesAscend d → NamesAscend (object ms) → NamesAscend (object (put k d ms))
ascend_put k d ms here all = (names_put k d ms all.0, within_put k d ms here all.1)

-- ---- what is read

mapped : {X Y : Type 0} (P : Y → Type 0) (f : X → Y) (o : Option X) (y : Y) → option_map f o ≡ Some y → ((x : X) → o ≡ Some x → P (f x)) → P y
mapped P f None y e next = cc
mapped P f (Some x) y e next = let same : f x ≡ y = cc in subst P same (next x refl)

some_then : {X Y P : Type 0} (o : Option X) (f : X → Option Y) (y : Y) → option_and_then f o ≡ Some y → ((x : X) → o ≡ Some x → f x ≡ Some y → P) → P
some_then None f y e next = cc
some_then (Some x) f y e next = next x refl e

same_members : (ms ns : Members) → ◌≡◌ {A = Option Members} (Some ms) (Some ns) → ms ≡ ns
same_members ms ns e = cc

same_items : (ds es : Items) → ◌≡◌ {A = Option Items} (Some ds) (Some es) → ds ≡ es
same_items ds es e = cc

pub same_value : (d e : Data) → ◌≡◌ {A = Option Data} (Some d) (Some e) → d ≡ e
same_value d e same = cc

-- the members of a text go in one after another
mutual
  ascend_value : (j : json.Json) (d : Data) → of_json j ≡ Some d → NamesAscend d
  ascend_value json.null d e = subst NamesAscend (same_value _ d e) tt
  ascend_value (json.boolean b) d e = subst NamesAscend (same_value _ d e) tt
  ascend_value (json.number s) d e = mapped NamesAscend number (number_of s) d e (λ n h. tt)
  ascend_value (json.string s) d e = subst NamesAscend (same_value _ d e) tt
  ascend_value (json.array js) d e = mapped NamesAscend array (of_items js) d e (λ ds h. ascend_items js ds h)
  ascend_value (json.object js) d e = mapped NamesAscend object (of_members js no_members) d e (λ ms h. ascend_members js no_members ms h ascend_none)

  ascend_items : (js : json.Items) (ds : Items) → of_items js ≡ Some ds → NamesAscendInItems ds
  ascend_items json.no_items ds e = subst NamesAscendInItems (same_items no_items ds e) tt
  ascend_items (json.item j js) ds e =
      some_then (of_json j) (λ d. option_map (item d) (of_items js)) ds e (λ d h r.
      mapped NamesAscendInItems (item d) (of_items js) ds r (λ more g. (ascend_value j d h, ascend_items js more g)))

  ascend_members : (js : json.Members) (found ms : Members) → of_members js found ≡ Some ms → NamesAscend (object found) → NamesAscend (object ms)
  ascend_members json.no_members found ms e all = subst (λ (l : Members). NamesAscend (object l)) (same_members found ms e) all
  ascend_members (json.member k j js) found ms e all =
      some_then (of_json j) (λ d. of_members js (put k d found)) ms e (λ d h r.
      ascend_members js (put k d found) ms r (ascend_put k d found (ascend_value j d h) all))

pub names_read : (bytes : List ℕ) (d : Data) → read bytes ≡ Some d → NamesAscend d
names_read bytes d e =
    some_then (option_and_then (λ p. json.if_last p.0 p.1) (json.value max_depth (tokens bytes))) of_json d e (λ j h r. ascend_value j d r)

-- ---- the first extra name

-- what is found at a name stands there, or behind the first member
found_at : {G : Type 0} (o : Ordering) (k l : List ℕ) (e : Data) (r : Option Data) → by_bytes k l ≡ o → is_some (match_ordering o r (Some e) r) ≡ true
    → (k ≡ l → G) → (is_some r ≡ true → G) → G
found_at Less k l e r o h here later = later h
found_at Equal k l e r o h here later = here (texts_same k l o)
found_at Greater k l e r o h here later = later h

at_name : (P : List ℕ → Type 0) (k : List ℕ) (ms : Members) → AllNames P ms → is_some (get_member k ms) ≡ true → P k
at_name P k no_members all h = absurd (false≢true h)
at_name P k (member l e ms) all h =
    found_at (by_bytes k l) k l e (get_member k ms) refl h (λ same. subst P (sym same) all.0) (λ later. at_name P k ms all.1 later)

stands_first : (l : List ℕ) (e : Data) (ms : Members) → is_some (get_member l (member l e ms)) ≡ true
stands_first l e ms = ap (λ (o : Ordering). is_some (match_ordering o (get_member l ms) (Some e) (get_member l ms))) (tied_itself nat_list_cmp_total l)

stands_later : (o : Ordering) (e : Data) (r : Option Data) → is_some r ≡ true → is_some (match_ordering o r (Some e) r) ≡ true
stands_later Less e r h = h
stands_later Equal e r h = refl
stands_later Greater e r h = h

record IsLeast (p : List ℕ → Bool) (ms : Members) (name : List ℕ) : Type 0 where
  stands : is_some (get_member name ms) ≡ true
  passes : p name ≡ true
  least : (other : List ℕ) → is_some (get_member other ms) ≡ true → p other ≡ true → (name ≡ other) ⊎ IsBefore name other

least_here : (p : List ℕ → Bool) (l : List ℕ) (e : Data) (ms : Members) → Ascend (member l e ms) → p l ≡ true → IsLeast p (member l e ms) l
unfolding IsStrictlySortedBy
least_here p l e ms all passes = record {
  stands = stands_first l e ms;
  passes = passes;
  least = λ other at q. found_at (by_bytes other l) other l e (get_member other ms) refl at (λ same. inl (sym same)) (λ later. inr (at_name (λ y. IsBefore l y) other ms all.0 later));
}

least_later : (p : List ℕ → Bool) (l : List ℕ) (e : Data) (ms : Members) (name : List ℕ) → p l ≡ false → IsLeast p ms name → IsLeast p (member l e ms) name
least_later p l e ms name fails h = record {
  stands = stands_later (by_bytes name l) e (get_member name ms) h.stands;
  passes = h.passes;
  least = λ other at q. found_at (by_bytes other l) other l e (get_member other ms) refl at (λ same. absurd (false≢true (sym fails ∙ sym (ap p same) ∙ q))) (λ later. h.least other later q);
}

same_some : (k l : List ℕ) → ◌≡◌ {A = Option (List ℕ)} (Some k) (Some l) → k ≡ l
same_some k l e = cc

least_at : (b : Bool) (p : List ℕ → Bool) (l : List ℕ) (e : Data) (ms : Members) (name : List ℕ) → Ascend (member l e ms) → p l ≡ b → cond b (Some l) (find p (names_of ms)) ≡ Some name
    → (find p (names_of ms) ≡ Some name → IsLeast p ms name) → IsLeast p (member l e ms) name
least_at true p l e ms name all passes h next = subst (λ (k : List ℕ). IsLeast p (member l e ms) k) (same_some l name h) (least_here p l e ms all passes)
least_at false p l e ms name all fails h next = least_later p l e ms name fails (next h)

first_is_least_of : (p : List ℕ → Bool) (ms : Members) (name : List ℕ) → Ascend ms → find p (names_of ms) ≡ Some name → IsLeast p ms name
unfolding IsStrictlySortedBy
first_is_least_of p no_members name all h = cc
first_is_least_of p (member l e ms) name all h = least_at (p l) p l e ms name all refl h (first_is_least_of p ms name all.1)

pub first_is_least : (shape : Shape) (ms : Members) (name : List ℕ) → AscendByBytes (names_of ms) → first_extra shape ms ≡ Some name → IsLeastExtraKey shape ms name
first_is_least shape ms name all h =
    let least : IsLeast (λ k. not (is_key_in shape k)) ms name = first_is_least_of (λ k. not (is_key_in shape k)) ms name all h in record {
      is_extra = record { stands = least.stands; extra = not-true (is_key_in shape name) least.passes };
      is_least = λ other extra. least.least other extra.stands (ap not extra.extra);
    }
