-- A walk along names beside keys, both ascending by bytes, stops at the first name that is no key.
use Rattle.std.proofs.Common.{◌≡◌, ◌∙◌, ap, sym, refl, ℕ, Bool, true, false, cond, List, [], ◌∷◌, map, Option, Some, None, Ordering, Less, Equal, Greater, nat_cmp, is_eq, is_lt, String, Global, string_bytes}
use Rattle.std.specs.Prelude.{◌||◌, find, not}
use Rattle.std.specs.List.{AllByRecursion}
use Rattle.std.specs.List.Sorted.{IsStrictlySortedBy}
use Rattle.std.specs.Ordering.{ordering_reverse}
use Rattle.std.specs.Cmp.Lexicographic.{slice_cmp, texts_ties, nat_list_cmp_total}
use Rattle.sct_element.specs.Text.{is_text}
use Rattle.sct_message.proofs.Tests.{or_false}
use Rattle.sct_json.specs.declared.keys.Key.{Key}
use Rattle.sct_json.specs.KeyLookups.{keys_from, is_first}
use Rattle.sct_json.specs.Keys.{key_text, is_key_among}
use Rattle.sct_json.specs.Names.{IsBefore, AscendByBytes}

abbrev by_bytes : List ℕ → List ℕ → Ordering
by_bytes = slice_cmp nat_cmp

-- the first name that is not the first of what is left of the keys from it
abbrev pub walk : List Key → List (String Global) → Option (String Global)
walk keys [] = None
walk keys (name ∷ names) =
    cond (is_first (string_bytes name) (keys_from (string_bytes name) keys)) (walk (keys_from (string_bytes name) keys) names) (Some name)

-- ---- what is left of the keys

reversed_alike : (o : Ordering) → is_eq (ordering_reverse o) ≡ is_eq o
reversed_alike Less = refl
reversed_alike Equal = refl
reversed_alike Greater = refl

at_key : (o : Ordering) (name key : List ℕ) → by_bytes key name ≡ o → is_text name key ≡ is_eq o
at_key o name key e = texts_ties name key ∙ ap is_eq (nat_list_cmp_total.antisymm name key) ∙ ap (λ (r : Ordering). is_eq (ordering_reverse r)) e ∙ reversed_alike o

among_at : (o : Ordering) (name later : List ℕ) (key : Key) (keys : List Key) → by_bytes (key_text key) name ≡ o → (IsBefore (key_text key) name → IsBefore (key_text key) later)
    → is_key_among (keys_from name keys) later ≡ is_key_among keys later → is_key_among (cond (is_lt o) (keys_from name keys) (key ∷ keys)) later ≡ is_key_among (key ∷ keys) later
unfolding is_key_among
among_at Less name later key keys e before rest = rest ∙ ap (λ (b : Bool). b || is_key_among keys later) (sym (at_key Less later (key_text key) (before e)))
among_at Equal name later key keys e before rest = refl
among_at Greater name later key keys e before rest = refl

-- no key is passed that is a later name
among_left : (name later : List ℕ) (keys : List Key) → ((key : List ℕ) → IsBefore key name → IsBefore key later) → is_key_among (keys_from name keys) later ≡ is_key_among keys later
unfolding is_key_among
among_left name later [] before = refl
among_left name later (key ∷ keys) before =
    among_at (by_bytes (key_text key) name) name later key keys refl (before (key_text key)) (among_left name later keys before)

ascend_at : (b : Bool) (name : List ℕ) (key : Key) (keys : List Key) → AscendByBytes (map key_text (key ∷ keys)) → AscendByBytes (map key_text (keys_from name keys))
    → AscendByBytes (map key_text (cond b (keys_from name keys) (key ∷ keys)))
ascend_at true name key keys all later = later
ascend_at false name key keys all later = all

ascend_left : (name : List ℕ) (keys : List Key) → AscendByBytes (map key_text keys) → AscendByBytes (map key_text (keys_from name keys))
unfolding IsStrictlySortedBy
ascend_left name [] all = tt
ascend_left name (key ∷ keys) all = ascend_at (is_lt (by_bytes (key_text key) name)) name key keys all (ascend_left name keys all.1)

none_behind : (name key : List ℕ) (keys : List Key) → IsBefore name key → AllByRecursion (λ later. IsBefore key later) (map key_text keys) → is_key_among keys name ≡ false
unfolding is_key_among
none_behind name key [] before all = refl
none_behind name key (later ∷ keys) before all =
    let no : is_text name (key_text later) ≡ false = texts_ties name (key_text later) ∙ ap is_eq (nat_list_cmp_total.trans name key (key_text later) before all.0) in
    ap (λ (b : Bool). b || is_key_among keys name) no ∙ none_behind name key keys before all.1

first_at : (o : Ordering) (name : List ℕ) (key : Key) (keys : List Key) → by_bytes (key_text key) name ≡ o → AscendByBytes (map key_text (key ∷ keys))
    → is_first name (keys_from name keys) ≡ is_key_among (keys_from name keys) name
    → is_first name (cond (is_lt o) (keys_from name keys) (key ∷ keys)) ≡ is_key_among (cond (is_lt o) (keys_from name keys) (key ∷ keys)) name
unfolding is_key_among IsStrictlySortedBy
first_at Less name key keys e all later = later
first_at Equal name key keys e all later =
    let same : is_text name (key_text key) ≡ true = at_key Equal name (key_text key) e in same ∙ ap (λ (b : Bool). b || is_key_among keys name) (sym same)
first_at Greater name key keys e all later =
    let before : IsBefore name (key_text key) = nat_list_cmp_total.antisymm name (key_text key) ∙ ap ordering_reverse e in
    sym (ap (λ (b : Bool). is_text name (key_text key) || b) (none_behind name (key_text key) keys before all.0) ∙ or_false (is_text name (key_text key)))

-- where the name is a key, that key stands first in what is left
first_where_among : (name : List ℕ) (keys : List Key) → AscendByBytes (map key_text keys) → is_first name (keys_from name keys) ≡ is_key_among (keys_from name keys) name
unfolding is_key_among IsStrictlySortedBy
first_where_among name [] all = refl
first_where_among name (key ∷ keys) all = first_at (by_bytes (key_text key) name) name key keys refl all (first_where_among name keys all.1)

-- ---- the walk

abbrev AreAlike : (List ℕ → Bool) → List Key → List (String Global) → Type 0
AreAlike is_key keys names = AllByRecursion (λ name. is_key_among keys (string_bytes name) ≡ is_key (string_bytes name)) names

alike_left : (is_key : List ℕ → Bool) (keys : List Key) (name : List ℕ) (names : List (String Global)) → AllByRecursion (λ (later : String Global). IsBefore name (string_bytes later)) names
    → AreAlike is_key keys names → AreAlike is_key (keys_from name keys) names
alike_left is_key keys name [] before alike = tt
alike_left is_key keys name (later ∷ names) before alike =
    let passed : (key : List ℕ) → IsBefore key name → IsBefore key (string_bytes later) = λ key h. nat_list_cmp_total.trans key name (string_bytes later) h before.0 in
    (among_left name (string_bytes later) keys passed ∙ alike.0, alike_left is_key keys name names before.1 alike.1)

chosen : (b c : Bool) (name : String Global) (r s : Option (String Global)) → b ≡ c → r ≡ s → cond b r (Some name) ≡ cond (not c) (Some name) s
chosen true true name r s e same = same
chosen false false name r s e same = refl
chosen true false name r s e same = cc
chosen false true name r s e same = cc

walk_finds : (is_key : List ℕ → Bool) (keys : List Key) (names : List (String Global)) → AscendByBytes (map key_text keys)
    → IsStrictlySortedBy (λ (s t : String Global). by_bytes (string_bytes s) (string_bytes t)) names
    → AreAlike is_key keys names → walk keys names ≡ find (λ name. not (is_key (string_bytes name))) names
unfolding IsStrictlySortedBy
walk_finds is_key keys [] ascend ordered alike = refl
walk_finds is_key keys (name ∷ names) ascend ordered alike =
    let bytes : List ℕ = string_bytes name in
    let rest : List Key = keys_from bytes keys in
    let stands : is_first bytes rest ≡ is_key bytes = first_where_among bytes keys ascend ∙ among_left bytes bytes keys (λ key before. before) ∙ alike.0 in
    chosen (is_first bytes rest) (is_key bytes) name (walk rest names) (find (λ later. not (is_key (string_bytes later))) names) stands
    (walk_finds is_key rest names (ascend_left bytes keys ascend) ordered.1 (alike_left is_key keys bytes names ordered.0 alike.1))

alike_all : (is_key : List ℕ → Bool) (keys : List Key) → ((name : List ℕ) → is_key_among keys name ≡ is_key name) → (names : List (String Global)) → AreAlike is_key keys names
alike_all is_key keys all [] = tt
alike_all is_key keys all (name ∷ names) = (all (string_bytes name), alike_all is_key keys all names)

pub walk_finds_first_other : (is_key : List ℕ → Bool) (keys : List Key) (names : List (String Global)) → AscendByBytes (map key_text keys)
    → ((name : List ℕ) → is_key_among keys name ≡ is_key name) → IsStrictlySortedBy (λ (s t : String Global). by_bytes (string_bytes s) (string_bytes t)) names
    → walk keys names ≡ find (λ name. not (is_key (string_bytes name))) names
walk_finds_first_other is_key keys names ascend all ordered = walk_finds is_key keys names ascend ordered (alike_all is_key keys all names)

pub walk_stops : (keys rest : List Key) (name : String Global) (names : List (String Global)) (s t : List ℕ) → s ≡ string_bytes name → t ≡ string_bytes name
    → rest ≡ keys_from s keys → false ≡ is_first t rest → walk keys (name ∷ names) ≡ Some name
walk_stops keys rest name names s t here there left h =
    let bytes : List ℕ = string_bytes name in
    let first : is_first bytes (keys_from bytes keys) ≡ false =
    ap (λ (b : List ℕ). is_first b (keys_from bytes keys)) (sym there) ∙ ap (λ (b : List ℕ). is_first t (keys_from b keys)) (sym here) ∙ ap (λ (r : List Key). is_first t r) (sym left) ∙ sym h in
    ap (λ (b : Bool). cond b (walk (keys_from bytes keys) names) (Some name)) first
