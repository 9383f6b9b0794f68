-- The transfers of which a set has a message, and the banks that are told: each stands once. Proof plumbing.
use Rattle.std.proofs.Common.{◌≡◌, ℕ, ◌≤◌, Bool, false, ◌||◌, List, [], ◌∷◌, length, refl, sym, ap, subst, ◌∙◌, Ordering, arith}
use Rattle.std.specs.FinMap as finite
use Rattle.std.specs.FinMap.{len-empty, len-entries, len-insert}
use Rattle.std.specs.FinSet as set
use Rattle.std.specs.Cmp.{IsTotalOrder, eq_by_cmp_equiv}
use Rattle.std.specs.Cmp.Lexicographic.{nat_list_cmp_total, texts_ties}
use Rattle.std.specs.List.{flat_map, list_any, AllByRecursion, IsDistinct}
use Rattle.std.specs.List.Sorted.{IsStrictlySortedBy}
use Rattle.std.specs.Ordering.{eq_by_cmp}
use Rattle.std.proofs.lemmas.List.{length-map}
use Rattle.std.proofs.lemmas.Map.Keys.{IsDistinct-from_sorted}
use Rattle.sct_element.specs.Text.{is_text}
use Rattle.sct_message.specs.Ascending.{ascending, alone}
use Rattle.sct_message.specs.CellsBack.{texts_same}
use Rattle.sct_message.specs.Keys.{transfers_of}
use Rattle.sct_message.specs.Order.{same_transfer, text_order}
use Rattle.sct_message.specs.OrderLaws.{transfer_total, transfers_same, transfer_ties}
use Rattle.sct_message.specs.Sets.{MessageSet}
use Rattle.sct_message.specs.Transfers.{is_on, keys_of}
use Rattle.sct_message.specs.declared.draft.Draft.{Draft}
use Rattle.sct_message.specs.declared.keys.TransferKey.{TransferKey}
use Rattle.sct_message.proofs.AscendingLemmas.{any_ascending, ascending_rises}
use Rattle.sct_message.proofs.Tests.{any_flat_map}
use Rattle.sct_view.specs.Kept.{same_key}
use Rattle.sct_view.proofs.SumLemmas.{AreApart}

-- ---- lists of keys

pub none_passes : {K : Type 0} (p : K → Bool) (ks : List K) → AllByRecursion (λ k. p k ≡ false) ks → list_any p ks ≡ false
none_passes p [] h = refl
none_passes p (k ∷ ks) h = ap (λ b. b || list_any p ks) h.0 ∙ none_passes p ks h.1

pub apart_from_distinct : {K : Type 0} (E : K → K → Bool) (ks : List K) → IsDistinct E ks → AreApart E ks
unfolding IsDistinct
apart_from_distinct E [] h = tt
apart_from_distinct E (k ∷ ks) h = (none_passes (E k) ks h.0, apart_from_distinct E ks h.1)

-- a list that rises strictly has no key twice
pub apart_from_rises : {K : Type 0} (R : K → K → Ordering) (ks : List K) → IsStrictlySortedBy R ks → AreApart (eq_by_cmp R) ks
apart_from_rises R ks h = apart_from_distinct (eq_by_cmp R) ks (IsDistinct-from_sorted R ks h)

abbrev map_of : {K : Type 0} (R : K → K → Ordering) → List K → finite.FinMap R (Unit {0})
map_of R ks = finite.from_entries {R = R} (alone ks)

few_entries : {K : Type 0} {R : K → K → Ordering} (o : IsTotalOrder R) (ks : List K) → finite.len (map_of R ks) ≤ length ks
few_entries {R = R} o [] = omega (arith, len-empty R (Unit {0}))
few_entries {R = R} o (k ∷ ks) = grind (arith, few_entries o ks, len-insert o (map_of R ks) k tt)

-- the ascending list of some keys is no longer than they are
pub shorter : {K : Type 0} {R : K → K → Ordering} → IsTotalOrder R → (ks : List K) → length (ascending R ks) ≤ length ks
unfolding ascending
shorter {R = R} o ks = omega (arith, few_entries o ks, length-map (finite.entries (map_of R ks)) (λ e. e.0), len-entries (map_of R ks))

-- ---- transfers

-- a test is passed by a key exactly where it is passed by a transfer of a message
pub any_key : (p : TransferKey → Bool) (held : MessageSet)
    → list_any p (keys_of held) ≡ list_any (λ m. list_any p (transfers_of m)) (set.items held)
any_key p held =
    any_ascending transfer_total transfers_same p (flat_map transfers_of (set.items held)) ∙ any_flat_map p transfers_of (set.items held)

-- a message is on the transfers that are its own
pub on_is : (t : TransferKey) (m : Draft) → is_on t m ≡ list_any (same_transfer t) (transfers_of m)
on_is t m = λ i. list_any (λ k. (eq_by_cmp_equiv transfer_total).symm k t i) (transfers_of m)

-- a transfer is a key of the set where a message of the set is on it
pub key-is_on : (held : MessageSet) (t : TransferKey) → list_any (same_transfer t) (keys_of held) ≡ list_any (is_on t) (set.items held)
key-is_on held t = any_key (same_transfer t) held ∙ (λ i. list_any (λ m. sym (on_is t m) i) (set.items held))

-- ---- banks

-- an ascending list of banks names none twice
pub banks_apart : (banks : List (List ℕ)) → AreApart is_text (ascending text_order banks)
banks_apart banks =
    subst (λ (E : List ℕ → List ℕ → Bool). AreApart E (ascending text_order banks)) (λ i s t. sym (texts_ties s t) i)
    (apart_from_rises text_order _ (ascending_rises nat_list_cmp_total texts_same banks))

-- ---- the same by the test of a table

pub same_key-same : (s t : TransferKey) → same_key s t ≡ same_transfer s t
same_key-same s t = transfer_ties s t
