-- Each set has a set that is kept of it, of which each message has a chain of ties to what is not done. Proof plumbing.
use Rattle.std.specs.FinSet as set
use Rattle.std.specs.Prelude.{◌⊎◌, Contains}
use Rattle.std.specs.List.{list_any}
use Rattle.std.proofs.Common.{◌≡◌, ◌∙◌, ◌≤◌, refl, sym, ap, ℕ, zero, suc, Bool, true, false, not, ◌||◌, List, [], ◌∷◌, ◌++◌, length, filter, arith, inl, inr}
use Rattle.std.specs.Bool.{Decides}
use Rattle.std.proofs.lemmas.Bool.{not-true}
use Rattle.std.proofs.lemmas.List.Elements.{Contains-append_cases, Contains-append_left, Contains-append_right}
use Rattle.std.proofs.lemmas.List.Filters.{length-filter_both}
use Rattle.sct_message.specs.Keys.{identity_of, transfers_of}
use Rattle.sct_message.specs.Order.{same_identity}
use Rattle.sct_message.specs.OrderLaws.{transfer_total, transfers_same}
use Rattle.sct_message.specs.Sets.{MessageSet}
use Rattle.sct_message.specs.Transfers.{is_on}
use Rattle.sct_message.specs.declared.draft.Draft.{Draft}
use Rattle.sct_message.specs.declared.keys.TransferKey.{TransferKey}
use Rattle.sct_message.proofs.SameValues.{identity_is, identity_itself}
use Rattle.sct_case.proofs.Membership.{any-Decides, any_tie, filtered_in, in_filter, nothing}
use Rattle.sct_set.specs.Contents.{contents_of}
use Rattle.sct_view.proofs.SetKeys.{on_is}
use Rattle.sct_parts.proofs.Members.{among}
use Rattle.sct_case.proofs.Stays.{held_from, in_items}
use Rattle.sct_keep.specs.Done.{is_done}
use Rattle.sct_keep.specs.Keep.{AreTied, HasAllOpen, IsChain, IsKept, IsOpen, is_open_in, is_tied, is_tied_to, kept_of, others_of, with_tied}
use Rattle.sct_keep.proofs.MarkLemmas.{held_in, in_list}
use Rattle.sct_keep.proofs.SplitLemmas.{turned}

-- ---- tests

on-Decides : (m : Draft) (t : TransferKey) → Decides (is_on t m) (Contains (transfers_of m) t)
on-Decides m t = (among m t, λ h. on_is t m ∙ any_tie transfer_total transfers_same (transfers_of m) t h)

share-Decides : (one other : Draft)
    → Decides (list_any (λ k. is_on k other) (transfers_of one)) ((t : TransferKey) × Contains (transfers_of one) t × Contains (transfers_of other) t)
share-Decides one other = any-Decides (λ k. is_on k other) (λ k. Contains (transfers_of other) k) (on-Decides other) (transfers_of one)

second : (x y : Bool) → y ≡ true → (x || y) ≡ true
second true y e = refl
second false y e = e

tied-Decides : (one other : Draft) → Decides (is_tied one other) (AreTied one other)
tied-Decides one other = (
  elim (same_identity (identity_of one) (identity_of other)) as (λ x. same_identity (identity_of one) (identity_of other) ≡ x
      → (x || list_any (λ k. is_on k other) (transfers_of one)) ≡ true → AreTied one other) [
        | true ↦ λ e _. inl (identity_is _ _ e)
        | false ↦ λ _ e. inr ((share-Decides one other).0 e)
      ] refl,
  λ tie. elim tie as (λ _. is_tied one other ≡ true) [
    | inl e ↦ ap (λ (x : Bool). x || list_any (λ k. is_on k other) (transfers_of one)) (ap (same_identity (identity_of one)) (sym e) ∙ identity_itself (identity_of one))
    | inr s ↦ second (same_identity (identity_of one) (identity_of other)) _ ((share-Decides one other).1 s)
  ],
)

tied_to-Decides : (front : List Draft) (m : Draft) → Decides (is_tied_to front m) ((f : Draft) × Contains front f × AreTied f m)
tied_to-Decides front m = any-Decides (λ f. is_tied f m) (λ f. AreTied f m) (λ f. tied-Decides f m) front

-- an item of a list passes a test or its opposite
sides : {X : Type 0} (p : X → Bool) (xs : List X) (x : X) → Contains xs x → Contains (filter p xs) x ⊎ Contains (filter (λ y. not (p y)) xs) x
sides p xs x h = elim (p x) as (λ b. p x ≡ b → Contains (filter p xs) x ⊎ Contains (filter (λ y. not (p y)) xs) x) [
  | true ↦ λ e. inl (filtered_in p xs x h e)
  | false ↦ λ e. inr (filtered_in (λ y. not (p y)) xs x h (ap not e))
] refl

-- ---- a front and all that is tied to it, step by step

begun : (front : List Draft) (n : ℕ) (rest : List Draft) (m : Draft) → Contains front m → Contains (with_tied front n rest) m
begun [] n rest m h = absurd (nothing m h)
begun (f ∷ fs) zero rest m h = h
begun (f ∷ fs) (suc n) rest m h = Contains-append_left (f ∷ fs) _ m h

some_front : (front : List Draft) (n : ℕ) (rest : List Draft) (m : Draft) → Contains (with_tied front n rest) m → 1 ≤ length front
some_front [] n rest m h = absurd (nothing m h)
some_front (f ∷ fs) n rest m h = omega arith

-- with each message it has all that are tied to it
has_tied : (front : List Draft) (n : ℕ) (rest : List Draft) → length rest ≤ n → (one other : Draft) → Contains (with_tied front n rest) one
    → Contains front other ⊎ Contains rest other → AreTied one other → Contains (with_tied front n rest) other
has_tied [] n rest short one other h there tie = absurd (nothing one h)
has_tied (f ∷ fs) zero rest short one other h there tie = elim there as (λ _. Contains (f ∷ fs) other) [
  | inl first ↦ first
  | inr later ↦ let place = later.1 in absurd (omega (arith, place, short))
]
has_tied (f ∷ fs) (suc n) rest short one other h there tie =
    let front = f ∷ fs in
    let next = filter (is_tied_to front) rest in
    let away = filter (λ m. not (is_tied_to front m)) rest in
    elim there as (λ _. Contains (front ++ with_tied next n away) other) [
      | inl first ↦ Contains-append_left front (with_tied next n away) other first
      | inr later ↦ Contains-append_right front (with_tied next n away) other
          (elim (Contains-append_cases front (with_tied next n away) one h) as (λ _. Contains (with_tied next n away) other) [
            | inl now ↦ begun next n away other (filtered_in (is_tied_to front) rest other later ((tied_to-Decides front other).1 (one, now, tie)))
            | inr after ↦
                let both = length-filter_both (is_tied_to front) (λ m. not (is_tied_to front m)) (λ m. refl) rest in
                let more = some_front next n away one after in
                has_tied next n away (omega (arith, both, more, short)) one other after (sides (is_tied_to front) rest other later) tie
          ])
    ]

-- ---- chains

module _ (day : List ℕ) (whole : MessageSet) where
  abbrev Chained : Draft → Type 0
  Chained m = (links : List Draft) × IsChain day whole m links

  all_chained : (front : List Draft) (n : ℕ) (rest : List Draft) → ((m : Draft) → Contains front m → Chained m)
      → ((m : Draft) → Contains rest m → set.contains whole m ≡ true) → (m : Draft) → Contains (with_tied front n rest) m → Chained m
  all_chained [] n rest first held m h = absurd (nothing m h)
  all_chained (f ∷ fs) zero rest first held m h = first m h
  all_chained (f ∷ fs) (suc n) rest first held m h =
      let front = f ∷ fs in
      let next = filter (is_tied_to front) rest in
      let away = filter (λ x. not (is_tied_to front x)) rest in
      elim (Contains-append_cases front (with_tied next n away) m h) as (λ _. Chained m) [
        | inl now ↦ first m now
        | inr after ↦ all_chained next n away
            (λ x g.
            let i = in_filter (is_tied_to front) rest x g in
            let tie = (tied_to-Decides front x).0 i.1 in
            let c = first tie.0 tie.1 in
            (tie.0 ∷ c.0, (held x i.0, turned tie.0 x tie.2, c.1)))
            (λ x g. held x (in_filter (λ y. not (is_tied_to front y)) rest x g).0)
            m after
      ]

  -- a message with a chain is of the whole, and of each set that has all that is open
  of_whole : (links : List Draft) (m : Draft) → IsChain day whole m links → set.contains whole m ≡ true
  of_whole [] m c = c.0
  of_whole (next ∷ rest) m c = c.0

  of_each : (some : MessageSet) → HasAllOpen day whole some → (links : List Draft) (m : Draft) → IsChain day whole m links → set.contains some m ≡ true
  of_each some has [] m c = has.each m c.0 c.1
  of_each some has (next ∷ rest) m c = has.tied next m (of_each some has rest next c.2) c.0 (turned m next c.1)

  -- ---- what is kept

  open-Decides : (m : Draft) → Decides (is_open_in day whole m) (IsOpen day whole m)
  open-Decides m = any-Decides (λ t. not (is_done day whole t)) (λ t. is_done day whole t ≡ false) (λ t. (not-true _, λ e. ap not e)) (transfers_of m)

  abbrev front : List Draft
  front = filter (is_open_in day whole) (set.items whole)

  abbrev rest : List Draft
  rest = others_of day whole

  abbrev all : List Draft
  all = with_tied front (length rest) rest

  chained : (m : Draft) → Contains all m → Chained m
  chained =
      all_chained front (length rest) rest
      (λ m h. let i = in_filter (is_open_in day whole) (set.items whole) m h in ([], (held_from whole m i.0, (open-Decides m).0 i.1)))
      (λ m h. held_from whole m (in_filter (λ y. not (is_open_in day whole y)) (set.items whole) m h).0)

  pub chain_of : (m : Draft) → set.contains (kept_of day whole) m ≡ true → Chained m
  unfolding kept_of
  chain_of m h = chained m (in_list all m h)

  pub is_kept : IsKept day whole (kept_of day whole)
  unfolding kept_of
  is_kept = record {
    part = λ m h. let c = chain_of m h in of_whole c.0 m c.1;
    has_open = record {
      each = λ m h o.
          held_in all m (begun front (length rest) rest m (filtered_in (is_open_in day whole) (set.items whole) m (in_items whole m h) ((open-Decides m).1 o)));
      tied = λ one other here there tie.
          held_in all other
          (has_tied front (length rest) rest (omega arith) one other (in_list all one here) (sides (is_open_in day whole) (set.items whole) other (in_items whole other there)) tie);
    };
    least = λ some has m h. let c = chain_of m h in of_each some has c.0 m c.1;
  }
