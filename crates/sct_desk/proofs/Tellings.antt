-- How marks count the receipts that tell a position.
use Rattle.std.proofs.Common.{◌≡◌, ◌∙◌, ap, sym, subst, ℕ, ◌≤◌, ◌<◌, ◌+◌, ◌-◌, ◌⊎◌, inl, inr, Bool, true, false, cond, List, [], ◌∷◌, ◌++◌, take, filter, length, arith, length-append, get_or}
use Rattle.std.specs.Prelude.{slice_index, Option, Some, None, MatchOption}
use Rattle.std.proofs.lemmas.List.Elements.{filter_more}
use mathlib.Core.List.{IsPrefix}
use Rattle.sct_delta.specs.Entries.{Placed}
use Rattle.sct_site.proofs.Prefixes.{prefix_whole}
use Rattle.sct_desk.specs.Passes.{Told}
use Rattle.sct_desk.specs.Locked.{Locked}
use Rattle.sct_desk.specs.Tilings.{AllBegin, IsFirstUnmarked, IsLeastUntold, IsPendingFrom, OneShowsMore, Tiles, tells, tellings, up_to_two}
use Rattle.sct_desk.specs.declared.fault.DeskFault.TheVariants as fault

-- ---- one receipt more

abbrev counted : Bool → ℕ
counted true = 1
counted false = 0

length-counted : {A : Type 0} (xs : List A) (x : A) (b : Bool) → length (xs ++ cond b (x ∷ []) []) ≡ length xs + counted b
length-counted xs x true = length-append xs (x ∷ [])
length-counted xs x false = length-append xs []

tellings_more : (number p : ℕ) (rs : List Told) (i : ℕ) (r : Told) → i < length rs → r ≡ get_or rs i r
    → tellings number p (take (i + 1) rs) ≡ tellings number p (take i rs) + counted (tells number p r)
tellings_more number p rs i r inside is =
    ap length (filter_more (tells number p) rs i r inside)
    ∙ length-counted (filter (tells number p) (take i rs)) (get_or rs i r) (tells number p (get_or rs i r))
    ∙ ap (λ (x : Told). tellings number p (take i rs) + counted (tells number p x)) (sym is)

-- ---- the marks after one receipt more

abbrev pub AreMarks : ℕ → List Told → ℕ → List ℕ → Type 0
AreMarks number rs i marks = (at : ℕ) → at < length marks → slice_index marks at ≡ up_to_two (tellings number (at + 1) (take i rs))

-- ---- the first position that is not told once

pub all_once : (number : ℕ) (rs : List Told) (marks : List ℕ) (n : ℕ) → n ≡ length marks
    → ((at : ℕ) → at < length marks → slice_index marks at ≡ up_to_two (tellings number (at + 1) rs))
    → ((at : ℕ) → at < length marks → slice_index marks at ≡ 1)
    → (position : ℕ) → 1 ≤ position → position ≤ n → tellings number position rs ≡ 1
all_once number rs marks n len are ones position first last =
    let at : position - 1 < length marks = omega (arith, first, last, len) in
    let back : position - 1 + 1 ≡ position = omega (arith, first) in
    let told : tellings number (position - 1 + 1) rs ≡ 1 = omega (arith, are (position - 1) at, ones (position - 1) at) in
    ap (λ (p : ℕ). tellings number p rs) (sym back) ∙ told

pub least_untold : (number : ℕ) (rs : List Told) (marks : List ℕ) (position : ℕ)
    → ((at : ℕ) → at < length marks → slice_index marks at ≡ up_to_two (tellings number (at + 1) rs))
    → IsFirstUnmarked marks position → IsLeastUntold number rs position
least_untold number rs marks position are found =
    let back : position - 1 + 1 ≡ position = omega (arith, found.first) in
    let here : position - 1 < length marks = omega (arith, found.first, found.inside) in record {
      untold = λ once. found.unmarked (are (position - 1) here ∙ ap (λ (p : ℕ). up_to_two (tellings number p rs)) back ∙ ap up_to_two once);
      first = found.first;
      told = λ before one less.
          let there : before - 1 < length marks = omega (arith, one, less, found.inside) in
          let again : before - 1 + 1 ≡ before = omega (arith, one) in
          let told : tellings number (before - 1 + 1) rs ≡ 1 = omega (arith, are (before - 1) there, found.marked (before - 1) (omega (arith, one, less))) in
          ap (λ (p : ℕ). tellings number p rs) (sym again) ∙ told;
    }

-- what the marks say of the first positions
pub untold_is : (number : ℕ) (rs : List Told) (marks : List ℕ) (n : ℕ) (o : Option ℕ) → n ≡ length marks
    → ((at : ℕ) → at < length marks → slice_index marks at ≡ up_to_two (tellings number (at + 1) rs))
    → MatchOption o ((at : ℕ) → at < length marks → slice_index marks at ≡ 1) (λ position. IsFirstUnmarked marks position)
    → MatchOption o ((position : ℕ) → 1 ≤ position → position ≤ n → tellings number position rs ≡ 1) (IsLeastUntold number rs)
untold_is number rs marks n None len are ones = all_once number rs marks n len are ones
untold_is number rs marks n (Some position) len are found = least_untold number rs marks position are found

-- receipts tile the arrivals that are published, where these are all
pub tiles_are : (number : ℕ) (arrivals published : List Placed) (rs : List Told) (n : ℕ)
    → IsPrefix published arrivals → length arrivals ≤ length published → length arrivals ≤ n → AllBegin number published rs
    → ((position : ℕ) → 1 ≤ position → position ≤ n → tellings number position rs ≡ 1)
    → Tiles number arrivals rs
tiles_are number arrivals published rs n pre all most begin once = record {
  once = λ position one last. once position one (omega (arith, last, most));
  begin = subst (λ (l : List Placed). AllBegin number l rs) (prefix_whole published arrivals pre all) begin;
}

pending_told : (told from : ℕ) → Some (fault.Pending told) ≡ Some (fault.Pending from) → told ≡ from
pending_told told from e = cc (e)

-- where arrivals are pending, or a receipt shows more than what is published, the first position behind that is told
pub pending_is : (number : ℕ) (held : Locked) (rs : List Told) (n from : ℕ) → n ≡ length held.published
    → Some (fault.Pending (n + 1)) ≡ Some (fault.Pending from)
    → (length held.published + 1 ≤ length held.core.arrivals) ⊎ OneShowsMore number held.published rs
    → IsPendingFrom number held rs from
pending_is number held rs n from len told (inl held_back) =
    let first : from ≡ length held.published + 1 = omega (arith, pending_told (n + 1) from told, len) in
    (first, inl (first, omega (arith, first, held_back)))
pending_is number held rs n from len told (inr more) = (omega (arith, pending_told (n + 1) from told, len), inr more)
