-- The ranges above a vector have the entries above it. It serves sites.
use Rattle.std.proofs.Common.{◌≡◌, ◌∙◌, refl, ap, sym, ℕ, ◌+◌, ◌≤◌, true, false, List, [], ◌∷◌, ◌++◌, length, drop, arith}
use Rattle.std.specs.BTreeMap.{is_at}
use Rattle.std.specs.List.{flat_map}
use Rattle.std.specs.List.Sorted.{IsStrictlySortedBy}
use Rattle.std.specs.Map.{keys_of, lookup}
use Rattle.std.specs.Ordering.{nat_cmp}
use Rattle.std.specs.Prelude.{Option, Some, None, filter}
use Rattle.std.proofs.Math.Seq.{drop-nil}
use Rattle.std.proofs.lemmas.Bool.{false≢true}
use Rattle.std.proofs.lemmas.Bool.Decides.{nat_tests}
use Rattle.std.proofs.lemmas.Cmp.{eq_by_cmp_equiv}
use Rattle.std.proofs.lemmas.List.{append_assoc}
use Rattle.std.proofs.lemmas.List.Sums.{length-filter, count_by-le-length}
use Rattle.std.proofs.lemmas.Map.Keys.{IsDistinct-from_sorted}
use Rattle.std.proofs.lemmas.Map.Made.{length-le_from_is_member}
use Rattle.sct_message.specs.Ascending.{ascending}
use Rattle.sct_message.specs.declared.draft.Draft.{Draft}
use Rattle.sct_message.proofs.AscendingLemmas.{ascending_rises, members_ascending}
use Rattle.sct_delta.specs.Entries.{Placed, log_of, numbered, IsDelta}
use Rattle.sct_delta.specs.Refusals.{has_site, message_at, IsCut}
use Rattle.sct_delta.specs.Sites.{is_group}
use Rattle.sct_delta.specs.Vectors.{count_or_0}
use Rattle.sct_delta.proofs.CutLemmas.{all_sites, from_parts, list_at, no_site_of_group, part, parts_rise}
use Rattle.sct_delta.proofs.EntryLemmas.{run_is}
use Rattle.sct_site.specs.Cores.{Core, IsSite, entry_order, is_above, is_open, entries_above, logs_of}
use Rattle.sct_site.specs.Ranges.{in_ranges}
use Rattle.sct_site.specs.declared.ranges.LogRange.{LogRange}
use Rattle.sct_site.proofs.AboveLemmas.{cut_is, entry_total, entry_same}
use Rattle.sct_site.proofs.HeldLemmas.{held_number}

-- ---- the entries of the origins that are named

-- an origin is named with the count of its log
abbrev pub IsCounted : (ℕ → List Draft) → ℕ × ℕ → Type 0
IsCounted log kept = kept.1 ≡ length (log kept.0)

module _ (count : ℕ → ℕ) (log : ℕ → List Draft) where
  -- what is above the count of an origin
  abbrev pub block : ℕ × ℕ → List Placed
  block kept = part (λ (o n : ℕ). log o) count kept

  -- of several origins
  abbrev pub blocks : List (ℕ × ℕ) → List Placed
  blocks kept = flat_map block kept

  -- one origin more
  pub blocks_more : (kept : ℕ × ℕ) (rest : List (ℕ × ℕ)) (have : ℕ) (ranges new : List LogRange) (all : List Placed) → have ≡ count kept.0 → IsCounted log kept
      → (IsCounted log kept → in_ranges log new ≡ in_ranges log ranges ++ numbered kept.0 (have + 1) (drop have (log kept.0)))
      → in_ranges log ranges ++ blocks (kept ∷ rest) ≡ all → in_ranges log new ++ blocks rest ≡ all
  blocks_more kept rest have ranges new all counts sized entries so_far =
      ap (λ (ds : List Placed). ds ++ blocks rest) (entries sized ∙ ap (λ (n : ℕ). in_ranges log ranges ++ numbered kept.0 (n + 1) (drop n (log kept.0))) counts)
      ∙ append_assoc (in_ranges log ranges) (block kept) (blocks rest)
      ∙ so_far

-- ---- the entries of the origins of a site

few_sites : (number group : ℕ) → is_open number group ≡ true → is_group group ≡ true
few_sites number group valid = grind (arith, nat_tests)

-- a site holds nothing of an origin that its group does not have
none_held : (core : Core) → IsSite core → (o : ℕ) → has_site core.group o ≡ false → (log : List Draft) → log_of o core.arrivals ≡ log → log ≡ []
none_held core site o outside [] is = refl
none_held core site o outside (m ∷ log) is =
    absurd (false≢true (sym outside ∙ site.inside (record { origin = o; n = 1; message = m }) (held_number core.arrivals site.order o 1 m (ap (λ (l : List Draft). message_at l 1) is))))

no_messages : (log : List Draft) → 0 ≡ length log → [] ≡ log
no_messages [] is = refl
no_messages (m ∷ log) is = cc

-- the log of an origin is that which is found
found_is : (log : ℕ → List Draft) (o : ℕ) (found : Option ℕ) → count_or_0 found ≡ length (log o) → list_at (λ (p n : ℕ). log p) o found ≡ log o
found_is log o None is = no_messages (log o) is
found_is log o (Some n) is = refl

module _ (count : ℕ → ℕ) (core : Core) (site : IsSite core) (kept : List (ℕ × ℕ)) (rises : IsStrictlySortedBy nat_cmp (keys_of kept))
    (counted : (o : ℕ) → count_or_0 (lookup (is_at (nat_cmp o)) kept) ≡ length (log_of o core.arrivals)) where
  abbrev all : List Placed
  all = blocks count (logs_of core.arrivals) kept

  cut_all : IsCut (logs_of core.arrivals) count all
  cut_all o =
      from_parts (λ (p n : ℕ). log_of p core.arrivals) count o kept rises
      ∙ ap (λ (ms : List Draft). numbered o (count o + 1) (drop (count o) ms)) (found_is (logs_of core.arrivals) o (lookup (is_at (nat_cmp o)) kept) (counted o))

  pub blocks_are_delta : IsDelta all
  blocks_are_delta = record {
    runs = λ o. run_is o (count o + 1) (drop (count o) (log_of o core.arrivals)) all (omega arith) (cut_all o);
    rises = parts_rise (λ (p n : ℕ). log_of p core.arrivals) count kept rises;
    sites = all_sites all (λ o outside.
        cut_all o
        ∙ ap (λ (ms : List Draft). numbered o (count o + 1) (drop (count o) ms))
        (none_held core site o (no_site_of_group core.group o (few_sites core.number core.group site.opened) outside) (log_of o core.arrivals) refl)
        ∙ ap (numbered o (count o + 1)) (drop-nil (count o)));
  }

  -- they are what is cut
  pub blocks_are_cut : all ≡ entries_above count core.arrivals
  blocks_are_cut = cut_is count core.arrivals all site.order blocks_are_delta cut_all

-- ---- no more is cut than is held

pub few_above : (count : ℕ → ℕ) (es : List Placed) → length (entries_above count es) ≤ length es
unfolding entries_above
few_above count es =
    let kept : List Placed = filter (is_above count) es in
    let once : length (ascending entry_order kept) ≤ length kept
    = length-le_from_is_member (eq_by_cmp_equiv entry_total) (ascending entry_order kept) kept (IsDistinct-from_sorted entry_order (ascending entry_order kept) (ascending_rises entry_total entry_same kept))
    (λ q is. sym (members_ascending entry_total entry_same kept q) ∙ is) in
    let some = length-filter (is_above count) es in
    let most = count_by-le-length (is_above count) es in
    omega (arith, once, some, most)
