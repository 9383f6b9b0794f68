-- What ranges of logs have. It serves sites and worlds.
use Rattle.std.proofs.Common.{◌≡◌, ◌∙◌, refl, ap, sym, inl, inr, ℕ, ◌+◌, ◌-◌, ◌≤◌, ◌<◌, true, false, List, [], ◌∷◌, ◌++◌, filter, length, append_assoc, drop, take, get_or, Option, Some, None, max, min, arith, nat_lt}
use Rattle.std.specs.List.{slice_get}
use Rattle.std.proofs.Math.Nat.{le-min, max-eq_left, max-eq_right, min-le_left, min-le_right}
use Rattle.std.proofs.lemmas.Bool.{ltb-true}
use Rattle.std.proofs.lemmas.Bool.Decides.{nat_tests}
use Rattle.std.proofs.lemmas.Option.{slice_get_cases, slice_get_within, get_or_from_slice_get}
use Rattle.std.proofs.lemmas.List.{append-nil, drop-drop, drop_all, get_or_default, get_or-take, length-append, length-drop, length-take, length-take-le, take-append-le, take_more}
use Rattle.std.proofs.lemmas.List.Elements.{All-head, All-tail, All-weaker, filter-append}
use Rattle.std.proofs.lemmas.List.Kept.{IsStrictlySortedBy-filter}
use Rattle.std.proofs.lemmas.List.Sums.{sum_by-cons}
use Rattle.std.proofs.lemmas.Grind.{flat_map-append}
use Rattle.sct_message.specs.declared.draft.Draft.{Draft}
use Rattle.sct_delta.specs.Entries.{Placed, is_from, entries_from, log_of, numbered, place_order, IsDelta, HasNoHole}
use Rattle.sct_delta.specs.Refusals.{message_at}
use Rattle.sct_delta.specs.Sites.{is_site}
use Rattle.sct_delta.proofs.EntryLemmas.{length-numbered, numbered-step, run_is}
use Rattle.sct_delta.proofs.JoinLemmas.{above_count, all_above}
use Rattle.sct_delta.proofs.TestLemmas.{all_kept, filter_agree, filter_comm}
use Rattle.sct_delta.proofs.LawLemmas.{at_place}
use Rattle.sct_site.specs.Cores.{is_above}
use Rattle.sct_site.specs.Ranges.{in_range, in_ranges, size_of, ReachEnds}
use Rattle.sct_site.specs.declared.ranges.LogRange.{LogRange}
use Rattle.sct_site.proofs.AboveLemmas.{agree_above}

-- ---- how many entries there are

length_range : (log : ℕ → List Draft) (range : LogRange) → range.upto ≤ length (log range.origin) → length (in_range log range) ≡ range.upto - range.above
length_range log range reached =
    length-numbered range.origin (range.above + 1) (drop range.above (take range.upto (log range.origin)))
    ∙ length-drop range.above (take range.upto (log range.origin))
    ∙ ap (λ (n : ℕ). n - range.above) (length-take-le range.upto (log range.origin) reached)

pub length_ranges : (log : ℕ → List Draft) (ranges : List LogRange) → ReachEnds log ranges → length (in_ranges log ranges) ≡ size_of ranges
length_ranges log [] ends = refl
length_ranges log (range ∷ ranges) ends =
    length-append (in_range log range) (in_ranges log ranges)
    ∙ (λ i. length_range log range (All-head (λ (r : LogRange). r.upto ≤ length (log r.origin)) range ranges ends) i
    + length_ranges log ranges (All-tail (λ (r : LogRange). r.upto ≤ length (log r.origin)) range ranges ends) i)
    ∙ sym (sum_by-cons (λ (r : LogRange). r.upto - r.above) range ranges)

-- ---- logs that grow

module _ (old new : ℕ → List Draft) (more : ℕ → List Draft) (grown : (o : ℕ) → new o ≡ old o ++ more o) where
  same_range : (range : LogRange) → range.upto ≤ length (old range.origin) → in_range new range ≡ in_range old range
  same_range range reached =
      ap (λ (log : List Draft). numbered range.origin (range.above + 1) (drop range.above log))
      (ap (take range.upto) (grown range.origin) ∙ take-append-le range.upto (old range.origin) (more range.origin) reached)

  -- ranges that the logs reached to the end keep their entries
  pub same_ranges : (ranges : List LogRange) → ReachEnds old ranges → in_ranges new ranges ≡ in_ranges old ranges
  same_ranges [] ends = refl
  same_ranges (range ∷ ranges) ends =
      λ i. same_range range (All-head (λ (r : LogRange). r.upto ≤ length (old r.origin)) range ranges ends) i
      ++ same_ranges ranges (All-tail (λ (r : LogRange). r.upto ≤ length (old r.origin)) range ranges ends) i

  -- and the logs still reach to their ends
  pub still_reach : (ranges : List LogRange) → ReachEnds old ranges → ReachEnds new ranges
  still_reach ranges ends =
      All-weaker (λ (r : LogRange). r.upto ≤ length (old r.origin)) (λ (r : LogRange). r.upto ≤ length (new r.origin))
      (λ r reached. let e : length (new r.origin) ≡ length (old r.origin) + length (more r.origin) = ap length (grown r.origin) ∙ length-append (old r.origin) (more r.origin) in omega (arith, e, reached))
      ranges ends

-- ---- what is above a count

-- of one origin, what is above a count of each
above_run : (count : ℕ → ℕ) (o n : ℕ) (ms : List Draft) → filter (is_above count) (numbered o n ms) ≡ filter (λ e. nat_lt (count o) e.n) (numbered o n ms)
above_run count o n ms = filter_agree (is_above count) (λ e. nat_lt (count o) e.n) (numbered o n ms) (agree_above count o n ms)

further : (a h : ℕ) → nat_lt a h ≡ false → h < a + 1
further a h e = grind (arith, nat_tests)

lower : (a h : ℕ) → nat_lt a h ≡ true → a + 1 ≤ h + 1
lower a h e = grind (arith, nat_tests)

at_most : (a h : ℕ) → nat_lt a h ≡ true → a ≤ h
at_most a h e = grind (arith, nat_tests)

at_least : (a h : ℕ) → nat_lt a h ≡ false → h ≤ a
at_least a h e = grind (arith, nat_tests)

both_dropped : (a h : ℕ) → nat_lt a h ≡ true → a + (h + 1 - (a + 1)) ≡ h
both_dropped a h e = grind (arith, nat_tests)

-- of a log from one number on, what is above a count is the log from the greater of the two on
pub above_log : (o a h : ℕ) (log : List Draft) → numbered o (max a h + 1) (drop (max a h) log) ≡ filter (λ e. nat_lt h e.n) (numbered o (a + 1) (drop a log))
above_log o a h log =
    elim (nat_lt a h) as (λ b. nat_lt a h ≡ b → numbered o (max a h + 1) (drop (max a h) log) ≡ filter (λ e. nat_lt h e.n) (numbered o (a + 1) (drop a log))) [
      | true ↦ λ t.
          ap (λ (k : ℕ). numbered o (k + 1) (drop k log)) (max-eq_right (at_most a h t))
          ∙ sym (above_count o h (a + 1) (drop a log) (lower a h t)
          ∙ ap (numbered o (h + 1)) (drop-drop (h + 1 - (a + 1)) a log ∙ ap (λ (k : ℕ). drop k log) (both_dropped a h t)))
      | false ↦ λ t.
          ap (λ (k : ℕ). numbered o (k + 1) (drop k log)) (max-eq_left (at_least a h t))
          ∙ sym (all_above o h (a + 1) (drop a log) (further a h t))
    ] refl

reached : (h first : ℕ) → nat_lt h first ≡ false → first ≤ h + 1
reached h first t = grind (arith, nat_tests)

above_first : (count : ℕ → ℕ) (o first : ℕ) (ms : List Draft) (ds : List Placed) → 1 ≤ first → entries_from o ds ≡ numbered o first ms → HasNoHole o (filter (is_above count) ds)
above_first count o first ms ds from_1 is =
    let kept : entries_from o (filter (is_above count) ds) ≡ filter (λ e. nat_lt (count o) e.n) (numbered o first ms)
    = filter_comm (is_from o) (is_above count) ds ∙ ap (filter (is_above count)) is ∙ above_run count o first ms in
    elim (nat_lt (count o) first) as (λ b. nat_lt (count o) first ≡ b → HasNoHole o (filter (is_above count) ds)) [
      | true ↦ λ t. run_is o first ms (filter (is_above count) ds) from_1 (kept ∙ all_above o (count o) first ms (ltb-true (count o) first t))
      | false ↦ λ t. run_is o (count o + 1) (drop (count o + 1 - first) ms) (filter (is_above count) ds) (omega arith) (kept ∙ above_count o (count o) first ms (reached (count o) first t))
    ] refl

-- what is above a count of a delta is a delta
pub above_of_delta : (count : ℕ → ℕ) (ds : List Placed) → IsDelta ds → IsDelta (filter (is_above count) ds)
above_of_delta count ds shape = record {
  runs = λ o. let run : HasNoHole o ds = shape.runs o in above_first count o run.first (log_of o ds) ds run.above_0 run.follow;
  rises = IsStrictlySortedBy-filter place_order (is_above count) ds shape.rises;
  sites = all_kept (λ entry. is_site entry.origin) (is_above count) ds shape.sites;
}

-- ---- ranges that are read

none_is_some : (m : Draft) → ◌≡◌ {A = Option Draft} None (Some m) → ⊥
none_is_some m is = cc

-- the entry at a number of a range, and those after it
pub range_step : (o n upto : ℕ) (log : List Draft) (m : Draft) → n < upto → message_at log (n + 1) ≡ Some m
    → numbered o (n + 1) (drop n (take upto log)) ≡ record { origin = o; n = n + 1; message = m } ∷ numbered o (n + 1 + 1) (drop (n + 1) (take upto log))
range_step o n upto log m below is =
    let here : slice_get log n ≡ Some m = sym (at_place log n) ∙ is in
    let inside : n < length log = slice_get_within log n m here in
    let size : length (take upto log) ≡ min upto (length log) = length-take upto log in
    let least : n + 1 ≤ min upto (length log) = le-min (omega (arith, below)) (omega (arith, inside)) in
    numbered-step o n (take upto log) m (omega (arith, size, least))
    ∙ ap (λ (x : Draft). record { origin = o; n = n + 1; message = x } ∷ numbered o (n + 1 + 1) (drop (n + 1) (take upto log)))
    (get_or-take upto log n m below ∙ get_or_from_slice_get log n m m here)

-- a range is at its end where the log has no further message
pub range_ends : (o n upto : ℕ) (log : List Draft) → message_at log (n + 1) ≡ None → numbered o (n + 1) (drop n (take upto log)) ≡ []
range_ends o n upto log none =
    let size : length (take upto log) ≡ min upto (length log) = length-take upto log in
    elim ((slice_get_cases log n).1) as (λ c. numbered o (n + 1) (drop n (take upto log)) ≡ []) [
      | inl found ↦ absurd (none_is_some found.0 (sym none ∙ at_place log n ∙ found.2))
      | inr beyond ↦
          let end : length log ≤ n = beyond.0 in
          let least : min upto (length log) ≤ length log = min-le_right upto (length log) in
          ap (numbered o (n + 1)) (drop_all n (take upto log) (omega (arith, size, least, end)))
    ]

-- or where its last number was read
pub range_done : (o n upto : ℕ) (log : List Draft) → upto ≤ n → numbered o (n + 1) (drop n (take upto log)) ≡ []
range_done o n upto log done =
    let size : length (take upto log) ≡ min upto (length log) = length-take upto log in
    let least : min upto (length log) ≤ upto = min-le_left upto (length log) in
    ap (numbered o (n + 1)) (drop_all n (take upto log) (omega (arith, size, least, done)))

-- what was read of a range, once it is at its end
pub read_to_end : (out before : List Placed) (o n from a h upto : ℕ) (log : List Draft) → from ≡ max a h → numbered o (n + 1) (drop n (take upto log)) ≡ []
    → out ++ numbered o (n + 1) (drop n (take upto log)) ≡ before ++ numbered o (from + 1) (drop from (take upto log))
    → out ≡ before ++ filter (λ e. nat_lt h e.n) (numbered o (a + 1) (drop a (take upto log)))
read_to_end out before o n from a h upto log begins ends so_far =
    sym (ap (λ (l : List Placed). out ++ l) ends ∙ append-nil out)
    ∙ so_far
    ∙ ap (λ (k : ℕ). before ++ numbered o (k + 1) (drop k (take upto log))) begins
    ∙ ap (λ (l : List Placed). before ++ l) (above_log o a h (take upto log))

-- an entry more
pub read_further : (out new before : List Placed) (o n from upto : ℕ) (log : List Draft) (m : Draft) → n < upto → message_at log (n + 1) ≡ Some m
    → new ≡ out ++ record { origin = o; n = n + 1; message = m } ∷ []
    → out ++ numbered o (n + 1) (drop n (take upto log)) ≡ before ++ numbered o (from + 1) (drop from (take upto log))
    → new ++ numbered o (n + 1 + 1) (drop (n + 1) (take upto log)) ≡ before ++ numbered o (from + 1) (drop from (take upto log))
read_further out new before o n from upto log m below is pushed so_far =
    ap (λ (l : List Placed). l ++ numbered o (n + 1 + 1) (drop (n + 1) (take upto log))) pushed
    ∙ append_assoc out (record { origin = o; n = n + 1; message = m } ∷ []) (numbered o (n + 1 + 1) (drop (n + 1) (take upto log)))
    ∙ ap (λ (l : List Placed). out ++ l) (sym (range_step o n upto log m below is))
    ∙ so_far

-- a range more
pub within_more : (count : ℕ → ℕ) (log : ℕ → List Draft) (ranges : List LogRange) (i : ℕ) (r : LogRange) → i < length ranges → r ≡ get_or ranges i r
    → filter (is_above count) (in_ranges log (take i ranges)) ++ filter (λ e. nat_lt (count r.origin) e.n) (in_range log r) ≡ filter (is_above count) (in_ranges log (take (i + 1) ranges))
within_more count log ranges i r there is =
    sym (
    ap (λ (rs : List LogRange). filter (is_above count) (in_ranges log rs)) (take_more ranges i r there ∙ ap (λ (x : LogRange). take i ranges ++ x ∷ []) (sym is))
    ∙ ap (filter (is_above count)) (flat_map-append (in_range log) (take i ranges) (r ∷ []) ∙ ap (λ (l : List Placed). in_ranges log (take i ranges) ++ l) (append-nil (in_range log r)))
    ∙ filter-append (is_above count) (in_ranges log (take i ranges)) (in_range log r)
    ∙ ap (λ (l : List Placed). filter (is_above count) (in_ranges log (take i ranges)) ++ l) (above_run count r.origin (r.above + 1) (drop r.above (take r.upto (log r.origin))))
    )

pub within_further : (count : ℕ → ℕ) (log : ℕ → List Draft) (ranges : List LogRange) (i : ℕ) (d : LogRange) (have : ℕ) (out new : List Placed) → i < length ranges
    → have ≡ count (get_or ranges i d).origin
    → new ≡ out ++ filter (λ e. nat_lt have e.n) (in_range log (get_or ranges i d))
    → out ≡ filter (is_above count) (in_ranges log (take i ranges)) → new ≡ filter (is_above count) (in_ranges log (take (i + 1) ranges))
within_further count log ranges i d have out new there counts added so_far =
    added
    ∙ (λ j. so_far j ++ filter (λ e. nat_lt (counts j) e.n) (in_range log (get_or ranges i d)))
    ∙ within_more count log ranges i (get_or ranges i d) there (get_or_default ranges i d (get_or ranges i d) there)
