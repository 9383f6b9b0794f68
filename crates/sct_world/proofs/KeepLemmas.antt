-- Deltas that are kept as ranges keep their entries while the sites' logs grow. Proof plumbing.
use Rattle.std.proofs.Common.{◌≡◌, ◌∙◌, refl, ap, sym, subst, ℕ, ◌+◌, ◌-◌, ◌<◌, Bool, true, false, cond, ◌||◌, List, [], ◌∷◌, ◌++◌, filter, map, length, arith, get_or, nat_eq, nat_lt, All}
use Rattle.std.specs.Prelude.{slice_set}
use Rattle.std.proofs.Math.ListN.{get_or-map}
use Rattle.std.proofs.lemmas.Bool.{eqb-true, eqb-false}
use Rattle.std.proofs.lemmas.Bool.Decides.{nat_tests}
use Rattle.std.proofs.lemmas.List.{append-nil, get_or_default, get_or-set_same, get_or-set_other, length-map, length-set, map-append}
use Rattle.std.proofs.lemmas.List.Elements.{All-append, All-cons, All-get_or, All-head, All-nil, All-tail, All-weaker}
use Rattle.sct_message.specs.declared.draft.Draft.{Draft}
use Rattle.sct_delta.specs.Entries.{Placed, held_from, log_of, IsDelta}
use Rattle.sct_delta.proofs.EntryLemmas.{log-append}
use Rattle.sct_site.specs.Cores.{Core, IsSite, arrivals_taken, entries_above, is_above, is_open, is_repeat, logs_of, own_entry}
use Rattle.sct_site.specs.Ranges.{in_ranges, size_of, ReachEnds}
use Rattle.sct_site.specs.declared.ranges.LogRange.{LogRange}
use Rattle.sct_site.proofs.RangeLemmas.{length_ranges, same_ranges, still_reach}
use Rattle.sct_world.specs.Closed.{IsClosed}
use Rattle.sct_world.specs.Inside.{deltas_kept, entries_kept, held_by, state_of, IsKeeping, IsKeptDelta, IsWorld}
use Rattle.sct_world.specs.States.{State, is_no_site, is_size, held_at, core_at}
use Rattle.sct_world.specs.declared.world.KeptDelta.{KeptDelta}
use Rattle.sct_world.proofs.CoreLemmas.{state-set}
use Rattle.sct_world.proofs.StateLemmas.{inside}
use Rattle.sct_world.proofs.WorldLemmas.{closed_now, old_is}

-- ---- one site holds more

module _ (held : List (List Placed)) (i : ℕ) (there : i < length held) (es more : List Placed) (grows : es ≡ get_or held i [] ++ more) where
  -- what the log of a site has gained
  abbrev gained : ℕ → ℕ → List Draft
  gained k o = cond (nat_eq k i) (log_of o more) []

  grown : (k o : ℕ) → log_of o (get_or (slice_set held i es) k []) ≡ log_of o (get_or held k []) ++ gained k o
  grown k o =
      elim (nat_eq k i) as (λ b. nat_eq k i ≡ b → log_of o (get_or (slice_set held i es) k []) ≡ log_of o (get_or held k []) ++ cond b (log_of o more) []) [
        | true ↦ λ t.
            let place : k ≡ i = eqb-true k i t in
            ap (λ (n : ℕ). log_of o (get_or (slice_set held i es) n [])) place
            ∙ ap (log_of o) (get_or-set_same held i es [] there ∙ grows)
            ∙ log-append o (get_or held i []) more
            ∙ ap (λ (n : ℕ). log_of o (get_or held n []) ++ log_of o more) (sym place)
        | false ↦ λ other. ap (log_of o) (get_or-set_other held i k es [] (eqb-false k i other)) ∙ sym (append-nil (log_of o (get_or held k [])))
      ] refl

  -- a delta that is kept has the entries that it had
  entries_same : (kept : KeptDelta) → IsKeptDelta held kept → entries_kept (slice_set held i es) kept ≡ entries_kept held kept
  entries_same kept is =
      same_ranges (logs_of (get_or held (kept.site - 1) [])) (logs_of (get_or (slice_set held i es) (kept.site - 1) [])) (gained (kept.site - 1)) (grown (kept.site - 1)) kept.ranges.items is.ends

  pub all_same : (deltas : List KeptDelta) → All (IsKeptDelta held) deltas → map (entries_kept (slice_set held i es)) deltas ≡ map (entries_kept held) deltas
  all_same [] all = refl
  all_same (x ∷ deltas) all = λ j. entries_same x (All-head (IsKeptDelta held) x deltas all) j ∷ all_same deltas (All-tail (IsKeptDelta held) x deltas all) j

  -- and is kept
  still_kept : (kept : KeptDelta) → IsKeptDelta held kept → IsKeptDelta (slice_set held i es) kept
  still_kept kept is = record {
    there = ap (λ (n : ℕ). nat_lt kept.site 1 || nat_lt n kept.site) (length-set held i es) ∙ is.there;
    ends = still_reach (logs_of (get_or held (kept.site - 1) [])) (logs_of (get_or (slice_set held i es) (kept.site - 1) [])) (gained (kept.site - 1)) (grown (kept.site - 1)) kept.ranges.items is.ends;
    shape = subst (λ (ds : List Placed). IsDelta ds) (sym (entries_same kept is)) is.shape;
  }

  pub all_kept : (deltas : List KeptDelta) → All (IsKeptDelta held) deltas → All (IsKeptDelta (slice_set held i es)) deltas
  all_kept deltas all = All-weaker (IsKeptDelta held) (IsKeptDelta (slice_set held i es)) still_kept deltas all

-- what a take adds to the arrivals
pub grown_by_take : (core : Core) (m : Draft) → (more : List Placed) × (arrivals_taken core m ≡ core.arrivals ++ more)
unfolding arrivals_taken
grown_by_take core m = elim (is_repeat core m) as (λ b. (more : List Placed) × (cond b core.arrivals (core.arrivals ++ own_entry core m ∷ []) ≡ core.arrivals ++ more)) [
  | true ↦ ([], sym (append-nil core.arrivals))
  | false ↦ (own_entry core m ∷ [], refl)
]

-- ---- in a world

valid_site : (n site : ℕ) → (nat_lt site 1 || nat_lt n site) ≡ false → is_size n ≡ true → is_open site n ≡ true
valid_site n site there size = grind (arith, nat_tests)

module _ (cores : List Core) (deltas : List KeptDelta) (w : State) (view : state_of cores (deltas_kept cores deltas) ≡ w) (keeping : IsKeeping cores deltas)
    (site : ℕ) (there : is_no_site w site ≡ false) (old : Core) (read : old ≡ get_or cores (site - 1) old) where
  site_there : is_no_site (state_of cores (deltas_kept cores deltas)) site ≡ false
  site_there = ap (λ (v : State). is_no_site v site) view ∙ there

  place_there : site - 1 < length (held_by cores)
  place_there = inside (length (held_by cores)) site site_there

  core_is_held : old ≡ core_at w site
  core_is_held = old_is cores (deltas_kept cores deltas) w view keeping.world site there old read

  size_here : length w.held ≡ length cores
  size_here = ap (λ (v : State). length v.held) (sym view) ∙ length-map cores (λ core. core.arrivals)

  -- the site is one
  pub site_here : IsSite old
  site_here =
      let closed : IsClosed w = closed_now cores (deltas_kept cores deltas) w view keeping.world site there old read in
      subst (λ (c : Core). IsSite c) (sym core_is_held)
      (record {
        opened = valid_site (length w.held) site there (ap is_size size_here ∙ keeping.world.size);
        order = closed.arrivals site;
        inside = λ e held. closed.inside site e held;
      })

  -- the entries that the site holds
  pub held_here : old.arrivals ≡ get_or (held_by cores) (site - 1) []
  held_here = ap (λ (c : Core). c.arrivals) core_is_held ∙ ap (λ (v : State). held_at v site) (sym view)

  module _ (new : Core) (more : List Placed) (grows : new.arrivals ≡ old.arrivals ++ more) where
    set_is : held_by (slice_set cores (site - 1) new) ≡ slice_set (held_by cores) (site - 1) new.arrivals
    set_is = ap (λ (v : State). v.held) (state-set cores (deltas_kept cores deltas) keeping.world.numbered site new)

    grows_here : new.arrivals ≡ get_or (held_by cores) (site - 1) [] ++ more
    grows_here = grows ∙ ap (λ (l : List Placed). l ++ more) held_here

    -- the deltas are the same
    deltas_same : deltas_kept (slice_set cores (site - 1) new) deltas ≡ deltas_kept cores deltas
    deltas_same =
        ap (λ (held : List (List Placed)). map (entries_kept held) deltas) set_is
        ∙ all_same (held_by cores) (site - 1) place_there new.arrivals more grows_here deltas keeping.kept

    pub state_same : state_of (slice_set cores (site - 1) new) (deltas_kept (slice_set cores (site - 1) new) deltas) ≡ state_of (slice_set cores (site - 1) new) (deltas_kept cores deltas)
    state_same = ap (state_of (slice_set cores (site - 1) new)) deltas_same

    pub keeping_on : IsWorld (slice_set cores (site - 1) new) (deltas_kept cores deltas) → IsKeeping (slice_set cores (site - 1) new) deltas
    keeping_on world = record {
      world = subst (λ (ds : List (List Placed)). IsWorld (slice_set cores (site - 1) new) ds) (sym deltas_same) world;
      kept = subst (λ (held : List (List Placed)). All (IsKeptDelta held) deltas) (sym set_is) (all_kept (held_by cores) (site - 1) place_there new.arrivals more grows_here deltas keeping.kept);
    }

  -- a delta more
  module _ (ranges : List LogRange) (count : ℕ → ℕ) (cut : in_ranges (logs_of old.arrivals) ranges ≡ entries_above count old.arrivals)
      (shape : IsDelta (in_ranges (logs_of old.arrivals) ranges)) (ends : ReachEnds (logs_of old.arrivals) ranges) (added : KeptDelta) (of : added.site ≡ site) (has : added.ranges.items ≡ ranges) where
    same_logs : logs_of (get_or (held_by cores) (added.site - 1) []) ≡ logs_of old.arrivals
    same_logs = ap (λ (k : ℕ). logs_of (get_or (held_by cores) (k - 1) [])) of ∙ ap logs_of (sym held_here)

    same_entries : entries_kept (held_by cores) added ≡ in_ranges (logs_of old.arrivals) ranges
    same_entries = λ i. in_ranges (same_logs i) (has i)

    pub cut_here : entries_kept (held_by cores) added ≡ entries_above count (held_at w site)
    cut_here = same_entries ∙ cut ∙ ap (λ (c : Core). entries_above count c.arrivals) core_is_held

    pub added_is_kept : IsKeptDelta (held_by cores) added
    added_is_kept = record {
      there = ap (λ (k : ℕ). nat_lt k 1 || nat_lt (length (held_by cores)) k) of ∙ site_there;
      ends = subst (λ (rs : List LogRange). ReachEnds (logs_of (get_or (held_by cores) (added.site - 1) [])) rs) (sym has) (subst (λ (log : ℕ → List Draft). ReachEnds log ranges) (sym same_logs) ends);
      shape = subst (λ (ds : List Placed). IsDelta ds) (sym same_entries) shape;
    }

    -- as many entries as are cut
    pub cut_size : length (entries_above count (held_at w site)) ≡ size_of ranges
    cut_size = ap length (sym (cut ∙ ap (λ (c : Core). entries_above count c.arrivals) core_is_held)) ∙ length_ranges (logs_of old.arrivals) ranges ends

    pub deltas_more : (all : List KeptDelta) → all ≡ deltas ++ added ∷ [] → deltas_kept cores all ≡ deltas_kept cores deltas ++ entries_kept (held_by cores) added ∷ []
    deltas_more all is = ap (deltas_kept cores) is ∙ map-append (entries_kept (held_by cores)) deltas (added ∷ [])

    pub all_with : (all : List KeptDelta) → all ≡ deltas ++ added ∷ [] → All (IsKeptDelta (held_by cores)) all
    all_with all is =
        subst (λ (ds : List KeptDelta). All (IsKeptDelta (held_by cores)) ds) (sym is)
        (All-append (IsKeptDelta (held_by cores)) deltas (added ∷ []) keeping.kept (All-cons (IsKeptDelta (held_by cores)) added [] added_is_kept (All-nil (IsKeptDelta (held_by cores)))))

-- ---- what is read of a delta

module _ (cores : List Core) (deltas : List KeptDelta) (place : ℕ) (kept : KeptDelta) (there : place < length deltas) (read : kept ≡ get_or deltas place kept) where
  pub entries_at : get_or (deltas_kept cores deltas) place [] ≡ entries_kept (held_by cores) kept
  entries_at =
      get_or_default (deltas_kept cores deltas) place [] (entries_kept (held_by cores) kept) (rw length-map there)
      ∙ get_or-map (entries_kept (held_by cores)) deltas place kept
      ∙ ap (entries_kept (held_by cores)) (sym read)

  pub kept_at : All (IsKeptDelta (held_by cores)) deltas → IsKeptDelta (held_by cores) kept
  kept_at all = subst (λ (k : KeptDelta). IsKeptDelta (held_by cores) k) (sym read) (All-get_or (IsKeptDelta (held_by cores)) deltas place kept there all)

pub giver_holds : (cores : List Core) (place : ℕ) (giver : Core) → place < length cores → giver ≡ get_or cores place giver → get_or (held_by cores) place [] ≡ giver.arrivals
giver_holds cores place giver there read =
    get_or_default (held_by cores) place [] giver.arrivals (rw length-map there)
    ∙ get_or-map (λ (core : Core). core.arrivals) cores place giver
    ∙ ap (λ (core : Core). core.arrivals) (sym read)

pub giver_there : (cores : List Core) (kept : KeptDelta) → IsKeptDelta (held_by cores) kept → kept.site - 1 < length cores
giver_there cores kept is =
    let size : length (held_by cores) ≡ length cores = length-map cores (λ core. core.arrivals) in
    let below : kept.site - 1 < length (held_by cores) = inside (length (held_by cores)) kept.site is.there in
    omega (arith, size, below)

module _ (cores : List Core) (deltas : List KeptDelta) (w : State) (view : state_of cores (deltas_kept cores deltas) ≡ w) (keeping : IsKeeping cores deltas)
    (place : ℕ) (kept : KeptDelta) (there : place < length deltas) (read : kept ≡ get_or deltas place kept)
    (giver : Core) (giver_read : giver ≡ get_or cores (kept.site - 1) giver) where
  abbrev of_giver : List Placed
  of_giver = in_ranges (logs_of giver.arrivals) kept.ranges.items

  it_is_kept : IsKeptDelta (held_by cores) kept
  it_is_kept = kept_at cores deltas place kept there read keeping.kept

  from_giver : of_giver ≡ entries_kept (held_by cores) kept
  from_giver = ap (λ (es : List Placed). in_ranges (logs_of es) kept.ranges.items) (sym (giver_holds cores (kept.site - 1) giver (giver_there cores kept it_is_kept) giver_read))

  -- what the giver's logs have there is the delta
  it_is_delta : of_giver ≡ get_or w.deltas place []
  it_is_delta = from_giver ∙ sym (entries_at cores deltas place kept there read) ∙ ap (λ (v : State). get_or v.deltas place []) view

  pub shape_of_giver : IsDelta of_giver
  shape_of_giver = subst (λ (ds : List Placed). IsDelta ds) (sym from_giver) it_is_kept.shape

  pub shape_of_delta : IsDelta (get_or w.deltas place [])
  shape_of_delta = subst (λ (ds : List Placed). IsDelta ds) it_is_delta shape_of_giver

  -- of the delta what is above a site's vector
  pub new_of_delta : (site : ℕ) (there : is_no_site w site ≡ false) (old : Core) (read : old ≡ get_or cores (site - 1) old) (count : ℕ → ℕ) → ((o : ℕ) → count o ≡ held_from o old.arrivals)
      → (new : List Placed) → new ≡ filter (is_above count) of_giver → new ≡ filter (is_above (λ o. held_from o (held_at w site))) (get_or w.deltas place [])
  new_of_delta site there old read count counts new is =
      let core : old ≡ core_at w site = old_is cores (deltas_kept cores deltas) w view keeping.world site there old read in
      is
      ∙ (λ i. filter (is_above (λ o. (counts o ∙ ap (λ (c : Core). held_from o c.arrivals) core) i)) (it_is_delta i))
