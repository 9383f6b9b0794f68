-- A peer catches up on one origin. Proof plumbing.
use Rattle.std.proofs.Common.{◌≡◌, ◌∙◌, inl, inr, refl, ap, sym, subst, ℕ, zero, suc, ◌+◌, ◌-◌, ◌<◌, ◌≤◌, Bool, true, false, not, cond, ◌||◌, List, [], ◌∷◌, ◌++◌, length, take, drop, filter, map, arith, append_assoc, length-append, nat_eq, nat_lt}
use Rattle.std.specs.Prelude.{Option, None}
use Rattle.std.specs.Option.{is_none}
use Rattle.std.proofs.lemmas.Bool.{eqb-true, false_from_ne_true, false≢true, ltb-false, ltb-true}
use Rattle.std.proofs.lemmas.Bool.Decides.{nat_tests}
use Rattle.std.proofs.Math.Bool.{or-true}
use Rattle.std.proofs.lemmas.List.{append-nil, take-append-drop}
use Rattle.sct_message.specs.declared.draft.Draft.{Draft}
use Rattle.sct_delta.specs.DeltaText.{delta_in}
use Rattle.sct_delta.specs.Entries.{IsDelta, Placed, entries_from, held_from, holds, is_from, log_of, numbered, same_entry}
use Rattle.sct_delta.specs.Laws.{IsReached}
use Rattle.sct_delta.specs.declared.fault.DeltaFault.{DeltaFault}
use Rattle.sct_delta.specs.Refusals.{has_site, is_held, message_at}
use Rattle.sct_delta.proofs.EntryLemmas.{from-numbered, from-numbered_other, length-numbered, log-append, log_is}
use Rattle.sct_delta.proofs.FittingLemmas.{at_least_first, refused_where_it_does_not_fit}
use Rattle.sct_delta.proofs.HeldLemmas.{entry_itself, holds_from, some_there}
use Rattle.sct_site.specs.Cores.{Core, IsSite, arrivals_joined, core_joined, fresh_entries, is_open, logs_of, refusal_by}
use Rattle.sct_site.proofs.ArrivalLemmas.{length-log}
use Rattle.sct_site.proofs.HeldLemmas.{any_kept, held_number, held_stands, joined_holds, kept_passes, one_place}
use Rattle.sct_site.proofs.SiteLemmas.{site_joined}
use Rattle.sct_exchange.specs.Journals.{Begins}
use Rattle.sct_exchange.specs.Rounds.{is_accepted}
use Rattle.sct_read_again.specs.ReadAgain.{MessagesAreReadAgain}
use Rattle.sct_exchange.specs.Entries.{entries_asked, entries_within, has_room_for, with_room}
use Rattle.sct_hub.specs.Hubs.{MayBegin, World, arrivals_in, site_in}
use Rattle.sct_hub.specs.OneOrigin.{AllCatchUp, AskingEnds, CatchesUpOn, EntriesHaveRoom, IsCaughtUp, IsLongestFront, NothingComes, PeersCatchUpOnOrigins, SitesCatchUpOnOrigins, after_asking}
use Rattle.sct_hub.specs.Restored.{AgreeSoFar, ArePeers, HasEachOf}
use Rattle.sct_hub.proofs.CatchUpLemmas.{agree_at, within_log}
use Rattle.sct_hub.proofs.EntriesLemmas.{IsAsked, asked_delta, asked_held, asked_is, some_taken}
use Rattle.sct_hub.proofs.HonestLemmas.{hubs_go_on, its_site, written_back}
use Rattle.sct_hub.proofs.PeerLemmas.{inside_here, open_too, own_most, peers_here}

-- ---- lists

-- a number above the length of a log has nothing behind it
drop_past : (k : ℕ) (xs : List Draft) → length xs ≤ k → drop k xs ≡ []
drop_past zero [] le = refl
drop_past zero (x ∷ xs) le = absurd (omega (arith, le))
drop_past (suc k) [] le = refl
drop_past (suc k) (x ∷ xs) le = drop_past k xs (omega (arith, le))

drop_none : (k : ℕ) (xs : List Draft) → drop k xs ≡ [] → length xs ≤ k
drop_none zero [] is = omega arith
drop_none zero (x ∷ xs) is = cc
drop_none (suc k) [] is = omega arith
drop_none (suc k) (x ∷ xs) is = let low : length xs ≤ k = drop_none k xs is in omega (arith, low)

take_none : (k : ℕ) (xs : List Draft) → xs ≡ [] → take k xs ≡ []
take_none zero xs none = refl
take_none (suc k) [] none = refl
take_none (suc k) (x ∷ xs) none = cc

take_own : (c : ℕ) (xs : List Draft) → take c xs ≡ take (length (take c xs)) xs
take_own zero xs = refl
take_own (suc c) [] = refl
take_own (suc c) (x ∷ xs) = ap (λ (l : List Draft). x ∷ l) (take_own c xs)

plus_none : (n : ℕ) → n ≡ 0 + n
plus_none n = omega arith

plus_suc : (a n : ℕ) → suc (a + n) ≡ suc a + n
plus_suc a n = omega arith

take_two : (a c : ℕ) (xs : List Draft) → a ≤ length xs → take a xs ++ take c (drop a xs) ≡ take (a + length (take c (drop a xs))) xs
take_two zero c xs low = take_own c xs ∙ ap (λ (n : ℕ). take n xs) (plus_none (length (take c xs)))
take_two (suc a) c [] low = absurd (omega (arith, low))
take_two (suc a) c (x ∷ xs) low =
    ap (λ (l : List Draft). x ∷ l) (take_two a c xs (omega (arith, low)))
    ∙ ap (λ (n : ℕ). take n (x ∷ xs)) (plus_suc a (length (take c (drop a xs))))

take_front : (xs ys : List Draft) → take (length xs) (xs ++ ys) ≡ xs
take_front [] ys = refl
take_front (x ∷ xs) ys = ap (λ (l : List Draft). x ∷ l) (take_front xs ys)

take_whole : (xs : List Draft) → take (length xs) xs ≡ xs
take_whole [] = refl
take_whole (x ∷ xs) = ap (λ (l : List Draft). x ∷ l) (take_whole xs)

none_by_length : (rest : List Draft) → length rest ≡ 0 → rest ≡ []
none_by_length [] is = refl
none_by_length (m ∷ rest) is = absurd (omega (arith, is))

-- a log that agrees so far, and is no longer, is the front
front_of : (whole part : List Draft) (k : ℕ) → AgreeSoFar whole part → length part ≡ k → k ≤ length whole → part ≡ take k whole
front_of whole part k (inl longer) size low =
    let none : longer.rest ≡ [] = none_by_length longer.rest (omega (arith, size, low, ap length longer.is, length-append whole longer.rest)) in
    let same : part ≡ whole = longer.is ∙ ap (λ (r : List Draft). whole ++ r) none ∙ append-nil whole in
    same ∙ sym (take_whole whole) ∙ ap (λ (n : ℕ). take n whole) (sym (ap length same) ∙ size)
front_of whole part k (inr shorter) size low =
    sym (take_front part shorter.rest) ∙ ap (take (length part)) (sym shorter.is) ∙ ap (λ (n : ℕ). take n whole) size

keep_all : (p : Placed → Bool) (es : List Placed) → ((e : Placed) → holds es e ≡ true → p e ≡ true) → filter p es ≡ es
keep_all p [] each = refl
keep_all p (e ∷ es) each =
    ap (λ (b : Bool). cond b (e ∷ filter p es) (filter p es)) (each e (ap (λ (b : Bool). b || holds es e) (entry_itself e)))
    ∙ ap (λ (l : List Placed). e ∷ l) (keep_all p es (λ x held. each x (ap (λ (b : Bool). same_entry e x || b) held ∙ or-true (same_entry e x))))

-- ---- the shape of what is asked for

module _ (giver taker : Core) (origin above most : ℕ) (peers : ArePeers giver taker) where
  abbrev delta : List Placed
  delta = entries_asked origin above most giver.arrivals

  asked : IsAsked origin above most giver.arrivals
  asked = asked_is origin above most giver.arrivals

  abbrev messages : List Draft
  messages = take asked.count (drop above (log_of origin giver.arrivals))

  held_there : (e : Placed) → holds delta e ≡ true → holds giver.arrivals e ≡ true
  held_there e among = asked_held origin above most giver.arrivals peers.giver_is.order e among

  its_origin : (e : Placed) → holds delta e ≡ true → e.origin ≡ origin
  its_origin e among = (elim (nat_eq origin e.origin) as (λ b. nat_eq origin e.origin ≡ b → e.origin ≡ origin) [
    | true ↦ λ same. sym (eqb-true origin e.origin same)
    | false ↦ λ other. absurd (false≢true
        (ap (λ (l : List Placed). holds l e) (sym (from-numbered_other e.origin origin (above + 1) messages other))
        ∙ sym (holds_from e (numbered origin (above + 1) messages))
        ∙ ap (λ (l : List Placed). holds l e) (sym asked.is) ∙ among))
  ]) refl

  first_of : (ms : List Draft) (d : List Placed) → d ≡ numbered origin (above + 1) ms → above ≤ held_from origin taker.arrivals → (e : Placed) → holds d e ≡ true → IsReached (logs_of taker.arrivals) d origin
  first_of [] d is low e among = absurd (false≢true (ap (λ (l : List Placed). holds l e) (sym is) ∙ among))
  first_of (m ∷ ms) d is low e among =
      let first : Placed = record { origin = origin; n = above + 1; message = m } in
      record {
        entry = first;
        among = ap (λ (l : List Placed). holds l first) is ∙ ap (λ (b : Bool). b || holds (numbered origin (above + 1 + 1) ms) first) (entry_itself first);
        from = refl;
        reached = omega (arith, low, length-log origin taker.arrivals);
      }

  pub asked_shape : IsDelta delta
  asked_shape = asked_delta giver peers.giver_is origin above most

  own_low : (e : Placed) → holds delta e ≡ true → e.origin ≡ taker.number → e.n ≤ length (log_of taker.number taker.arrivals)
  own_low e among is =
      let there : e.n ≤ length (log_of taker.number giver.arrivals) =
      within_log (log_of taker.number giver.arrivals) e.n e.message (ap (λ (o : ℕ). message_at (log_of o giver.arrivals) e.n) (sym is) ∙ one_place giver.arrivals peers.giver_is.order e (held_there e among)) in
      omega (arith, there, peers.own, length-log taker.number giver.arrivals, length-log taker.number taker.arrivals)

  pub asked_fits : above ≤ held_from origin taker.arrivals → refusal_by taker delta ≡ None
  asked_fits low =
      (refused_where_it_does_not_fit taker.number taker.group (logs_of taker.arrivals) delta asked_shape).1 (record {
        inside = λ e among. ap (λ (g : ℕ). has_site g e.origin) (sym peers.group) ∙ peers.giver_is.inside e (held_there e among);
        known = own_low;
        no_gap = λ e among. subst (λ (o : ℕ). IsReached (logs_of taker.arrivals) delta o) (sym (its_origin e among)) (first_of messages delta asked.is low e among);
        no_fork = λ e among below.
            held_stands taker.arrivals peers.taker_is.order e
            (held_number taker.arrivals peers.taker_is.order e.origin e.n e.message
            (agree_at (log_of e.origin giver.arrivals) (log_of e.origin taker.arrivals) (peers.agree e.origin) e.n e.message (one_place giver.arrivals peers.giver_is.order e (held_there e among)) below));
      })

  none_by : (ms : List Draft) → drop above (log_of origin giver.arrivals) ≡ ms → delta ≡ [] → held_from origin giver.arrivals ≤ above
  none_by [] is none = omega (arith, drop_none above (log_of origin giver.arrivals) is, length-log origin giver.arrivals)
  none_by (m ∷ ms) is none =
      let first : Placed = record { origin = origin; n = above + 1; message = m } in
      let found = some_taken most first (numbered origin (above + 1 + 1) ms) in
      let both : first ∷ take found.0 (numbered origin (above + 1 + 1) ms) ≡ [] = sym found.1 ∙ sym (ap (λ (l : List Draft). entries_within most (numbered origin (above + 1) l)) is) ∙ none in
      cc

  pub none_left : delta ≡ [] → held_from origin giver.arrivals ≤ above
  none_left none = none_by (drop above (log_of origin giver.arrivals)) refl none

  -- ---- if the taker has as many as it said, all of the delta is new

  module _ (exact : held_from origin taker.arrivals ≡ above) where
    is_new : (e : Placed) → holds delta e ≡ true → is_held (logs_of taker.arrivals) e ≡ false
    is_new e among = false_from_ne_true (is_held (logs_of taker.arrivals) e) (λ held.
        let low : e.n ≤ length (log_of origin taker.arrivals) =
        within_log (log_of origin taker.arrivals) e.n e.message (ap (λ (o : ℕ). message_at (log_of o taker.arrivals) e.n) (sym (its_origin e among)) ∙ some_there e.message (message_at (log_of e.origin taker.arrivals) e.n) held) in
        let high : above + 1 ≤ e.n =
        at_least_first delta origin (above + 1) messages e (ap (entries_from origin) asked.is ∙ from-numbered origin (above + 1) messages) (its_origin e among) among in
        absurd (omega (arith, low, high, exact, length-log origin taker.arrivals)))

    all_new : fresh_entries taker.arrivals delta ≡ delta
    all_new = keep_all (λ x. not (is_held (logs_of taker.arrivals) x)) delta (λ e among. ap not (is_new e among))

    log_joined : (o : ℕ) → log_of o (core_joined taker delta).arrivals ≡ log_of o taker.arrivals ++ log_of o delta
    log_joined o =
        log-append o taker.arrivals (fresh_entries taker.arrivals delta)
        ∙ ap (λ (d : List Placed). log_of o taker.arrivals ++ log_of o d) all_new

    log_here : log_of origin delta ≡ messages
    log_here = log_is origin (above + 1) messages delta (ap (entries_from origin) asked.is ∙ from-numbered origin (above + 1) messages)

    log_other : (o : ℕ) → nat_eq origin o ≡ false → log_of o delta ≡ []
    log_other o other = ap (λ (l : List Placed). map (λ entry. entry.message) l) (ap (entries_from o) asked.is ∙ from-numbered_other o origin (above + 1) messages other)

    size_is : length delta ≡ length messages
    size_is = ap length asked.is ∙ length-numbered origin (above + 1) messages

    pub count_joined : held_from origin (core_joined taker delta).arrivals ≡ held_from origin taker.arrivals + length delta
    count_joined =
        let size : length (log_of origin (core_joined taker delta).arrivals) ≡ length (log_of origin taker.arrivals ++ messages) =
        ap length (log_joined origin ∙ ap (λ (l : List Draft). log_of origin taker.arrivals ++ l) log_here) in
        omega (arith, size, size_is, length-append (log_of origin taker.arrivals) messages, length-log origin taker.arrivals, length-log origin (core_joined taker delta).arrivals)

    pub log_then : above ≤ held_from origin giver.arrivals → log_of origin (core_joined taker delta).arrivals ≡ take (above + length delta) (log_of origin giver.arrivals)
    log_then some =
        let low : above ≤ length (log_of origin giver.arrivals) = omega (arith, some, length-log origin giver.arrivals) in
        log_joined origin
        ∙ (λ i. front_of (log_of origin giver.arrivals) (log_of origin taker.arrivals) above (peers.agree origin) (omega (arith, exact, length-log origin taker.arrivals)) low i ++ log_here i)
        ∙ take_two above asked.count (log_of origin giver.arrivals) low
        ∙ ap (λ (k : ℕ). take (above + k) (log_of origin giver.arrivals)) (sym size_is)

    -- and they are still peers
    agree_then : (o : ℕ) → AgreeSoFar (log_of o giver.arrivals) (log_of o (core_joined taker delta).arrivals)
    agree_then o = (elim (nat_eq origin o) as (λ b. nat_eq origin o ≡ b → AgreeSoFar (log_of o giver.arrivals) (log_of o (core_joined taker delta).arrivals)) [
      | true ↦ λ same. subst (λ (p : ℕ). AgreeSoFar (log_of p giver.arrivals) (log_of p (core_joined taker delta).arrivals)) (eqb-true origin o same) agree_here
      | false ↦ λ other. subst (AgreeSoFar (log_of o giver.arrivals)) (sym (log_joined o ∙ ap (λ (l : List Draft). log_of o taker.arrivals ++ l) (log_other o other) ∙ append-nil (log_of o taker.arrivals))) (peers.agree o)
    ]) refl
      where
        agree_here : AgreeSoFar (log_of origin giver.arrivals) (log_of origin (core_joined taker delta).arrivals)
        agree_here = (elim (nat_lt (held_from origin giver.arrivals) above) as (λ b. nat_lt (held_from origin giver.arrivals) above ≡ b → AgreeSoFar (log_of origin giver.arrivals) (log_of origin (core_joined taker delta).arrivals)) [
          | true ↦ λ fewer.
              let past : messages ≡ [] = take_none asked.count (drop above (log_of origin giver.arrivals)) (drop_past above (log_of origin giver.arrivals) (omega (arith, ltb-true _ _ fewer, length-log origin giver.arrivals))) in
              subst (AgreeSoFar (log_of origin giver.arrivals))
              (sym (log_joined origin ∙ ap (λ (l : List Draft). log_of origin taker.arrivals ++ l) (log_here ∙ past) ∙ append-nil (log_of origin taker.arrivals))) (peers.agree origin)
          | false ↦ λ more.
              subst (AgreeSoFar (log_of origin giver.arrivals)) (sym (log_then (ltb-false _ _ more)))
              (inr (record { rest = drop (above + length delta) (log_of origin giver.arrivals); is = sym (take-append-drop (above + length delta) (log_of origin giver.arrivals)) }))
        ]) refl

    pub peers_then : ArePeers giver (core_joined taker delta)
    peers_then = record {
      giver_is = peers.giver_is;
      taker_is = site_joined taker delta peers.taker_is asked_shape (asked_fits (omega (arith, exact)));
      group = peers.group;
      agree = agree_then;
      own =
          let more : length (log_of taker.number (core_joined taker delta).arrivals) ≡ length (log_of taker.number taker.arrivals ++ log_of taker.number delta) = ap length (log_joined taker.number) in
          omega (arith, peers.own, more, length-append (log_of taker.number taker.arrivals) (log_of taker.number delta), length-log taker.number taker.arrivals, length-log taker.number (core_joined taker delta).arrivals);
    }

pub peers_catch_on : PeersCatchUpOnOrigins
peers_catch_on giver taker origin above most peers low = record {
  fits = asked_fits giver taker origin above most peers low;
  has = λ e among. joined_holds taker.arrivals (entries_asked origin above most giver.arrivals) peers.taker_is.order e among;
  none = none_left giver taker origin above most peers;
  log = log_then giver taker origin above most peers;
}

pub sites_catch_on : MessagesAreReadAgain → SitesCatchUpOnOrigins
sites_catch_on again sites world hub giver taker first second origin above most low few =
    let begun : MayBegin sites world = hubs_go_on again sites world hub in
    let read = (written_back again sites world begun giver first few).entries origin above most in
    let catches : CatchesUpOn (site_in sites world giver) (site_in sites world taker) origin above (entries_asked origin above most (arrivals_in sites world giver)) =
    peers_catch_on (site_in sites world giver) (site_in sites world taker) origin above most (peers_here sites world begun giver taker first second) low in
    (ap (is_accepted (site_in sites world taker)) read ∙ ap (λ (o : Option DeltaFault). is_none o) catches.fits, catches)

-- ---- asking again and again

nothing_asked : (origin above most : ℕ) (giver : Core) → held_from origin giver.arrivals ≤ above → entries_asked origin above most giver.arrivals ≡ []
nothing_asked origin above most giver few =
    ap (λ (l : List Draft). entries_within most (numbered origin (above + 1) l)) (drop_past above (log_of origin giver.arrivals) (omega (arith, few, length-log origin giver.arrivals)))

some_more : (delta : List Placed) → (delta ≡ [] → ⊥) → 1 ≤ length delta
some_more [] none = absurd (none refl)
some_more (e ∷ rest) none = omega arith

less_left : (giver taker : Core) (origin most times : ℕ) (peers : ArePeers giver taker) → held_from origin giver.arrivals - held_from origin taker.arrivals ≤ suc times
    → held_from origin giver.arrivals - held_from origin (core_joined taker (entries_asked origin (held_from origin taker.arrivals) most giver.arrivals)).arrivals ≤ times
less_left giver taker origin most times peers low =
    let have : ℕ = held_from origin taker.arrivals in
    let delta : List Placed = entries_asked origin have most giver.arrivals in
    let count : held_from origin (core_joined taker delta).arrivals ≡ have + length delta = count_joined giver taker origin have most peers refl in
    (elim (nat_lt have (held_from origin giver.arrivals)) as (λ b. nat_lt have (held_from origin giver.arrivals) ≡ b → held_from origin giver.arrivals - held_from origin (core_joined taker delta).arrivals ≤ times) [
      | true ↦ λ fewer.
          let some : 1 ≤ length delta = some_more delta (λ none. let all : held_from origin giver.arrivals ≤ have = none_left giver taker origin have most peers none in absurd (omega (arith, all, ltb-true _ _ fewer))) in
          omega (arith, low, some, count)
      | false ↦ λ all. omega (arith, ltb-false _ _ all, count)
    ]) refl

pub asking_ends : AskingEnds
asking_ends giver taker origin most zero peers low =
    let all : held_from origin giver.arrivals ≤ held_from origin taker.arrivals = omega (arith, low) in
    record { none = nothing_asked origin (held_from origin taker.arrivals) most giver all; all = all }
asking_ends giver taker origin most (suc times) peers low =
    asking_ends giver (core_joined taker (entries_asked origin (held_from origin taker.arrivals) most giver.arrivals)) origin most times
    (peers_then giver taker origin (held_from origin taker.arrivals) most peers refl)
    (less_left giver taker origin most times peers low)

-- ---- all sites

numbered_none : (o n : ℕ) (ms : List Draft) → numbered o n ms ≡ [] → ms ≡ []
numbered_none o n [] is = refl
numbered_none o n (m ∷ ms) is = cc

module _ (sites : ℕ) (world : World) (begun : MayBegin sites world) (done : NothingComes sites world) where
  -- each site has as many entries of an origin as the site of the origin
  as_many : (site o : ℕ) → is_open site sites ≡ true → is_open o sites ≡ true → held_from o (arrivals_in sites world site) ≡ held_from o (arrivals_in sites world o)
  as_many site o valid there =
      let none = drop_none (held_from o (arrivals_in sites world site)) (log_of o (arrivals_in sites world o)) (numbered_none o (held_from o (arrivals_in sites world site) + 1) _ (done site o valid there)) in
      omega (arith, none, own_most sites world begun site o valid, length-log o (arrivals_in sites world o))

  outside_not : (site o : ℕ) (e : Placed) (es : List Placed) → is_open site sites ≡ true → entries_from o (arrivals_in sites world site) ≡ e ∷ es → is_open o sites ≡ true
  outside_not site o e es valid is =
      let passes : is_from o e ≡ true = kept_passes (is_from o) (arrivals_in sites world site) e (ap (λ (l : List Placed). holds l e) is ∙ ap (λ (b : Bool). b || holds es e) (entry_itself e)) in
      let held : holds (arrivals_in sites world site) e ≡ true =
      any_kept (is_from o) (λ x. same_entry x e) (arrivals_in sites world site) (ap (λ (l : List Placed). holds l e) is ∙ ap (λ (b : Bool). b || holds es e) (entry_itself e)) in
      ap (λ (x : ℕ). is_open x sites) (sym (eqb-true e.origin o passes)) ∙ open_too site sites e.origin valid (inside_here sites world begun site valid e held)

  -- a site has no entries of an origin that the group does not have
  none_outside : (site o : ℕ) → is_open site sites ≡ true → is_open o sites ≡ false → held_from o (arrivals_in sites world site) ≡ 0
  none_outside site o valid outside = counted (entries_from o (arrivals_in sites world site)) refl
    where
      counted : (es : List Placed) → entries_from o (arrivals_in sites world site) ≡ es → length es ≡ 0
      counted [] is = refl
      counted (e ∷ es) is = absurd (false≢true (sym outside ∙ outside_not site o e es valid is))

pub all_catch_up : MessagesAreReadAgain → AllCatchUp
all_catch_up again sites world hub done one other first second o =
    (elim (is_open o sites) as (λ b. is_open o sites ≡ b → held_from o (arrivals_in sites world one) ≡ held_from o (arrivals_in sites world other)) [
      | true ↦ λ there. as_many sites world (hubs_go_on again sites world hub) done one o first there ∙ sym (as_many sites world (hubs_go_on again sites world hub) done other o second there)
      | false ↦ λ outside. none_outside sites world (hubs_go_on again sites world hub) done one o first outside ∙ sym (none_outside sites world (hubs_go_on again sites world hub) done other o second outside)
    ]) refl

-- ---- as many as have room

-- What is taken at the end is a longest front.
record EndsAt (most : ℕ) (all out : List Placed) : Type 0 where
  left : List Placed
  is : all ≡ out ++ left
  some : 0 < length out
  room : 1 < length out → has_room_for most out ≡ true
  full : (entry : Placed) (more : List Placed) → left ≡ entry ∷ more → has_room_for most (out ++ entry ∷ []) ≡ true → ⊥

not_zero : (n : ℕ) → 0 < n → nat_eq n 0 ≡ false
not_zero n some = grind (arith, nat_tests, some)

not_none : (es : List Placed) → 0 < length es → nat_eq (length es) 0 ≡ false
not_none es some = not_zero (length es) some

ends_at : (most : ℕ) (rest taken : List Placed) → 0 < length taken → (1 < length taken → has_room_for most taken ≡ true) → EndsAt most (taken ++ rest) (with_room most taken rest)
ends_at most [] taken some room = record { left = []; is = refl; some = some; room = room; full = λ entry more is fits. cc }
ends_at most (e ∷ rest) taken some room = rw (not_none taken some)
    ((elim (has_room_for most (taken ++ e ∷ [])) as (λ b. has_room_for most (taken ++ e ∷ []) ≡ b → EndsAt most (taken ++ e ∷ rest) (cond b (with_room most (taken ++ e ∷ []) rest) taken)) [
      | true ↦ λ fits.
          subst (λ (l : List Placed). EndsAt most l (with_room most (taken ++ e ∷ []) rest)) (append_assoc taken (e ∷ []) rest)
          (ends_at most rest (taken ++ e ∷ []) (omega (arith, some, length-append taken (e ∷ []))) (λ more. fits))
      | false ↦ λ full. record {
        left = e ∷ rest;
        is = refl;
        some = some;
        room = room;
        full = λ entry more is fits.
            let same : e ≡ entry = cc in
            false≢true (sym full ∙ ap (λ (x : Placed). has_room_for most (taken ++ x ∷ [])) same ∙ fits);
      }
    ]) refl)

pub have_room : EntriesHaveRoom
have_room most [] = record { rest = []; is = refl; some = λ none. none; room = λ none. absurd (omega (arith, none)); full = λ entry more is fits. cc }
have_room most (e ∷ rest) =
    let found : EndsAt most (e ∷ rest) (with_room most (e ∷ []) rest) = ends_at most rest (e ∷ []) (omega arith) (λ more. absurd (omega (arith, more))) in
    record { rest = found.left; is = found.is; some = λ some. found.some; room = found.room; full = found.full }
