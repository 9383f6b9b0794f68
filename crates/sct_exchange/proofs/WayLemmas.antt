-- What rounds come to: the deltas that were accepted, and the files that are left. Proof plumbing.
use Rattle.std.proofs.Common.{◌≡◌, ◌∙◌, ◌⊎◌, inl, inr, refl, ap, sym, subst, ℕ, zero, suc, ◌+◌, true, false, not, cond, ◌&&◌, List, [], ◌∷◌, ◌++◌, length, map, arith, nat_eq, nat_lt}
use Rattle.std.specs.Prelude.{Option, Some, None, Ok, Err}
use Rattle.std.specs.List.{enumerate_from, list_any}
use Rattle.std.specs.Option.{is_none}
use Rattle.std.proofs.lemmas.Bool.{eqb-true, or_parts}
use Rattle.std.proofs.lemmas.List.FromFn.{length-enumerate_from}
use Rattle.sct_message.specs.declared.draft.Draft.{Draft}
use Rattle.sct_message.proofs.SameValues.{message_itself}
use Rattle.sct_message.proofs.Tests.{none_kept as filter_none}
use Rattle.sct_delta.specs.DeltaText.{delta_in, delta_of_lines}
use Rattle.sct_delta.specs.Entries.{Placed, IsArrivals, IsDelta, holds, log_of}
use Rattle.sct_delta.specs.Refusals.{message_at, is_other_than, is_held, is_fork, is_ahead, is_outside, is_past}
use Rattle.sct_delta.specs.TextLines.{Line, lines_by_end}
use Rattle.sct_delta.specs.declared.fault.DeltaFault.{DeltaFault}
use Rattle.sct_delta.proofs.DeltaLemmas.{shape_from_read}
use Rattle.sct_delta.proofs.HeldLemmas.{passes_none}
use Rattle.sct_delta.proofs.JoinLemmas.{passed, unrefused}
use Rattle.sct_site.specs.Cores.{Core, IsSite, core_joined, fresh_entries, logs_of, refusal_by}
use Rattle.sct_site.proofs.HeldLemmas.{held_stands, joined_holds, kept_first, none_first, not_past, one_place, within}
use Rattle.sct_site.proofs.SiteLemmas.{site_joined}
use Rattle.sct_exchange.specs.Rounds.{File, Numbered, Offers, accepts_some, core_with, exchanged, files_in, is_accepted, leaving, numbered_files, refusal_of, refused_by, round, rounds}
use Rattle.sct_exchange.specs.Ways.{AreAccepted, IsAmong, IsExchanged}
use Rattle.sct_exchange.specs.declared.refused.RefusedFile.{RefusedFile}
use Rattle.sct_exchange.proofs.RoundLemmas.{rounds_end}

-- ---- values of a list

pub among_map : {X Y : Type 0} (f : X → Y) (xs : List X) (y : Y) → IsAmong (map f xs) y → (x : X) × (IsAmong xs x × (y ≡ f x))
among_map f [] y among = absurd among
among_map f (x ∷ xs) y (inl is) = (x, (inl refl, is))
among_map f (x ∷ xs) y (inr later) = let rest = among_map f xs y later in (rest.0, (inr rest.1.0, rest.1.1))

pub mapped : {X Y : Type 0} (f : X → Y) (xs : List X) (x : X) → IsAmong xs x → IsAmong (map f xs) (f x)
mapped f [] x among = absurd among
mapped f (first ∷ xs) x (inl is) = inl (ap f is)
mapped f (first ∷ xs) x (inr later) = inr (mapped f xs x later)

-- a value has a number in a list with numbers
pub numbered_among : (n : ℕ) (files : List File) (file : File) → IsAmong files file → (k : ℕ) × IsAmong (enumerate_from n files) (k, file)
numbered_among n [] file among = absurd among
numbered_among n (first ∷ files) file (inl is) = (n, inl (λ i. (n, is i)))
numbered_among n (first ∷ files) file (inr later) = let rest = numbered_among (n + 1) files file later in (rest.0, inr rest.1)

pub unnumbered : (n : ℕ) (files : List File) (file : Numbered) → IsAmong (enumerate_from n files) file → IsAmong files file.1
unnumbered n [] file among = absurd among
unnumbered n (first ∷ files) file (inl is) = inl (ap (λ (f : Numbered). f.1) is)
unnumbered n (first ∷ files) file (inr later) = inr (unnumbered (n + 1) files file later)

-- ---- the shape of a delta that is read

shape_of_lines : (lines : List Line) (entries : List Placed) → delta_of_lines lines ≡ Ok entries → IsDelta entries
shape_of_lines [] entries read = cc
shape_of_lines (None ∷ lines) entries read = cc
shape_of_lines (Some line ∷ lines) entries read = shape_from_read line lines entries read

pub delta_shape : (text : List ℕ) (entries : List Placed) → delta_in text ≡ Ok entries → IsDelta entries
unfolding delta_in
delta_shape text entries read = shape_of_lines (lines_by_end text) entries read

-- each delta among the files has the shape of one
abbrev pub AreDeltas : List File → Type 0
AreDeltas files = (delta : List Placed) → IsAmong files (Ok delta) → IsDelta delta

pub texts_are_deltas : (texts : List (List ℕ)) → AreDeltas (files_in texts)
texts_are_deltas texts delta among =
    let from = among_map delta_in texts (Ok delta) among in
    delta_shape from.0 delta (sym from.1.1)

-- ---- an accepted file

pub record IsDeltaOf (core : Core) (file : File) : Type 0 where
  pub delta : List Placed
  pub is : file ≡ Ok delta
  pub fits : refusal_by core delta ≡ None

no_refusal : (o : Option DeltaFault) → is_none o ≡ true → o ≡ None
no_refusal None e = refl
no_refusal (Some f) e = cc

pub accepted_is : (core : Core) (file : File) → is_accepted core file ≡ true → IsDeltaOf core file
accepted_is core (Ok delta) accepts = record { delta = delta; is = refl; fits = no_refusal (refusal_by core delta) accepts }
accepted_is core (Err line) accepts = cc

-- ---- deltas that are accepted one after another

pub record IsWay (files : List File) (before after : Core) : Type 0 where
  pub deltas : List (List Placed)
  pub accepted : AreAccepted files before deltas after

pub way_none : (files : List File) (core : Core) → IsWay files core core
way_none files core = record { deltas = []; accepted = refl }

pub way_first : (files : List File) (before : Core) (delta : List Placed) (after : Core) → IsAmong files (Ok delta) → refusal_by before delta ≡ None
    → IsWay files (core_joined before delta) after → IsWay files before after
way_first files before delta after among fits rest = record { deltas = delta ∷ rest.deltas; accepted = (among, fits, rest.accepted) }

accepted_on : (files : List File) (before mid after : Core) (first later : List (List Placed)) → AreAccepted files before first mid → AreAccepted files mid later after
    → AreAccepted files before (first ++ later) after
accepted_on files before mid after [] later one two = subst (λ (c : Core). AreAccepted files c later after) one two
accepted_on files before mid after (delta ∷ first) later one two =
    (one.0, one.1, accepted_on files (core_joined before delta) mid after first later one.2 two)

pub way_on : (files : List File) (before mid after : Core) → IsWay files before mid → IsWay files mid after → IsWay files before after
way_on files before mid after one two = record {
  deltas = one.deltas ++ two.deltas;
  accepted = accepted_on files before mid after one.deltas two.deltas one.accepted two.accepted;
}

pub site_along : (files : List File) → AreDeltas files → (deltas : List (List Placed)) (before after : Core) → IsSite before → AreAccepted files before deltas after → IsSite after
site_along files shapes [] before after site is = subst (λ (c : Core). IsSite c) (sym is) site
site_along files shapes (delta ∷ deltas) before after site way =
    site_along files shapes deltas (core_joined before delta) after (site_joined before delta site (shapes delta way.0) way.1) way.2

-- ---- a delta that the site has

-- The file is a delta, the site has every entry of it, and its group has their sites.
pub record HasFile (core : Core) (file : File) : Type 0 where
  pub delta : List Placed
  pub is : file ≡ Ok delta
  pub inside : list_any (is_outside core.group) delta ≡ false
  pub held : (entry : Placed) → holds delta entry ≡ true → holds core.arrivals entry ≡ true

pub has_joined : (core : Core) (file : File) (delta : List Placed) → IsArrivals core.arrivals → file ≡ Ok delta → refusal_by core delta ≡ None → HasFile (core_joined core delta) file
has_joined core file delta arrive is fits = record {
  delta = delta;
  is = is;
  inside = (passed core.number core.group (logs_of core.arrivals) delta fits).inside;
  held = λ e among. joined_holds core.arrivals delta arrive e among;
}

pub still_has : (core : Core) (file : File) (delta : List Placed) → HasFile core file → HasFile (core_joined core delta) file
still_has core file delta has = record {
  delta = has.delta;
  is = has.is;
  inside = has.inside;
  held = λ e among. kept_first core.arrivals (fresh_entries core.arrivals delta) e (has.held e among);
}

pub has_along : (files : List File) (deltas : List (List Placed)) (before after : Core) (file : File) → AreAccepted files before deltas after → HasFile before file → HasFile after file
has_along files [] before after file is has = subst (λ (c : Core). HasFile c file) (sym is) has
has_along files (delta ∷ deltas) before after file way has =
    has_along files deltas (core_joined before delta) after file way.2 (still_has before file delta has)

-- nothing of it is new
pub none_fresh : (core : Core) (file : File) (delta : List Placed) → IsArrivals core.arrivals → HasFile core file → file ≡ Ok delta → fresh_entries core.arrivals delta ≡ []
none_fresh core file delta arrive has is =
    let same : has.delta ≡ delta = let e : Ok has.delta ≡ file = sym has.is in cc in
    ap (fresh_entries core.arrivals) (sym same)
    ∙ filter_none (λ e. not (is_held (logs_of core.arrivals) e)) has.delta
    (passes_none _ has.delta (λ e among. ap not (held_stands core.arrivals arrive e (has.held e among))))

not_ahead : (own : ℕ) (es : List Placed) (e : Placed) → message_at (log_of e.origin es) e.n ≡ Some e.message → is_ahead own (logs_of es) e ≡ false
not_ahead own es e there =
    elim (nat_eq e.origin own) as (λ b. nat_eq e.origin own ≡ b → (b && nat_lt (length (log_of own es)) e.n) ≡ false) [
      | true ↦ λ same.
          let site : e.origin ≡ own = eqb-true e.origin own same in
          within (log_of own es) e.n e.message (ap (λ (o : ℕ). message_at (log_of o es) e.n) (sym site) ∙ there)
      | false ↦ λ other. refl
    ] refl

not_other : (m : Draft) (o : Option Draft) → o ≡ Some m → is_other_than m o ≡ false
not_other m o is = ap (is_other_than m) is ∙ ap not (message_itself m)

-- and it is not refused
pub not_refused : (core : Core) (file : File) → IsArrivals core.arrivals → HasFile core file → refusal_of core file ≡ None
not_refused core file arrive has =
    let place : (e : Placed) → holds has.delta e ≡ true → message_at (log_of e.origin core.arrivals) e.n ≡ Some e.message = λ e among. one_place core.arrivals arrive e (has.held e among) in
    ap (refusal_of core) has.is
    ∙ unrefused core.number core.group (logs_of core.arrivals) has.delta (record {
      inside = has.inside;
      known = passes_none (is_ahead core.number (logs_of core.arrivals)) has.delta (λ e among. not_ahead core.number core.arrivals e (place e among));
      no_gap = none_first (is_past (logs_of core.arrivals)) 0 has.delta (passes_none (is_past (logs_of core.arrivals)) has.delta (λ e among.
          not_past (length (log_of e.origin core.arrivals)) e.n (within (log_of e.origin core.arrivals) e.n e.message (place e among))));
      no_fork = passes_none (is_fork (logs_of core.arrivals)) has.delta (λ e among. not_other e.message (message_at (log_of e.origin core.arrivals) e.n) (place e among));
    })

-- ---- what is left of the files: the site has each of the others

abbrev pub IsLeftOf : Core → List Numbered → List Numbered → Type 0
IsLeftOf core [] left = left ≡ []
IsLeftOf core (file ∷ files) left =
    (HasFile core file.1 × IsLeftOf core files left)
    ⊎ ((rest : List Numbered) × ((left ≡ file ∷ rest) × IsLeftOf core files rest))

all_left : (core : Core) (files : List Numbered) → IsLeftOf core files files
all_left core [] = refl
all_left core (file ∷ files) = inr (files, (refl, all_left core files))

-- what is left of what is left
left_on : (before after : Core) → ((file : File) → HasFile before file → HasFile after file) → (files mid left : List Numbered)
    → IsLeftOf before files mid → IsLeftOf after mid left → IsLeftOf after files left
left_on before after grows [] mid left one two = subst (λ (l : List Numbered). IsLeftOf after l left) one two
left_on before after grows (file ∷ files) mid left (inl has) two = inl (grows file.1 has.0, left_on before after grows files mid left has.1 two)
left_on before after grows (file ∷ files) mid left (inr one) two =
    elim (subst (λ (l : List Numbered). IsLeftOf after l left) one.1.0 two) as (λ c. IsLeftOf after (file ∷ files) left) [
      | inl has ↦ inl (has.0, left_on before after grows files one.0 left one.1.1 has.1)
      | inr more ↦ inr (more.0, (more.1.0, left_on before after grows files one.0 more.0 one.1.1 more.1.1))
    ]

-- a file is left, or the site has it
left_or_has : (core : Core) (files left : List Numbered) → IsLeftOf core files left → (file : Numbered) → IsAmong files file → HasFile core file.1 ⊎ IsAmong left file
left_or_has core [] left is file among = absurd among
left_or_has core (first ∷ files) left (inl has) file (inl here) = inl (subst (λ (f : Numbered). HasFile core f.1) (sym here) has.0)
left_or_has core (first ∷ files) left (inl has) file (inr later) = left_or_has core files left has.1 file later
left_or_has core (first ∷ files) left (inr one) file (inl here) = inr (subst (λ (l : List Numbered). IsAmong l file) (sym one.1.0) (inl here))
left_or_has core (first ∷ files) left (inr one) file (inr later) =
    elim (left_or_has core files one.0 one.1.1 file later) as (λ c. HasFile core file.1 ⊎ IsAmong left file) [
      | inl has ↦ inl has
      | inr rest ↦ inr (subst (λ (l : List Numbered). IsAmong l file) (sym one.1.0) (inr rest))
    ]

left_among : (core : Core) (files left : List Numbered) → IsLeftOf core files left → (file : Numbered) → IsAmong left file → IsAmong files file
left_among core [] left is file among = absurd (subst (λ (l : List Numbered). IsAmong l file) is among)
left_among core (first ∷ files) left (inl has) file among = inr (left_among core files left has.1 file among)
left_among core (first ∷ files) left (inr one) file among =
    elim (subst (λ (l : List Numbered). IsAmong l file) one.1.0 among) as (λ c. IsAmong (first ∷ files) file) [
      | inl here ↦ inl here
      | inr rest ↦ inr (left_among core files one.0 one.1.1 file rest)
    ]

-- a refused file before others
abbrev told_before : Numbered → Option DeltaFault → List RefusedFile → List RefusedFile
told_before file None others = others
told_before file (Some reason) others = record { number = file.0; fault = reason } ∷ others

told_first : (core : Core) (file : Numbered) (files : List Numbered) (o : Option DeltaFault) → refusal_of core file.1 ≡ o → refused_by core (file ∷ files) ≡ told_before file o (refused_by core files)
told_first core file files None is = rw is refl
told_first core file files (Some reason) is = rw is refl

-- the site refuses what is left, and no other file
pub refused_left : (core : Core) → IsArrivals core.arrivals → (files left : List Numbered) → IsLeftOf core files left → refused_by core left ≡ refused_by core files
refused_left core arrive [] left is = ap (refused_by core) is
refused_left core arrive (file ∷ files) left (inl has) =
    refused_left core arrive files left has.1 ∙ sym (told_first core file files None (not_refused core file.1 arrive has.0))
refused_left core arrive (file ∷ files) left (inr one) =
    ap (refused_by core) one.1.0
    ∙ told_first core file one.0 (refusal_of core file.1) refl
    ∙ ap (told_before file (refusal_of core file.1)) (refused_left core arrive files one.0 one.1.1)
    ∙ sym (told_first core file files (refusal_of core file.1) refl)

-- ---- one round

-- What a round comes to from a site and files that are among all files.
record IsRound (all : List File) (core : Core) (files : List Numbered) (after : Offers) : Type 0 where
  way : IsWay all core after.core
  left : IsLeftOf after.core files after.left

module _ (all : List File) (shapes : AreDeltas all) where
  round_is : (core : Core) (files : List Numbered) → IsSite core → ((file : Numbered) → IsAmong files file → IsAmong all file.1) → IsRound all core files (round core files)
  round_is core [] site among = record { way = way_none all core; left = refl }
  round_is core (file ∷ files) site among =
      elim (is_accepted core file.1) as (λ b. is_accepted core file.1 ≡ b → IsRound all core (file ∷ files) (cond b (round (core_with core file.1) files) (leaving file (round core files)))) [
        | true ↦ λ accepts.
            let is : IsDeltaOf core file.1 = accepted_is core file.1 accepts in
            let here : IsAmong all (Ok is.delta) = subst (λ (f : File). IsAmong all f) is.is (among file (inl refl)) in
            let joined : core_with core file.1 ≡ core_joined core is.delta = ap (core_with core) is.is in
            let rest : IsRound all (core_joined core is.delta) files (round (core_joined core is.delta) files) =
            round_is (core_joined core is.delta) files (site_joined core is.delta site (shapes is.delta here) is.fits) (λ f later. among f (inr later)) in
            subst (λ (c : Core). IsRound all core (file ∷ files) (round c files)) (sym joined)
            (record {
              way = way_first all core is.delta (round (core_joined core is.delta) files).core here is.fits rest.way;
              left = inl (
                has_along all rest.way.deltas (core_joined core is.delta) (round (core_joined core is.delta) files).core file.1 rest.way.accepted
                    (has_joined core file.1 is.delta site.order is.is is.fits),
                rest.left,
              );
            })
        | false ↦ λ refuses.
            let rest : IsRound all core files (round core files) = round_is core files site (λ f later. among f (inr later)) in
            record { way = rest.way; left = inr ((round core files).left, (refl, rest.left)) }
      ] refl

  rounds_are : (more : ℕ) (now : Offers) → IsSite now.core → ((file : Numbered) → IsAmong now.left file → IsAmong all file.1) → IsRound all now.core now.left (rounds more now)
  rounds_are zero now site among = record { way = way_none all now.core; left = all_left now.core now.left }
  rounds_are (suc more) now site among =
      elim (accepts_some now) as (λ b. IsRound all now.core now.left (cond b (rounds more (round now.core now.left)) now)) [
        | true ↦
            let next : Offers = round now.core now.left in
            let one : IsRound all now.core now.left next = round_is now.core now.left site among in
            let others : IsRound all next.core next.left (rounds more next) =
            rounds_are more next (site_along all shapes one.way.deltas now.core next.core site one.way.accepted) (λ f left. among f (left_among next.core now.left next.left one.left f left)) in
            record {
              way = way_on all now.core next.core (rounds more next).core one.way others.way;
              left = left_on next.core (rounds more next).core (λ f has. has_along all others.way.deltas next.core (rounds more next).core f others.way.accepted has)
                  now.left next.left (rounds more next).left one.left others.left;
            }
        | false ↦ record { way = way_none all now.core; left = all_left now.core now.left }
      ]

-- ---- the whole exchange

refused_each : (core : Core) (left : List Numbered) → list_any (λ file. is_accepted core file.1) left ≡ false → (file : Numbered) → IsAmong left file → is_accepted core file.1 ≡ false
refused_each core [] none file among = absurd among
refused_each core (first ∷ left) none file (inl here) =
    ap (λ (f : Numbered). is_accepted core f.1) here ∙ (or_parts (is_accepted core first.1) (list_any (λ f. is_accepted core f.1) left) none).0
refused_each core (first ∷ left) none file (inr later) =
    refused_each core left (or_parts (is_accepted core first.1) (list_any (λ f. is_accepted core f.1) left) none).1 file later

module _ (core : Core) (site : IsSite core) (files : List File) (shapes : AreDeltas files) where
  abbrev start : Offers
  start = record { core = core; left = numbered_files files }

  came : IsRound files core (numbered_files files) (exchanged core files)
  unfolding exchanged
  came = rounds_are files shapes (length files) start site (λ file among. unnumbered 2 files file among)

  pub site_exchanged : IsSite (exchanged core files).core
  site_exchanged = site_along files shapes came.way.deltas core (exchanged core files).core site came.way.accepted

  ended : accepts_some (exchanged core files) ≡ false
  unfolding exchanged
  ended = rounds_end (length files) start (omega (arith, length-enumerate_from 2 files))

  fits_none : (delta : List Placed) → IsAmong files (Ok delta) → refusal_by (exchanged core files).core delta ≡ None → fresh_entries (exchanged core files).core.arrivals delta ≡ []
  fits_none delta among fits =
      let found : (k : ℕ) × IsAmong (numbered_files files) (k, Ok delta) = numbered_among 2 files (Ok delta) among in
      let accepted : is_accepted (exchanged core files).core (Ok delta) ≡ true = ap (λ (o : Option DeltaFault). is_none o) fits in
      elim (left_or_has (exchanged core files).core (numbered_files files) (exchanged core files).left came.left (found.0, Ok delta) found.1) as (λ c. fresh_entries (exchanged core files).core.arrivals delta ≡ []) [
        | inl has ↦ none_fresh (exchanged core files).core (Ok delta) delta site_exchanged.order has refl
        | inr left ↦
            let refused : is_accepted (exchanged core files).core (Ok delta) ≡ false = refused_each (exchanged core files).core (exchanged core files).left ended (found.0, Ok delta) left in
            cc
      ]

  pub exchanged_is : IsExchanged files core (exchanged core files).core
  exchanged_is = record { deltas = came.way.deltas; accepted = came.way.accepted; complete = fits_none }

  pub refused_is : refused_by (exchanged core files).core (exchanged core files).left ≡ refused_by (exchanged core files).core (numbered_files files)
  refused_is = refused_left (exchanged core files).core site_exchanged.order (numbered_files files) (exchanged core files).left came.left
