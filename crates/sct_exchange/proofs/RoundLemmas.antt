-- Rounds, one file and one round after another. Proof plumbing.
use Rattle.std.proofs.Common.{◌≡◌, ◌∙◌, refl, ap, sym, subst, ℕ, zero, suc, ◌+◌, ◌<◌, ◌≤◌, Bool, true, false, cond, ◌||◌, List, [], ◌∷◌, ◌++◌, length, take, get_or, arith, append_assoc, add-one, take-suc}
use Rattle.std.specs.Prelude.{Option, Some, None, option_map}
use Rattle.std.specs.List.{list_any}
use Rattle.std.proofs.lemmas.Bool.{false≢true}
use Rattle.std.proofs.lemmas.List.Elements.{filter_map-append}
use Rattle.std.proofs.lemmas.List.FromFn.{length-enumerate_from}
use Rattle.sct_delta.specs.declared.fault.DeltaFault.{DeltaFault}
use Rattle.sct_site.specs.Cores.{Core}
use Rattle.sct_exchange.specs.Rounds.{File, Numbered, Offers, accepts_some, core_with, exchanged, is_accepted, leaving, numbered_files, refusal_of, refused_by, round, rounds}
use Rattle.sct_exchange.specs.declared.refused.RefusedFile.{RefusedFile}

-- ---- within a round

-- the files that were left so far, and what is still to come
abbrev pub after_those : List Numbered → Offers → Offers
after_those left offers = record { core = offers.core; left = left ++ offers.left }

pub accepted_next : (left : List Numbered) (core : Core) (file : Numbered) (rest : List Numbered) → is_accepted core file.1 ≡ true
    → after_those left (round (core_with core file.1) rest) ≡ after_those left (round core (file ∷ rest))
accepted_next left core file rest accepted =
    sym (ap (λ (b : Bool). after_those left (cond b (round (core_with core file.1) rest) (leaving file (round core rest)))) accepted)

pub left_next : (left : List Numbered) (core : Core) (file : Numbered) (rest : List Numbered) → is_accepted core file.1 ≡ false
    → after_those (left ++ file ∷ []) (round core rest) ≡ after_those left (round core (file ∷ rest))
left_next left core file rest refused =
    (λ i. record { core = (round core rest).core; left = append_assoc left (file ∷ []) (round core rest).left i })
    ∙ sym (ap (λ (b : Bool). after_those left (cond b (round (core_with core file.1) rest) (leaving file (round core rest)))) refused)

-- ---- a round leaves fewer files, if it accepts one

pub round_at_most : (core : Core) (files : List Numbered) → length (round core files).left ≤ length files
round_at_most core [] = omega arith
round_at_most core (file ∷ files) =
    elim (is_accepted core file.1) as (λ b. length (cond b (round (core_with core file.1) files) (leaving file (round core files))).left ≤ length (file ∷ files)) [
      | true ↦ omega (arith, round_at_most (core_with core file.1) files)
      | false ↦ omega (arith, round_at_most core files)
    ]

round_fewer : (core : Core) (files : List Numbered) → list_any (λ file. is_accepted core file.1) files ≡ true → length (round core files).left < length files
round_fewer core [] some = absurd (false≢true some)
round_fewer core (file ∷ files) some =
    elim (is_accepted core file.1) as (λ b. (b || list_any (λ f. is_accepted core f.1) files) ≡ true
    → length (cond b (round (core_with core file.1) files) (leaving file (round core files))).left < length (file ∷ files)) [
      | true ↦ λ e. omega (arith, round_at_most (core_with core file.1) files)
      | false ↦ λ later. omega (arith, round_fewer core files later)
    ] some

-- ---- one round after another

-- From what is offered now, rounds come to the same as from the start.
pub record ComesToTheSame (most : ℕ) (start now : Offers) : Type 0 where
  pub more : ℕ
  pub enough : length now.left ≤ more
  pub same : rounds more now ≡ rounds most start

pub at_start : (core : Core) (files : List File) (left : List Numbered) → left ≡ numbered_files files
    → ComesToTheSame (length files) (record { core = core; left = numbered_files files }) (record { core = core; left = left })
at_start core files left is = record {
  more = length files;
  enough = omega (arith, ap length is, length-enumerate_from 2 files);
  same = ap (λ (l : List Numbered). rounds (length files) (record { core = core; left = l })) is;
}

next_of : (most : ℕ) (start now : Offers) (more : ℕ) → length now.left ≤ more → rounds more now ≡ rounds most start → accepts_some now ≡ true
    → ComesToTheSame most start (round now.core now.left)
next_of most start now zero enough same some = absurd (omega (arith, enough, round_fewer now.core now.left some))
next_of most start now (suc more) enough same some = record {
  more = more;
  enough = omega (arith, enough, round_fewer now.core now.left some);
  same = sym (ap (λ (b : Bool). cond b (rounds more (round now.core now.left)) now) some) ∙ same;
}

after_round : (most : ℕ) (start now : Offers) → ComesToTheSame most start now → accepts_some now ≡ true → ComesToTheSame most start (round now.core now.left)
after_round most start now comes some = next_of most start now comes.more comes.enough comes.same some

-- a round that accepts none changes nothing
round_none : (core : Core) (files : List Numbered) → list_any (λ file. is_accepted core file.1) files ≡ false → round core files ≡ record { core = core; left = files }
round_none core [] none = refl
round_none core (file ∷ files) none =
    elim (is_accepted core file.1) as (λ b. (b || list_any (λ f. is_accepted core f.1) files) ≡ false
    → cond b (round (core_with core file.1) files) (leaving file (round core files)) ≡ record { core = core; left = file ∷ files }) [
      | true ↦ λ e. absurd (false≢true (sym e))
      | false ↦ λ later. ap (leaving file) (round_none core files later)
    ] none

-- a round that accepts none may come after the last one
pub after_any_round : (most : ℕ) (start now : Offers) → ComesToTheSame most start now → ComesToTheSame most start (round now.core now.left)
after_any_round most start now comes =
    elim (accepts_some now) as (λ b. accepts_some now ≡ b → ComesToTheSame most start (round now.core now.left)) [
      | true ↦ λ some. after_round most start now comes some
      | false ↦ λ none. subst (ComesToTheSame most start) (sym (round_none now.core now.left none)) comes
    ] refl

-- a round that leaves as many files as before accepts none, and none is accepted after it
pub all_left : (now : Offers) → length (round now.core now.left).left ≡ length now.left → accepts_some (round now.core now.left) ≡ false
all_left now same =
    elim (accepts_some now) as (λ b. accepts_some now ≡ b → accepts_some (round now.core now.left) ≡ false) [
      | true ↦ λ some. absurd (omega (arith, same, round_fewer now.core now.left some))
      | false ↦ λ none. ap accepts_some (round_none now.core now.left none) ∙ none
    ] refl

no_more : (more : ℕ) (now : Offers) → accepts_some now ≡ false → rounds more now ≡ now
no_more zero now none = refl
no_more (suc more) now none = ap (λ (b : Bool). cond b (rounds more (round now.core now.left)) now) none

pub at_end : (core : Core) (files : List File) (now : Offers) → ComesToTheSame (length files) (record { core = core; left = numbered_files files }) now
    → accepts_some now ≡ false → now ≡ exchanged core files
unfolding exchanged
at_end core files now comes none = sym (no_more comes.more now none) ∙ comes.same

-- ---- the last round accepts none

none_left : (core : Core) (left : List Numbered) → length left ≤ 0 → list_any (λ file. is_accepted core file.1) left ≡ false
none_left core [] size = refl
none_left core (file ∷ left) size = absurd (omega (arith, size))

pub rounds_end : (more : ℕ) (now : Offers) → length now.left ≤ more → accepts_some (rounds more now) ≡ false
rounds_end zero now size = none_left now.core now.left size
rounds_end (suc more) now size =
    elim (accepts_some now) as (λ b. accepts_some now ≡ b → accepts_some (cond b (rounds more (round now.core now.left)) now) ≡ false) [
      | true ↦ λ some. rounds_end more (round now.core now.left) (omega (arith, size, round_fewer now.core now.left some))
      | false ↦ λ none. none
    ] refl

-- ---- one refused file more

-- what is told of one file
abbrev pub told_of : Numbered → Option DeltaFault → List RefusedFile
told_of file None = []
told_of file (Some reason) = record { number = file.0; fault = reason } ∷ []

told_one : (core : Core) (file : Numbered) (o : Option DeltaFault) → refusal_of core file.1 ≡ o → refused_by core (file ∷ []) ≡ told_of file o
told_one core file None is = rw is refl
told_one core file (Some reason) is = rw is refl

pub refused_next : (core : Core) (files : List Numbered) (k : ℕ) (file : Numbered) → k < length files → file ≡ get_or files k file
    → refused_by core (take (k + 1) files) ≡ refused_by core (take k files) ++ told_of file (refusal_of core file.1)
refused_next core files k file below is =
    ap (refused_by core) (ap (λ n. take n files) (add-one k) ∙ take-suc files k file below ∙ ap (λ (f : Numbered). take k files ++ f ∷ []) (sym is))
    ∙ filter_map-append (λ (f : Numbered). option_map (λ reason. record { number = f.0; fault = reason }) (refusal_of core f.1)) (take k files) (file ∷ [])
    ∙ ap (λ (l : List RefusedFile). refused_by core (take k files) ++ l) (told_one core file (refusal_of core file.1) refl)
