-- What several sites hold, and what they still hold after one thing and another. Proof plumbing.
use Rattle.std.proofs.Common.{◌≡◌, ◌∙◌, refl, ap, sym, subst, inl, inr, ℕ, zero, suc, ◌+◌, ◌<◌, Bool, true, false, not, ◌&&◌, ◌||◌, List, [], ◌∷◌, ◌++◌, length, append_assoc, arith, nat_eq}
use Rattle.std.proofs.lemmas.Bool.Decides.{nat_tests}
use Rattle.std.specs.Cmp.{both_ways}
use Rattle.std.specs.Prelude.{Result, Ok, Err, OnOk, IfErr}
use Rattle.std.proofs.lemmas.Bool.{false≢true, eqb-true, and_parts, or_cases}
use Rattle.std.proofs.lemmas.List.{append-nil}
use Rattle.std.proofs.Math.Bool.{or-true}
use Rattle.sct_delta.specs.Entries.{Placed, entries_from, held_from, holds}
use Rattle.sct_delta.specs.declared.fault.DeltaFault.{DeltaFault}
use Rattle.sct_delta.specs.declared.fault.DeltaFault.TheVariants as fault
use Rattle.sct_site.specs.Cores.{Core}
use Rattle.sct_world.specs.Settling.{core_in, held_by_some, is_beside, are_one_group, IsSiteKept, AreSitesKept, AreSettled, IsWhy, HasAll, OfOneGroup}

-- ---- an entry that some site holds

pub place_some : (cores : List Core) (k : ℕ) (e : Placed) → holds (core_in cores k).arrivals e ≡ true → held_by_some cores e ≡ true
place_some [] k e held = absurd (false≢true held)
place_some (c ∷ cores) zero e held = ap (λ (b : Bool). b || held_by_some cores e) held
place_some (c ∷ cores) (suc k) e held = ap (λ (b : Bool). holds c.arrivals e || b) (place_some cores k e held) ∙ or-true (holds c.arrivals e)

-- a site holds the entry
pub record HolderOf (cores : List Core) (e : Placed) : Type 0 where
  pub place : ℕ
  pub there : place < length cores
  pub held : holds (core_in cores place).arrivals e ≡ true

pub some_place : (cores : List Core) (e : Placed) → held_by_some cores e ≡ true → HolderOf cores e
some_place [] e held = absurd (false≢true held)
some_place (c ∷ cores) e held =
    elim (or_cases (holds c.arrivals e) (held_by_some cores e) held) as (λ p. HolderOf (c ∷ cores) e) [
      | inl here ↦ record { place = 0; there = omega arith; held = here }
      | inr later ↦
          let rest : HolderOf cores e = some_place cores e later in
          let inside : rest.place < length cores = rest.there in
          record { place = suc rest.place; there = omega (arith, inside); held = rest.held }
    ]

-- ---- sites that are kept

pub same_kept : (cores : List Core) (k : ℕ) → IsSiteKept cores (core_in cores k) (core_in cores k)
same_kept cores k = record { number = refl; group = refl; keeps = λ e held. held; no_other = λ e held. place_some cores k e held; own = refl; grows = ([], append-nil (core_in cores k).arrivals) }

pub kept_itself : (cores : List Core) → AreSitesKept cores cores
kept_itself cores = record { size = refl; each = same_kept cores }

came_from : (a b : List Core) → AreSitesKept a b → (e : Placed) → held_by_some b e ≡ true → held_by_some a e ≡ true
came_from a b first e held =
    let h : HolderOf b e = some_place b e held in
    let k : IsSiteKept a (core_in a h.place) (core_in b h.place) = first.each h.place in
    k.no_other e h.held

pub kept_on : (a b c : List Core) → AreSitesKept a b → AreSitesKept b c → AreSitesKept a c
kept_on a b c first next = record {
  size = next.size ∙ first.size;
  each = λ k.
      let x : IsSiteKept a (core_in a k) (core_in b k) = first.each k in
      let y : IsSiteKept b (core_in b k) (core_in c k) = next.each k in record {
        number = y.number ∙ x.number;
        group = y.group ∙ x.group;
        keeps = λ e held. y.keeps e (x.keeps e held);
        no_other = λ e held. came_from a b first e (y.no_other e held);
        own =
            ap (λ (o : ℕ). entries_from o (core_in c k).arrivals) (sym x.number)
            ∙ y.own
            ∙ ap (λ (o : ℕ). entries_from o (core_in b k).arrivals) x.number
            ∙ x.own;
        grows = (
          x.grows.0 ++ y.grows.0,
          sym (append_assoc (core_in a k).arrivals x.grows.0 y.grows.0) ∙ (ap (λ (l : List Placed). l ++ y.grows.0) x.grows.1 ∙ y.grows.1),
        );
      };
}

-- why sites that are kept are refused is why those that they were are
pub why_before : (a b : List Core) → AreSitesKept a b → (refusal : DeltaFault) → IsWhy b refusal → IsWhy a refusal
why_before a b kept fault.Memory why = tt
why_before a b kept (fault.Gap origin have first) why = why
why_before a b kept (fault.Fork origin n) why =
    let x : IsSiteKept a (core_in a why.one) (core_in b why.one) = kept.each why.one in
    let y : IsSiteKept a (core_in a why.other) (core_in b why.other) = kept.each why.other in
    let one : HolderOf a (record { origin = origin; n = n; message = why.message }) = some_place a _ (x.no_other _ why.held) in
    let other : HolderOf a (record { origin = origin; n = n; message = why.another }) = some_place a _ (y.no_other _ why.also_held) in
    record { one = one.place; other = other.place; message = why.message; another = why.another; held = one.held; also_held = other.held; different = why.different }
why_before a b kept (fault.OwnAhead n) why =
    let x : IsSiteKept a (core_in a why.holder) (core_in b why.holder) = kept.each why.holder in
    let y : IsSiteKept a (core_in a why.owner) (core_in b why.owner) = kept.each why.owner in
    let holder : HolderOf a why.entry = some_place a why.entry (x.no_other why.entry why.held) in
    let owner : why.entry.origin ≡ (core_in a why.owner).number = why.of_owner ∙ y.number in
    let count : held_from why.entry.origin (core_in b why.owner).arrivals ≡ held_from why.entry.origin (core_in a why.owner).arrivals =
    ap length (
    ap (λ (o : ℕ). entries_from o (core_in b why.owner).arrivals) owner
    ∙ y.own
    ∙ ap (λ (o : ℕ). entries_from o (core_in a why.owner).arrivals) (sym owner)) in
    let above : held_from why.entry.origin (core_in b why.owner).arrivals < n = why.above in
    let there : why.owner < length b = why.there in
    let size : length b ≡ length a = kept.size in
    record { holder = holder.place; owner = why.owner; entry = why.entry; there = omega (arith, there, size); held = holder.held; number = why.number; of_owner = owner; above = omega (arith, above, count) }
why_before a b kept fault.BadSite why = why
why_before a b kept (fault.BadDelta line) why = why

-- ---- place after place

below : (j k : ℕ) → nat_eq j k ≡ false → j < k + 1 → j < k
below j k other less = grind (arith, nat_tests)

-- the first site has what the first so many held
pub record AreGathered (before now : List Core) (k : ℕ) : Type 0 where
  pub kept : AreSitesKept before now
  pub firsts : (j : ℕ) → j < k → HasAll (core_in before j) (core_in now 0)

pub gathered_more : (before now new : List Core) (k : ℕ) → AreGathered before now k → AreSitesKept now new → HasAll (core_in now k) (core_in new 0) → AreGathered before new (k + 1)
gathered_more before now new k so_far kept handed = record {
  kept = kept_on before now new so_far.kept kept;
  firsts = λ j less.
      elim (nat_eq j k) as (λ b. nat_eq j k ≡ b → HasAll (core_in before j) (core_in new 0)) [
        | true ↦ λ same.
            let is : k ≡ j = sym (eqb-true j k same) in
            let was : IsSiteKept before (core_in before k) (core_in now k) = so_far.kept.each k in
            subst (λ (p : ℕ). HasAll (core_in before p) (core_in new 0)) is (λ e held. handed e (was.keeps e held))
        | false ↦ λ other.
            let first : IsSiteKept now (core_in now 0) (core_in new 0) = kept.each 0 in
            λ e held. first.keeps e (so_far.firsts j (below j k other less) e held)
      ] refl;
}

-- each of the first so many has what the first site held
pub record AreReached (before now : List Core) (k : ℕ) : Type 0 where
  pub kept : AreSitesKept before now
  pub firsts : (j : ℕ) → j < k → HasAll (core_in before 0) (core_in now j)

pub reached_first : (cores : List Core) → AreReached cores cores 1
reached_first cores = record {
  kept = kept_itself cores;
  firsts = λ j less. let is : 0 ≡ j = omega (arith, less) in subst (λ (p : ℕ). HasAll (core_in cores 0) (core_in cores p)) is (λ e held. held);
}

pub reached_more : (before now new : List Core) (k : ℕ) → AreReached before now k → AreSitesKept now new → HasAll (core_in now 0) (core_in new k) → AreReached before new (k + 1)
reached_more before now new k so_far kept handed = record {
  kept = kept_on before now new so_far.kept kept;
  firsts = λ j less.
      elim (nat_eq j k) as (λ b. nat_eq j k ≡ b → HasAll (core_in before 0) (core_in new j)) [
        | true ↦ λ same.
            let is : k ≡ j = sym (eqb-true j k same) in
            let was : IsSiteKept before (core_in before 0) (core_in now 0) = so_far.kept.each 0 in
            subst (λ (p : ℕ). HasAll (core_in before 0) (core_in new p)) is (λ e held. handed e (was.keeps e held))
        | false ↦ λ other.
            let reached : IsSiteKept now (core_in now j) (core_in new j) = kept.each j in
            λ e held. reached.keeps e (so_far.firsts j (below j k other less) e held)
      ] refl;
}

-- ---- sites of one group

beside_group : (c : Core) (others : List Core) (k : ℕ) → is_beside c others ≡ true → k < length others → (core_in others k).group ≡ c.group
beside_group c [] k is there = absurd (omega (arith, there))
beside_group c (x ∷ others) zero is there =
    let parts : ((nat_eq x.group c.group && not (nat_eq x.number c.number)) ≡ true) × (is_beside c others ≡ true)
    = and_parts (nat_eq x.group c.group && not (nat_eq x.number c.number)) (is_beside c others) is in
    let first : (nat_eq x.group c.group ≡ true) × (not (nat_eq x.number c.number) ≡ true) = and_parts (nat_eq x.group c.group) (not (nat_eq x.number c.number)) parts.0 in
    eqb-true x.group c.group first.0
beside_group c (x ∷ others) (suc k) is there =
    let parts : ((nat_eq x.group c.group && not (nat_eq x.number c.number)) ≡ true) × (is_beside c others ≡ true)
    = and_parts (nat_eq x.group c.group && not (nat_eq x.number c.number)) (is_beside c others) is in
    beside_group c others k parts.1 (omega (arith, there))

pub one_group : (cores : List Core) → are_one_group cores ≡ true → OfOneGroup cores
one_group [] one place there = absurd (omega (arith, there))
one_group (c ∷ others) one zero there = refl
one_group (c ∷ others) one (suc k) there =
    let parts : (is_beside c others ≡ true) × (are_one_group others ≡ true) = and_parts (is_beside c others) (are_one_group others) one in
    beside_group c others k parts.0 (omega (arith, there))

pub group_kept : (a b : List Core) → AreSitesKept a b → OfOneGroup a → OfOneGroup b
group_kept a b kept one place there =
    let size : length b ≡ length a = kept.size in
    let x : IsSiteKept a (core_in a place) (core_in b place) = kept.each place in
    let first : IsSiteKept a (core_in a 0) (core_in b 0) = kept.each 0 in
    x.group ∙ one place (omega (arith, there, size)) ∙ sym first.group

-- ---- settled

pub settled : (old mid new : List Core) → AreSitesKept old mid → ((place : ℕ) → place < length old → HasAll (core_in old place) (core_in mid 0))
    → AreSitesKept mid new → ((place : ℕ) → place < length mid → HasAll (core_in mid 0) (core_in new place)) → AreSettled old new
settled old mid new first gathered next reached =
    let kept : AreSitesKept old new = kept_on old mid new first next in
    let size : length mid ≡ length old = first.size in
    record {
      kept = kept;
      joined = λ k there e.
          let k_kept : IsSiteKept old (core_in old k) (core_in new k) = kept.each k in
          both_ways _ _ (k_kept.no_other e) (λ some.
          let h : HolderOf old e = some_place old e some in
          reached k (omega (arith, there, size)) e (gathered h.place h.there e h.held));
    }

pub on_ok : {X : Type 0} → (r : Result X DeltaFault) (P Q : Type 0) → OnOk r P → (P → Q) → OnOk r Q
on_ok (Ok x) P Q holds_first so = so holds_first
on_ok (Err f) P Q holds_first so = tt

pub on_why : {X : Type 0} → (r : Result X DeltaFault) (P Q : DeltaFault → Type 0) → IfErr r P → ((f : DeltaFault) → P f → Q f) → IfErr r Q
on_why (Ok x) P Q why so = tt
on_why (Err f) P Q why so = so f why
