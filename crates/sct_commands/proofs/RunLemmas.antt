-- How many sites a run has, and what ends it. Proof plumbing.
use Rattle.std.proofs.Common.{◌≡◌, ◌≢◌, ◌<◌, refl, sym, subst, inl, inr, ℕ, ◌+◌, Bool, true, false, List, [], ◌∷◌, length, arith}
use Rattle.std.specs.Prelude.{Result, Ok, Err, IfOk}
use Rattle.std.proofs.lemmas.Bool.Decides.{nat_tests}
use Rattle.sct_site.specs.Cores.{Core}
use Rattle.sct_delta.specs.declared.fault.DeltaFault.{DeltaFault}
use Rattle.sct_delta.specs.declared.fault.DeltaFault.TheVariants as delta
use Rattle.sct_workers.specs.Faults.{fault_of_delta}
use Rattle.sct_workers.specs.declared.fault.WorkFault.{WorkFault}
use Rattle.sct_workers.specs.declared.fault.WorkFault.TheVariants as work
use Rattle.sct_workers.specs.Filling.{AllStand, AreFilled}
use Rattle.sct_workers.specs.Holds.{EndsWhere}
use Rattle.sct_workers.specs.declared.filled.Sites.{Sites}
use Rattle.sct_workers.specs.declared.gate.Point.{Point}
use Rattle.sct_workers.proofs.Holding.{delta_ends}
use Rattle.sct_world.specs.Settling.{are_one_group, IsWhy}
use Rattle.sct_commands.specs.Fault.{fault_of_work}
use Rattle.sct_commands.specs.Runs.{are_sites, IsSettlingFault, RunEndsWhere}
use Rattle.sct_commands.specs.declared.fault.ProgramFault.{ProgramFault}
use Rattle.sct_commands.specs.declared.fault.ProgramFault.TheVariants as fault

-- ---- some sites

pub some_there : (count : ℕ) → are_sites count ≡ true → 0 < count
some_there count e = grind (arith, nat_tests)

pub as_many : (number size : ℕ) (cores : List Core) (inputs : List (List ℕ)) → AllStand number size inputs cores → length cores ≡ length inputs
as_many number size [] [] all = refl
as_many number size (c ∷ cores) (i ∷ inputs) all = let rest = as_many (number + 1) size cores inputs all.1 in omega (arith, rest)
as_many number size [] (i ∷ inputs) all = absurd all
as_many number size (c ∷ cores) [] all = absurd all

-- ---- faults

-- nothing that ends the work at a site is the number of inputs
pub no_usage : (w : WorkFault) → fault_of_work w ≢ fault.Usage
no_usage work.Held usage = cc
no_usage work.Memory usage = cc
no_usage (work.Refused number) usage = cc
no_usage work.NoWorker usage = cc

-- what may end a worker may end a run
pub run_ends : (may : Point → Type 0) (w : WorkFault) → EndsWhere may w → RunEndsWhere may (fault_of_work w)
run_ends may work.Held ends = ends
run_ends may work.Memory ends = tt
run_ends may (work.Refused number) ends = ends
run_ends may work.NoWorker ends = tt

-- ---- settling

-- why sites are not settled ends a run with 40 as out of memory, or with 42, 43 or 44
why_settling : (cores : List Core) (refusal : DeltaFault) → IsWhy cores refusal → IsSettlingFault (fault_of_work (fault_of_delta refusal))
why_settling cores delta.Memory why = tt
why_settling cores (delta.Gap origin have first) why = absurd why
why_settling cores (delta.Fork origin n) why = inl refl
why_settling cores (delta.OwnAhead n) why = inr (inl refl)
why_settling cores delta.BadSite why = absurd why
why_settling cores (delta.BadDelta line) why = absurd why

apart_settling : (refusal : DeltaFault) → refusal ≡ delta.BadSite → IsSettlingFault (fault_of_work (fault_of_delta refusal))
apart_settling refusal is = subst (λ (r : DeltaFault). IsSettlingFault (fault_of_work (fault_of_delta r))) (sym is) (inr (inr refl))

pub settling : (cores after : List Core) (refusal : DeltaFault) (one : Bool) → are_one_group cores ≡ one
    → (are_one_group cores ≡ false → (refusal ≡ delta.BadSite) × (after ≡ cores)) → (are_one_group cores ≡ true → IsWhy cores refusal)
    → IsSettlingFault (fault_of_work (fault_of_delta refusal))
settling cores after refusal true is apart why = why_settling cores refusal (why is)
settling cores after refusal false is apart why = apart_settling refusal (apart is).0

at_number : (may : Point → Type 0) (number other : ℕ) → number ≡ other → RunEndsWhere may (fault.Refused other) → RunEndsWhere may (fault.Refused number)
at_number may number other is ends = subst (λ (n : ℕ). RunEndsWhere may (fault.Refused n)) (sym is) ends

-- a fault of settling may end a run
pub settling_ends : (may : Point → Type 0) (f : ProgramFault) → IsSettlingFault f → RunEndsWhere may f
settling_ends may fault.Usage is = tt
settling_ends may fault.Held is = absurd is
settling_ends may fault.Memory is = tt
settling_ends may (fault.Refused number) (inl fork) = at_number may number 42 fork (delta_ends may (delta.Fork 0 0) tt)
settling_ends may (fault.Refused number) (inr (inl ahead)) = at_number may number 43 ahead (delta_ends may (delta.OwnAhead 0) tt)
settling_ends may (fault.Refused number) (inr (inr site)) = at_number may number 44 site (delta_ends may delta.BadSite tt)
settling_ends may fault.NoWorker is = tt
settling_ends may (fault.BadList row) is = absurd is
settling_ends may fault.TooLong is = absurd is
settling_ends may fault.Read is = absurd is
settling_ends may fault.Write is = absurd is
settling_ends may fault.NoJournal is = absurd is
settling_ends may fault.OtherSite is = absurd is
settling_ends may fault.Busy is = absurd is
settling_ends may fault.Disk is = absurd is

-- filled sites of a run are some
pub some_cores : (size : ℕ) (inputs : List (List ℕ)) (filled : Result Sites WorkFault) → are_sites size ≡ true → size ≡ length inputs
    → IfOk filled (AreFilled size inputs) → IfOk filled (λ sites. 0 < length sites.cores.items)
some_cores size inputs (Ok sites) are same filled =
    let some = some_there size are in
    let many = as_many 1 size sites.cores.items inputs filled.stand in
    omega (arith, some, many, same)
some_cores size inputs (Err reason) are same filled = tt
