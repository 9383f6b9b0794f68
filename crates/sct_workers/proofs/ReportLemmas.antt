-- The fault that is reported of several results, and of one site more. Proof plumbing.
use Rattle.std.proofs.Common.{◌≡◌, ◌∙◌, ◌⊎◌, refl, sym, ap, subst, inl, inr, ℕ, zero, suc, ◌+◌, ◌<◌, ◌≤◌, List, [], ◌∷◌, ◌++◌, length, arith}
use Rattle.std.specs.Prelude.{Option, None, Some, Result, Ok, Err, IfErr, IfOk, IsOk, OnOk, is_ok}
use Rattle.std.specs.List.{slice_get}
use Rattle.std.proofs.lemmas.Bool.{cases_lt, false≢true}
use Rattle.std.proofs.lemmas.Option.{same_Some, slice_get_within}
use Rattle.sct_delta.proofs.LawLemmas.{got_longer}
use Rattle.sct_workers.specs.declared.fault.WorkFault.{WorkFault}
use Rattle.sct_workers.specs.declared.fault.SiteFault.{SiteFault}
use Rattle.sct_workers.specs.declared.filled.Filled.{Filled}
use Rattle.sct_workers.specs.Each.{AtEach}
use Rattle.sct_workers.specs.Filling.{IsFilled}
use Rattle.sct_workers.specs.declared.fault.SiteFault.TheVariants as site
use Rattle.sct_workers.specs.declared.fault.WorkFault.TheVariants as fault
use Rattle.sct_workers.specs.declared.gate.Point.{Point}
use Rattle.sct_workers.specs.Holds.{ComesFirst, EndsWhere, SiteEndsWhere, rank_of, site_rank_of, work_fault_of}
use Rattle.sct_workers.specs.Reported.{AnswersTo, IsReported, NoneFails, Reports}
use Rattle.sct_workers.proofs.Holding.{site_ends}
use Rattle.sct_workers.proofs.Places.{each_pushed, get_behind}

-- ---- results that are no faults

ok_no_fault : {T E : Type 0} (P : E → Type 0) (r : Result T E) → IsOk r → IfErr r P
ok_no_fault P (Ok t) ok = tt
ok_no_fault P (Err e) ok = absurd (false≢true ok)

-- ---- several workers

later_than : {T : Type 0} (reported e : WorkFault) (r : Result T WorkFault) → rank_of reported ≤ rank_of e → ComesFirst e r → ComesFirst reported r
later_than reported e (Ok v) low comes = tt
later_than reported e (Err reason) low comes =
    let next : rank_of e ≤ rank_of reason = comes in
    let all : rank_of reported ≤ rank_of reason = omega (arith, low, next) in
    all

-- what comes before the fault of two results comes before each of theirs
pub before_both : {T : Type 0} (reported : WorkFault) (first second both : Result T WorkFault) → OnOk both (IsOk first × IsOk second)
    → IfErr both (λ e. ComesFirst e first × ComesFirst e second) → ComesFirst reported both
    → ComesFirst reported first × ComesFirst reported second
before_both reported first second (Ok v) ok least comes =
    (ok_no_fault (λ reason. rank_of reported ≤ rank_of reason) first ok.0, ok_no_fault (λ reason. rank_of reported ≤ rank_of reason) second ok.1)
before_both reported first second (Err e) ok least comes = (later_than reported e first comes least.0, later_than reported e second comes least.1)

-- ---- one site more

-- the next site did not fail
pub reports_ok : (before : List (Result Filled SiteFault)) (so_far : Option SiteFault) (one : Result Filled SiteFault) → IsOk one
    → Reports before so_far → Reports (before ++ one ∷ []) so_far
reports_ok before None one ok none = each_pushed (λ place answer. IsOk answer) before (before ++ one ∷ []) one refl none ok
reports_ok before (Some fault) one ok is = record {
  site = is.site;
  its = got_longer before (one ∷ []) is.site (Err fault) is.its;
  least =
      each_pushed (λ place answer. IfErr answer (λ reason. site_rank_of fault ≤ site_rank_of reason)) before (before ++ one ∷ []) one refl is.least
      (ok_no_fault (λ reason. site_rank_of fault ≤ site_rank_of reason) one ok);
  first =
      each_pushed (λ place answer. place < is.site → IfErr answer (λ reason. site_rank_of fault < site_rank_of reason)) before (before ++ one ∷ []) one refl is.first
      (λ low. ok_no_fault (λ reason. site_rank_of fault < site_rank_of reason) one ok);
}

-- the next site is the first that failed
pub reports_first : (before : List (Result Filled SiteFault)) (fault : SiteFault) → NoneFails before
    → IsReported (before ++ Err fault ∷ []) fault
reports_first before fault none =
    let same : site_rank_of fault ≤ site_rank_of fault = omega arith in
    record {
      site = length before;
      its = get_behind before (Err fault) [] (before ++ Err fault ∷ []) refl;
      least =
          each_pushed (λ place answer. IfErr answer (λ reason. site_rank_of fault ≤ site_rank_of reason)) before (before ++ Err fault ∷ []) (Err fault) refl
          (λ at one there. ok_no_fault (λ reason. site_rank_of fault ≤ site_rank_of reason) one (none at one there)) same;
      first =
          each_pushed (λ place answer. place < length before → IfErr answer (λ reason. site_rank_of fault < site_rank_of reason)) before (before ++ Err fault ∷ []) (Err fault) refl
          (λ at one there low. ok_no_fault (λ reason. site_rank_of fault < site_rank_of reason) one (none at one there)) (λ low. absurd (omega (arith, low)));
    }

-- the next site failed, and what was reported stays
reports_still : (before : List (Result Filled SiteFault)) (fault next : SiteFault) → site_rank_of fault ≤ site_rank_of next
    → IsReported before fault → IsReported (before ++ Err next ∷ []) fault
reports_still before fault next low is = record {
  site = is.site;
  its = got_longer before (Err next ∷ []) is.site (Err fault) is.its;
  least =
      each_pushed (λ place answer. IfErr answer (λ reason. site_rank_of fault ≤ site_rank_of reason)) before (before ++ Err next ∷ []) (Err next) refl is.least low;
  first =
      each_pushed (λ place answer. place < is.site → IfErr answer (λ reason. site_rank_of fault < site_rank_of reason)) before (before ++ Err next ∷ []) (Err next) refl is.first
      (λ past. absurd (omega (arith, past, slice_get_within before is.site (Err fault) is.its)));
}

above : (fault next : SiteFault) (one : Result Filled SiteFault) → site_rank_of next < site_rank_of fault
    → IfErr one (λ reason. site_rank_of fault ≤ site_rank_of reason) → IfErr one (λ reason. site_rank_of next < site_rank_of reason)
above fault next (Ok site) low least = tt
above fault next (Err reason) low least =
    let after : site_rank_of fault ≤ site_rank_of reason = least in
    let all : site_rank_of next < site_rank_of reason = omega (arith, low, after) in
    all

at_least : (next : SiteFault) (one : Result Filled SiteFault) → IfErr one (λ reason. site_rank_of next < site_rank_of reason)
    → IfErr one (λ reason. site_rank_of next ≤ site_rank_of reason)
at_least next (Ok site) low = tt
at_least next (Err reason) low =
    let after : site_rank_of next < site_rank_of reason = low in
    let all : site_rank_of next ≤ site_rank_of reason = omega (arith, after) in
    all

-- the next site failed, and its fault comes before what was reported
reports_next : (before : List (Result Filled SiteFault)) (fault next : SiteFault) → site_rank_of next < site_rank_of fault
    → IsReported before fault → IsReported (before ++ Err next ∷ []) next
reports_next before fault next low is =
    let same : site_rank_of next ≤ site_rank_of next = omega arith in
    record {
      site = length before;
      its = get_behind before (Err next) [] (before ++ Err next ∷ []) refl;
      least =
          each_pushed (λ place answer. IfErr answer (λ reason. site_rank_of next ≤ site_rank_of reason)) before (before ++ Err next ∷ []) (Err next) refl
          (λ at one there. at_least next one (above fault next one low (is.least at one there))) same;
      first =
          each_pushed (λ place answer. place < length before → IfErr answer (λ reason. site_rank_of next < site_rank_of reason)) before (before ++ Err next ∷ []) (Err next) refl
          (λ at one there past. above fault next one low (is.least at one there)) (λ past. absurd (omega (arith, past)));
    }

-- the next site failed beside what was reported
pub reports_one : (before : List (Result Filled SiteFault)) (fault next reported : SiteFault) → (reported ≡ fault) ⊎ (reported ≡ next)
    → site_rank_of reported ≤ site_rank_of next → (site_rank_of fault ≤ site_rank_of next → reported ≡ fault)
    → IsReported before fault → IsReported (before ++ Err next ∷ []) reported
reports_one before fault next reported one least earlier is =
    elim (cases_lt (site_rank_of next) (site_rank_of fault)) as (λ c. IsReported (before ++ Err next ∷ []) reported) [
      | inr low ↦ subst (λ (f : SiteFault). IsReported (before ++ Err next ∷ []) f) (sym (earlier low)) (reports_still before fault next low is)
      | inl high ↦
          elim one as (λ c. IsReported (before ++ Err next ∷ []) reported) [
            | inl first ↦ absurd (omega (arith, high, least, ap site_rank_of first))
            | inr second ↦ subst (λ (f : SiteFault). IsReported (before ++ Err next ∷ []) f) (sym second) (reports_next before fault next high is)
          ]
    ]

-- ---- the same by equations

pub reports_when_ok : (before : List (Result Filled SiteFault)) (so_far : Option SiteFault) (one : Result Filled SiteFault) (site : Filled) → one ≡ Ok site
    → Reports before so_far → Reports (before ++ one ∷ []) so_far
reports_when_ok before so_far one site is so = reports_ok before so_far one (ap is_ok is) so

pub reports_when_first : (before : List (Result Filled SiteFault)) (so_far : Option SiteFault) (one : Result Filled SiteFault) (fault : SiteFault) → so_far ≡ None
    → one ≡ Err fault → Reports before so_far → Reports (before ++ one ∷ []) (Some fault)
reports_when_first before so_far one fault none is so =
    subst (λ (r : Result Filled SiteFault). Reports (before ++ r ∷ []) (Some fault)) (sym is) (reports_first before fault (subst (Reports before) none so))

pub reports_when_next : (before : List (Result Filled SiteFault)) (so_far : Option SiteFault) (one : Result Filled SiteFault) (first next reported : SiteFault)
    → so_far ≡ Some first → one ≡ Err next → (reported ≡ first) ⊎ (reported ≡ next) → site_rank_of reported ≤ site_rank_of next
    → (site_rank_of first ≤ site_rank_of next → reported ≡ first) → Reports before so_far → Reports (before ++ one ∷ []) (Some reported)
reports_when_next before so_far one first next reported some is either least earlier so =
    subst (λ (r : Result Filled SiteFault). Reports (before ++ r ∷ []) (Some reported)) (sym is)
    (reports_one before first next reported either least earlier (subst (Reports before) some so))

-- ---- what a site answers

-- a site that was to be filled from the input at its place
pub answers_to : (size : ℕ) (inputs : List (List ℕ)) (place number group : ℕ) (input : List ℕ) (answer : Result Filled SiteFault) → number ≡ place + 1
    → group ≡ size → slice_get inputs place ≡ Some input → IfOk answer (IsFilled number group input) → AnswersTo size inputs place answer
answers_to size inputs place number group input answer at same here filled other there =
    subst (λ (i : List ℕ). IfOk answer (IsFilled (place + 1) size i)) (same_Some input other (sym here ∙ there))
    (subst (λ (n : ℕ). IfOk answer (IsFilled n size input)) at (subst (λ (n : ℕ). IfOk answer (IsFilled number n input)) same filled))

-- the fault that is reported of several sites, as a worker's
pub reported_ends : (may : Point → Type 0) (answers : List (Result Filled SiteFault)) (reported : SiteFault)
    → AtEach (λ place answer. IfErr answer (SiteEndsWhere may)) answers
    → IsReported answers reported ⊎ (NoneFails answers × (reported ≡ site.Working fault.Memory)) → EndsWhere may (work_fault_of reported)
reported_ends may answers reported each (inl is) = site_ends may reported (each is.site (Err reported) is.its)
reported_ends may answers reported each (inr memory) = subst (λ (f : SiteFault). EndsWhere may (work_fault_of f)) (sym memory.1) tt
