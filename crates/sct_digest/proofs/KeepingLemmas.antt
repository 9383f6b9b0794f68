-- What is kept of a log stays what it is as the log grows, and is kept of one message more.
use Rattle.std.proofs.Common.{◌≡◌, ◌∙◌, ap, sym, subst, ℕ, ◌+◌, ◌*◌, ◌-◌, ◌<◌, ◌≤◌, ◌⊎◌, inl, inr, List, [], ◌∷◌, ◌++◌, length, take, get_or, set, arith}
use Rattle.std.proofs.Math.ListN.{get_or-append}
use Rattle.std.proofs.lemmas.Bool.{cases_eq, cases_lt}
use Rattle.std.proofs.lemmas.List.{get_or-append_right, get_or-set_other, get_or-set_same, length-append, length-set, take-append-le}
use Rattle.sct_message.specs.declared.draft.Draft.{Draft}
use Rattle.sct_delta.specs.Entries.{Placed, log_of}
use Rattle.sct_delta.proofs.EntryLemmas.{log-append}
use Rattle.sct_digest.specs.Digests.{digest_of}
use Rattle.sct_digest.specs.Keeping.{AreKept, IsKept}
use Rattle.sct_digest.specs.declared.chain.Chain.{Chain}
use Rattle.sct_digest.specs.declared.digests.Digests.{Digests}

-- the marks of the first messages of a log
pub record HaveMarks (count : ℕ) (marks : List (List ℕ)) (log : List Draft) : Type 0 where
  pub reached : 1024 * length marks ≤ count
  pub each : (k : ℕ) (d : List ℕ) → k < length marks → get_or marks k d ≡ digest_of (take (1024 * (k + 1)) log)

-- one mark more
pub mark_more : (marks : List (List ℕ)) (log : List Draft) (newest : List ℕ) (count : ℕ) → HaveMarks count marks log
    → newest ≡ digest_of (take (count + 1) log) → count + 1 ≡ 1024 * (length marks + 1) → HaveMarks (count + 1) (marks ++ newest ∷ []) log
mark_more marks log newest count were is many =
    let n = length marks in
    let grown : length (marks ++ newest ∷ []) ≡ n + 1 = length-append marks (newest ∷ []) in
    record {
      reached = subst (λ (m : ℕ). 1024 * m ≤ count + 1) (sym grown) (omega (arith, many));
      each = λ k d low. elim (cases_lt k n) as (λ _. get_or (marks ++ newest ∷ []) k d ≡ digest_of (take (1024 * (k + 1)) log)) [
        | inl within ↦ get_or-append marks (newest ∷ []) d k within ∙ were.each k d within
        | inr past ↦
            let under : k < n + 1 = subst (λ (m : ℕ). k < m) grown low in
            let last : k ≡ n = omega (arith, past, under) in
            let none : k - n ≡ 0 = omega (arith, last) in
            get_or-append_right marks (newest ∷ []) n k d (λ _. n) past
            ∙ ap (λ (j : ℕ). get_or (newest ∷ []) j d) none
            ∙ is
            ∙ ap (λ (m : ℕ). digest_of (take m log)) (many ∙ ap (λ (m : ℕ). 1024 * (m + 1)) (sym last))
      ];
    }

-- one message more, and no mark
pub mark_none : (marks : List (List ℕ)) (log : List Draft) (count : ℕ) → HaveMarks count marks log → HaveMarks (count + 1) marks log
mark_none marks log count were = record { reached = omega (arith, were.reached); each = were.each }

-- a longer log
kept_longer : (chain : Chain) (log more : List Draft) → IsKept chain log → IsKept chain (log ++ more)
kept_longer chain log more was = record {
  within = subst (λ (n : ℕ). chain.count ≤ n) (sym (length-append log more)) (omega (arith, was.within));
  newest = was.newest ∙ ap digest_of (sym (take-append-le chain.count log more was.within));
  reached = was.reached;
  marks = λ k d low. was.marks k d low
      ∙ ap digest_of (sym (take-append-le (1024 * (k + 1)) log more (omega (arith, low, was.reached, was.within))));
}

-- more arrivals
pub kept_before : (digests : Digests) (es ds : List Placed) → AreKept digests es → AreKept digests (es ++ ds)
kept_before digests es ds was = record {
  each = λ k chain low is. subst (λ (log : List Draft). IsKept chain log) (sym (log-append (k + 1) es ds))
      (kept_longer chain (log_of (k + 1) es) (log_of (k + 1) ds) (was.each k chain low is));
}

-- ---- a chain of the origin k + 1 is at place k

-- a chain more
pub kept_with : (old new : Digests) (fresh : Chain) (es : List Placed) → new.chains.items ≡ old.chains.items ++ fresh ∷ []
    → ((log : List Draft) → IsKept fresh log) → AreKept old es → AreKept new es
kept_with old new fresh es grown all was = record {
  each = λ k chain low is.
      let n = length old.chains.items in
      let got : chain ≡ get_or (old.chains.items ++ fresh ∷ []) k chain = subst (λ (cs : List Chain). chain ≡ get_or cs k chain) grown is in
      let within : k < n + 1 = subst (λ (m : ℕ). k < m) (ap length grown ∙ length-append old.chains.items (fresh ∷ [])) low in
      elim (cases_lt k n) as (λ _. IsKept chain (log_of (k + 1) es)) [
        | inl before ↦ was.each k chain before (got ∙ get_or-append old.chains.items (fresh ∷ []) chain k before)
        | inr past ↦
            let none : k - n ≡ 0 = omega (arith, past, within) in
            let is_fresh : chain ≡ fresh =
            got ∙ get_or-append_right old.chains.items (fresh ∷ []) n k chain (λ _. n) past
            ∙ ap (λ (j : ℕ). get_or (fresh ∷ []) j chain) none in
            subst (λ (c : Chain). IsKept c (log_of (k + 1) es)) (sym is_fresh) (all (log_of (k + 1) es))
      ];
}

-- a chain in the place of another
pub kept_set : (old new : Digests) (j : ℕ) (fresh : Chain) (es : List Placed) → new.chains.items ≡ set old.chains.items j fresh
    → j < length old.chains.items → IsKept fresh (log_of (j + 1) es) → AreKept old es → AreKept new es
kept_set old new j fresh es put within kept was = record {
  each = λ k chain low is.
      let got : chain ≡ get_or (set old.chains.items j fresh) k chain = subst (λ (cs : List Chain). chain ≡ get_or cs k chain) put is in
      elim (cases_eq k j) as (λ _. IsKept chain (log_of (k + 1) es)) [
        | inl same ↦
            let is_fresh : chain ≡ fresh =
            got ∙ ap (λ (i : ℕ). get_or (set old.chains.items j fresh) i chain) same ∙ get_or-set_same old.chains.items j fresh chain within in
            subst (λ (c : Chain). IsKept c (log_of (k + 1) es)) (sym is_fresh) (subst (λ (i : ℕ). IsKept fresh (log_of (i + 1) es)) (sym same) kept)
        | inr other ↦
            was.each k chain (subst (λ (n : ℕ). k < n) (ap length put ∙ length-set old.chains.items j fresh) low)
            (got ∙ get_or-set_other old.chains.items j k fresh chain other)
      ];
}
