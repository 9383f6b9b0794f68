-- Messages are taken one after another, and each adds at most one entry.
use Rattle.std.proofs.Common.{◌≡◌, ◌∙◌, ap, sym, subst, ℕ, ◌≤◌, ◌+◌, ◌<◌, List, [], ◌∷◌, ◌++◌, Bool, true, false, length, take, get_or, arith}
use Rattle.std.proofs.lemmas.List.{length-append, map_more, take-map}
use Rattle.std.specs.Arc.{arc_value}
use Rattle.std.specs.Global.{Global}
use Rattle.std.specs.declared.sync.Arc.{Arc}
use Rattle.std.proofs.lemmas.List.Sums.{fold-append}
use Rattle.sct_message.specs.declared.draft.Draft.{Draft}
use Rattle.sct_message.specs.Sets.{messages_in}
use Rattle.sct_delta.specs.Entries.{Placed}
use Rattle.sct_site.specs.Cores.{Core, arrivals_taken, core_taken, is_repeat, own_entry}
use Rattle.sct_site.proofs.TakeLemmas.{arrivals-held, arrivals-new}
use Rattle.sct_exchange.specs.Journals.{core_taking}

-- a list of arrivals has at least as many as before, and at most so many more
pub record Grows (before after more : ℕ) : Type 0 where
  pub least : before ≤ after
  pub most : after ≤ before + more

grown_by : (core : Core) (m : Draft) (b : Bool) → is_repeat core m ≡ b → Grows (length core.arrivals) (length (arrivals_taken core m)) 1
grown_by core m true e = subst (λ (es : List Placed). Grows (length core.arrivals) (length es) 1) (arrivals-held core m e) (record { least = omega arith; most = omega arith })
grown_by core m false e =
    let n = length core.arrivals in
    let there : length (core.arrivals ++ own_entry core m ∷ []) ≡ n + 1 = length-append core.arrivals (own_entry core m ∷ []) in
    subst (λ (es : List Placed). Grows n (length es) 1) (arrivals-new core m e)
    (subst (λ (k : ℕ). Grows n k 1) (sym there) (record { least = omega arith; most = omega arith }))

pub grown : (core : Core) (ms : List Draft) → Grows (length core.arrivals) (length (core_taking core ms).arrivals) (length ms)
grown core [] = record { least = omega arith; most = omega arith }
grown core (m ∷ ms) =
    let one = grown_by core m (is_repeat core m) (λ _. is_repeat core m) in
    let rest = grown (core_taken core m) ms in
    record { least = omega (arith, one.least, rest.least); most = omega (arith, one.most, rest.most) }

-- a site that is the one after a take, field by field
pub taken_is : (before after : Core) (m : Draft) → after.number ≡ before.number → after.group ≡ before.group → after.arrivals ≡ arrivals_taken before m → after ≡ core_taken before m
taken_is before after m number group arrivals = λ i. record { number = number i; group = group i; arrivals = arrivals i }

-- one message more
pub one_more : (before core : Core) (xs : List (Arc Draft Global)) (i : ℕ) (x : Arc Draft Global) → i < length xs → x ≡ get_or xs i x
    → core ≡ core_taking before (take i (messages_in xs)) → core_taken core (arc_value x) ≡ core_taking before (take (i + 1) (messages_in xs))
one_more before core xs i x low is so =
    ap (λ (c : Core). core_taken c (arc_value x)) so
    ∙ sym (fold-append core_taken before (take i (messages_in xs)) (arc_value x ∷ []))
    ∙ ap (core_taking before)
    (ap (λ (l : List Draft). l ++ arc_value x ∷ []) (take-map arc_value i xs)
    ∙ ap (λ (y : Arc Draft Global). messages_in (take i xs) ++ arc_value y ∷ []) is
    ∙ sym (map_more arc_value xs i x low)
    ∙ sym (take-map arc_value (i + 1) xs))

-- the arrivals before and after takes, as lists that are these
pub grown_to : (before after : Core) (ms : List Draft) (some more : List Placed) → some ≡ before.arrivals → more ≡ after.arrivals
    → after ≡ core_taking before ms → Grows (length some) (length more) (length ms)
grown_to before after ms some more first last is =
    subst (λ (es : List Placed). Grows (length some) (length es) (length ms)) (sym (last ∙ ap (λ (c : Core). c.arrivals) is))
    (subst (λ (es : List Placed). Grows (length es) (length (core_taking before ms).arrivals) (length ms)) (sym first) (grown before ms))
