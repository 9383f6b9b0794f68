-- Sites with equal digests hold the same. Proof plumbing.
use Rattle.std.specs.Prelude.{Ok, Err, Result, nat_eq}
use Rattle.std.proofs.Common.{◌≡◌, ◌∙◌, ap, sym, refl, ℕ, Bool, ◌||◌, true, false, cond, List, [], ◌∷◌, length, map, drop, arith, eqb-true, inl, inr}
use Rattle.std.proofs.lemmas.Bool.{cases_Bool, false≢true}
use Rattle.std.proofs.lemmas.Bool.Decides.{nat_tests}
use Rattle.sct_message.specs.declared.draft.Draft.{Draft}
use Rattle.sct_json.specs.Reading.{message_in}
use Rattle.sct_json.specs.Writing.{written_text}
use Rattle.sct_json.specs.declared.faults.JsonFault.{JsonFault}
use Rattle.sct_delta.specs.Entries.{Placed, entries_from, holds, log_of}
use Rattle.sct_delta.specs.Refusals.{is_held}
use Rattle.sct_delta.specs.Sites.{is_site}
use Rattle.sct_delta.proofs.HeldLemmas.{entry_itself, held_in_logs}
use Rattle.sct_site.specs.Cores.{Core, IsSite}
use Rattle.sct_site.proofs.ArrivalLemmas.{length-log}
use Rattle.sct_digest.specs.Laws.{HasEqualDigest, entry_texts}
use Rattle.sct_digest.proofs.ApartLemmas.{equal_texts}
use Rattle.sct_digest.proofs.TextLemmas.{equal_digests}
use Rattle.sct_exchange.specs.Laws.{HoldAlike}
use Rattle.sct_read_again.specs.ReadAgain.{MessagesAreReadAgain}
use Rattle.sct_requests.specs.Steps.{core_kept}
use Rattle.sct_hub.specs.EqualDigests.{HaveOwnDigestsAt, EqualDigestsAnswerAlike}
use Rattle.sct_hub.proofs.AlikeLemmas.{live_site}
use Rattle.sct_hub.proofs.EmbeddedEqualLemmas.{answer_alike}
use Rattle.sct_hub.proofs.EqualLemmas.{same_counts}
use Rattle.sct_hub.proofs.ReadBackLemmas.{later, were_read}

-- ---- messages that are read again from their texts

abbrev pub IsAgain : Placed → Type 0
IsAgain e = message_in (written_text e.message) ≡ Ok e.message

abbrev read_ok : Draft → Result Draft JsonFault
read_ok m = Ok m

first_held : (e : Placed) (es : List Placed) → holds (e ∷ es) e ≡ true
first_held e es = ap (λ (b : Bool). b || holds es e) (entry_itself e)

again_from : (o : ℕ) (e : Placed) (es : List Placed) → IsAgain e → map message_in (entry_texts (log_of o es)) ≡ map read_ok (log_of o es) → (b : Bool)
    → map message_in (entry_texts (map (λ x. x.message) (cond b (e ∷ entries_from o es) (entries_from o es))))
    ≡ map read_ok (map (λ x. x.message) (cond b (e ∷ entries_from o es) (entries_from o es)))
again_from o e es here rest true = λ i. here i ∷ rest i
again_from o e es here rest false = rest

log_again : (o : ℕ) (es : List Placed) → ((e : Placed) → holds es e ≡ true → IsAgain e)
    → map message_in (entry_texts (log_of o es)) ≡ map read_ok (log_of o es)
log_again o [] each = refl
log_again o (e ∷ es) each =
    again_from o e es (each e (first_held e es)) (log_again o es (later IsAgain e es each)) (nat_eq e.origin o)

ok_or : Draft → Result Draft JsonFault → Draft
ok_or none (Ok m) = m
ok_or none (Err fault) = none

head_or : Result Draft JsonFault → List (Result Draft JsonFault) → Result Draft JsonFault
head_or none [] = none
head_or none (r ∷ rs) = r

oks : (xs ys : List Draft) → map read_ok xs ≡ map read_ok ys → xs ≡ ys
unfolding head_or ok_or
oks [] [] same = refl
oks [] (y ∷ ys) same = absurd (omega (arith, ap length same))
oks (x ∷ xs) [] same = absurd (omega (arith, ap length same))
oks (x ∷ xs) (y ∷ ys) same =
    let first : x ≡ y = ap (λ (rs : List (Result Draft JsonFault)). ok_or x (head_or (Ok x) rs)) same in
    λ i. first i ∷ oks xs ys (ap (drop 1) same) i

-- ---- origins that are no sites

none_from : (o : ℕ) (e : Placed) (es : List Placed) → is_site e.origin ≡ true → is_site o ≡ false → log_of o es ≡ [] → (b : Bool) → nat_eq e.origin o ≡ b
    → map (λ x. x.message) (cond b (e ∷ entries_from o es) (entries_from o es)) ≡ []
none_from o e es site none rest true is = absurd (false≢true (sym none ∙ ap is_site (sym (eqb-true e.origin o is)) ∙ site))
none_from o e es site none rest false is = rest

outside : (o : ℕ) (es : List Placed) → ((e : Placed) → holds es e ≡ true → is_site e.origin ≡ true) → is_site o ≡ false → log_of o es ≡ []
outside o [] each none = refl
outside o (e ∷ es) each none =
    none_from o e es (each e (first_held e es)) none (outside o es (later (λ x. is_site x.origin ≡ true) e es each) none) (nat_eq e.origin o) refl

of_sites : (core : Core) → IsSite core → (e : Placed) → holds core.arrivals e ≡ true → is_site e.origin ≡ true
of_sites core site e held = grind (arith, nat_tests, site.inside e held, site.opened)

-- ---- two sites

module _ (again : MessagesAreReadAgain) (mine theirs : Core) (first : IsSite mine) (second : IsSite theirs)
    (read : (e : Placed) → holds mine.arrivals e ≡ true → IsAgain e) (also_read : (e : Placed) → holds theirs.arrivals e ≡ true → IsAgain e)
    (apart : HaveOwnDigestsAt mine.arrivals theirs.arrivals) (same : (o : ℕ) → is_site o ≡ true → HasEqualDigest o mine.arrivals theirs.arrivals) where
  at_site : (o : ℕ) → is_site o ≡ true → log_of o mine.arrivals ≡ log_of o theirs.arrivals
  at_site o site =
      let xs = log_of o mine.arrivals in let ys = log_of o theirs.arrivals in
      let texts : entry_texts xs ≡ entry_texts ys =
      equal_texts xs ys (length-log o mine.arrivals ∙ (same o site).count ∙ sym (length-log o theirs.arrivals)) (apart o) (same o site).digest in
      oks xs ys (sym (log_again o mine.arrivals read) ∙ ap (map message_in) texts ∙ log_again o theirs.arrivals also_read)

  pub logs_alike : (o : ℕ) → log_of o mine.arrivals ≡ log_of o theirs.arrivals
  logs_alike o = elim (cases_Bool (is_site o)) as (λ _. log_of o mine.arrivals ≡ log_of o theirs.arrivals) [
    | inl site ↦ at_site o site
    | inr none ↦ outside o mine.arrivals (of_sites mine first) none ∙ sym (outside o theirs.arrivals (of_sites theirs second) none)
  ]

  pub hold_alike : HoldAlike mine.arrivals theirs.arrivals
  hold_alike e =
      held_in_logs mine.arrivals first.order e
      ∙ ap (λ (log : ℕ → List Draft). is_held log e) (λ i o. logs_alike o i)
      ∙ sym (held_in_logs theirs.arrivals second.order e)

pub digests_alike : MessagesAreReadAgain → EqualDigestsAnswerAlike
digests_alike again one sites other others lines more valid also are these some any few fewer apart same =
    let mine : Core = core_kept one sites lines in let theirs : Core = core_kept other others more in
    let first : IsSite mine = live_site one sites valid lines are some in
    let second : IsSite theirs = live_site other others also more these any in
    let read : (e : Placed) → holds mine.arrivals e ≡ true → IsAgain e =
    λ e held. again (were_read one sites lines some e held).0 e.message (were_read one sites lines some e held).1 in
    let also_read : (e : Placed) → holds theirs.arrivals e ≡ true → IsAgain e =
    λ e held. again (were_read other others more any e held).0 e.message (were_read other others more any e held).1 in
    let digests = equal_digests mine.arrivals theirs.arrivals few fewer same in
    answer_alike mine theirs first.order second.order (hold_alike again mine theirs first second read also_read apart digests)
    (same_counts mine.arrivals theirs.arrivals (logs_alike again mine theirs first second read also_read apart digests))
