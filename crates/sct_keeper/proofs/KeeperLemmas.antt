-- The site of a journal that is opened, and of one that has a round more. Proof plumbing.
use Rattle.std.proofs.Common.{◌≡◌, ◌∙◌, inl, inr, refl, ap, sym, ℕ, ◌+◌, ◌<◌, ◌^◌, ◌%◌, List, [], ◌∷◌, ◌++◌, drop, arith, append_assoc}
use Rattle.std.proofs.lemmas.List.{append-nil}
use Rattle.std.proofs.lemmas.Fmt.{decimal_by_steps}
use Rattle.std.specs.Prelude.{codes}
use Rattle.std.specs.Fmt.{decimal}
use Rattle.sct_site.specs.Cores.{Core}
use Rattle.sct_exchange.specs.Journals.{opened}
use Rattle.sct_journal.specs.Fronts.{IsLeft}
use Rattle.sct_journal.specs.Kept.{IsBeforeOrAfter, IsLine, kept, recorded}
use Rattle.sct_journal.proofs.FrontLemmas.{journals_are_ours}
use Rattle.sct_requests.specs.Steps.{core_after, core_kept}
use Rattle.sct_requests.proofs.StepLemmas.{after_join, group_after, number_after}
use Rattle.sct_keeper.specs.Keepers.{IsRecordedBeforeOrAfter, header}
use Rattle.sct_keeper.specs.Replays.{IsReplayed}

-- ---- the first line

line_join : (xs ys : List ℕ) → IsLine xs → IsLine ys → IsLine (xs ++ ys)
line_join [] ys first second = second
line_join (x ∷ xs) ys first second = (first.0, line_join xs ys first.1 second)

decimal_line : (n : ℕ) → n < 2 ^ 64 → IsLine (decimal n)
decimal_line = decimal_by_steps (λ n ds. IsLine ds)
    (λ n small. ((λ is. absurd (omega (arith, is))), tt))
    (λ n ds large is. line_join ds ((48 + n % 10) ∷ []) is ((λ same. absurd (omega (arith, same))), tt))

site_line : IsLine (codes "site ")
site_line =
    ((λ e. absurd (omega (arith, e))), ((λ e. absurd (omega (arith, e))), ((λ e. absurd (omega (arith, e))), ((λ e. absurd (omega (arith, e))), ((λ e. absurd (omega (arith, e))), tt)))))

space_line : IsLine (codes " ")
space_line = ((λ e. absurd (omega (arith, e))), tt)

pub header_line : (number group : ℕ) → number < 2 ^ 64 → group < 2 ^ 64 → IsLine (header number group)
unfolding header
header_line number group first second =
    line_join ((codes "site " ++ decimal number) ++ codes " ") (decimal group)
    (line_join (codes "site " ++ decimal number) (codes " ") (line_join (codes "site ") (decimal number) site_line (decimal_line number first)) space_line)
    (decimal_line group second)

-- ---- an opening

pub replayed_none : (core : Core) (front whole : List (List ℕ)) → whole ≡ front → IsReplayed core core front whole
replayed_none core front whole same = record { lines = []; parts = same ∙ sym (append-nil front); site = refl }

pub replayed_more : (before mid after : Core) (front old new lines : List (List ℕ)) → IsReplayed before mid front old → new ≡ old ++ lines → after ≡ core_after mid lines
    → IsReplayed before after front new
replayed_more before mid after front old new lines so_far more is = record {
  lines = so_far.lines ++ lines;
  parts = more ∙ ap (λ (l : List (List ℕ)). l ++ lines) so_far.parts ∙ append_assoc front so_far.lines lines;
  site = is ∙ ap (λ (c : Core). core_after c lines) so_far.site ∙ sym (after_join so_far.lines lines before);
}

pub replayed_whole : (before after : Core) (front old new : List (List ℕ)) → IsReplayed before after front old → new ≡ old → IsReplayed before after front new
replayed_whole before after front old new so_far same = record { lines = so_far.lines; parts = same ∙ so_far.parts; site = so_far.site }

-- the lines behind the first
behind_first : (first : List ℕ) (lines others : List (List ℕ)) → first ∷ lines ≡ first ∷ others → lines ≡ others
behind_first first lines others same = ap (λ (l : List (List ℕ)). drop 1 l) same

pub replayed_all : (before after : Core) (first : List ℕ) (front whole rest : List (List ℕ)) → IsReplayed before after front whole → front ≡ first ∷ [] → whole ≡ first ∷ rest
    → after ≡ core_after before rest
replayed_all before after first front whole rest done one is =
    done.site ∙ ap (core_after before) (behind_first first done.lines rest (ap (λ (l : List (List ℕ)). l ++ done.lines) (sym one) ∙ sym done.parts ∙ is))

pub kept_number : (number group : ℕ) (lines : List (List ℕ)) (core : Core) → core ≡ core_kept number group lines → core.number ≡ number
kept_number number group lines core is = ap (λ (c : Core). c.number) is ∙ number_after lines (opened number group)

pub kept_group : (number group : ℕ) (lines : List (List ℕ)) (core : Core) → core ≡ core_kept number group lines → core.group ≡ group
kept_group number group lines core is = ap (λ (c : Core). c.group) is ∙ group_after lines (opened number group)

-- ---- a round

pub recorded_more : (file new first : List ℕ) (batch : List (List ℕ)) (rest : List (List ℕ)) → kept file ≡ first ∷ rest → kept new ≡ kept file ++ batch → recorded new ≡ recorded file ++ batch
recorded_more file new first batch rest begins more =
    ap (λ (l : List (List ℕ)). drop 1 l) (more ∙ ap (λ (l : List (List ℕ)). l ++ batch) begins)
    ∙ ap (λ (l : List (List ℕ)). drop 1 l ++ batch) (sym begins)

pub recorded_either : (file c first : List ℕ) (batch : List (List ℕ)) (rest : List (List ℕ)) → kept file ≡ first ∷ rest → IsBeforeOrAfter (kept file) batch c → IsRecordedBeforeOrAfter (recorded file) batch c
recorded_either file c first batch rest begins (inl same) = inl (ap (λ (l : List (List ℕ)). drop 1 l) same)
recorded_either file c first batch rest begins (inr more) = inr (recorded_more file c first batch rest begins more)

pub begins_still : (file new first : List ℕ) (batch : List (List ℕ)) → kept file ≡ first ∷ recorded file → kept new ≡ kept file ++ batch → kept new ≡ first ∷ recorded new
begins_still file new first batch begins more =
    more ∙ ap (λ (l : List (List ℕ)). l ++ batch) begins ∙ ap (λ (l : List (List ℕ)). first ∷ l) (sym (recorded_more file new first batch (recorded file) begins more))

-- what a crash leaves of a journal that was opened
pub left_of_kept : (first file seen c : List ℕ) → kept seen ≡ first ∷ recorded file → kept c ≡ kept seen → IsLeft first file c
left_of_kept first file seen c begins same = record {
  same = ap (λ (l : List (List ℕ)). drop 1 l) (same ∙ begins);
  begun = λ _. inl (journals_are_ours first c (recorded file) (same ∙ begins));
}
