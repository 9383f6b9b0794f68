-- Findings and the status of a transfer by what messages say of it. Proof plumbing.
use Rattle.std.proofs.Common.{◌≡◌, ◌∙◌, sym, ap, ℕ, ◌+◌, ◌<◌, Bool, ◌||◌, List, [], ◌∷◌, ◌++◌, length, get_or, take, map, append_assoc, option_map}
use Rattle.std.specs.Prelude.{◌&&◌, nat_lt}
use Rattle.std.specs.Arc.{arc_value}
use Rattle.std.specs.Global.{Global}
use Rattle.std.specs.List.{list_any}
use Rattle.std.specs.declared.sync.Arc.{Arc}
use Rattle.std.proofs.Math.Bool.{or-false}
use Rattle.std.proofs.lemmas.List.{flat_map_more, map_more}
use Rattle.std.proofs.lemmas.List.Folds.{list_any-append}
use Rattle.sct_message.specs.Sets.{messages_in}
use Rattle.sct_message.specs.declared.draft.Draft.{Draft}
use Rattle.sct_message.specs.declared.keys.Identity.{Identity}
use Rattle.sct_message.specs.declared.keys.TransferKey.{TransferKey}
use Rattle.sct_case.specs.declared.finding.Finding.TheVariants as finding
use Rattle.sct_case.specs.declared.said.Said.{Said}
use Rattle.sct_case.specs.Inside.{IsOneMore, IsSaidOf, all_found, both_answers, differing_recalls, differing_refusals, standing_said}
use Rattle.sct_case.specs.Said.{amounts_by, instructions_by, is_acceptance, is_investigation, recalls_made_by, refusals_by, rejections_by, requests_by, returns_by}
use Rattle.sct_case.specs.Statuses.{first, standing_by, standing_of}
use Rattle.sct_case.specs.Told.{cxls, differ, findings_of, findings_of_instruction, findings_of_recalls, has_some, names_another, same_reason, same_return, where_found}

regroup : {X : Type 0} (i a b c d e : List X) → i ++ a ++ b ++ c ++ d ++ e ≡ i ++ (a ++ b ++ c ++ d ++ e)
regroup i a b c d e = simp append_assoc

-- one more of shared messages
pub messages_more : (shared : List (Arc Draft Global)) (i : ℕ) (message : Arc Draft Global) (m : Draft) → i < length shared → message ≡ get_or shared i message → m ≡ arc_value message
    → messages_in (take i shared) ++ m ∷ [] ≡ messages_in (take (i + 1) shared)
messages_more shared i message m in' is value =
    ap (λ (x : Draft). messages_in (take i shared) ++ x ∷ []) (value ∙ ap arc_value is)
    ∙ sym (map_more arc_value shared i message in')

-- what one more message says of the transfer
module _ (t : TransferKey) (ms : List Draft) (m : Draft) where
  test_more : (p : Draft → Bool) → (list_any p ms || p m) ≡ list_any p (ms ++ m ∷ [])
  test_more p = sym (list_any-append p ms (m ∷ []) ∙ ap (λ b. list_any p ms || b) (or-false (p m)))

  pub more_of : (old new : Said) → IsSaidOf t ms old → IsOneMore t m old new → IsSaidOf t (ms ++ m ∷ []) new
  more_of old new said more = record {
    instructions = more.instructions ∙ (λ i. said.instructions i ++ instructions_by m) ∙ flat_map_more instructions_by [] ms m;
    accepted = more.accepted ∙ (λ i. said.accepted i || is_acceptance m) ∙ test_more is_acceptance;
    rejections = more.rejections ∙ (λ i. said.rejections i ++ rejections_by m) ∙ flat_map_more rejections_by [] ms m;
    investigated = more.investigated ∙ (λ i. said.investigated i || is_investigation m) ∙ test_more is_investigation;
    recalls = more.recalls ∙ (λ i. said.recalls i ++ recalls_made_by t m) ∙ flat_map_more (recalls_made_by t) [] ms m;
    amounts = more.amounts ∙ (λ i. said.amounts i ++ amounts_by t m) ∙ flat_map_more (amounts_by t) [] ms m;
    returns = more.returns ∙ (λ i. said.returns i ++ returns_by t m) ∙ flat_map_more (returns_by t) [] ms m;
    refusals = more.refusals ∙ (λ i. said.refusals i ++ refusals_by t m) ∙ flat_map_more (refusals_by t) [] ms m;
    requests = more.requests ∙ (λ i. said.requests i ++ requests_by t m) ∙ flat_map_more (requests_by t) [] ms m;
  }

module _ (t : TransferKey) (clean : List Draft) (said : Said) (s : IsSaidOf t clean said) where
  pub found_of : (asides : List Identity) → all_found said asides ≡ findings_of t clean asides
  unfolding findings_of findings_of_instruction findings_of_recalls
  found_of asides =
      (λ i. map (λ x. finding.Identity x) asides
      ++ where_found (nat_lt 1 (length (s.instructions i))) finding.TwoInstructions
      ++ where_found (s.accepted i && has_some (s.rejections i)) finding.BothConfirmed
      ++ where_found (differ same_reason (s.rejections i)) finding.ReasonsDiffer
      ++ where_found (names_another (s.instructions i) (s.amounts i)) finding.AmountDiffers
      ++ differing_recalls (s.recalls i) (cxls (map (λ m. m.cxl) (s.recalls i)))
      ++ both_answers (s.returns i) (cxls (map (λ m. m.cxl) (s.refusals i)))
      ++ differing_refusals (s.refusals i) (cxls (map (λ m. m.cxl) (s.refusals i)))
      ++ where_found (differ same_return (s.returns i)) finding.TwoReturns
      ++ where_found (has_some (s.returns i) && has_some (s.rejections i)) finding.ReturnOfRejected)
      ∙ regroup (findings_of_instruction t clean asides) _ _ _ _ _

  pub standing_said_of : standing_said said ≡ standing_of t clean
  standing_said_of =
      λ i. standing_by (record {
        instructed = has_some (s.instructions i);
        rejected = option_map (λ r. r.reason) (first (s.rejections i));
        accepted = s.accepted i;
        returned = option_map (λ r. r.amount) (first (s.returns i));
        investigated = s.investigated i;
      })
