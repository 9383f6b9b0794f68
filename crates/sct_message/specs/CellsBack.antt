-- Proof plumbing: an element can be recovered from its cell, and rows of cells that compare Equal are one row.
use Rattle.std.proofs.Common.{◌≡◌, ap, refl, ℕ, List, [], ◌∷◌, get_or, Option, Some, None, option_map}
use Rattle.std.specs.Prelude.{option_and_then}
use Rattle.std.specs.Option.{option_cmp}
use Rattle.std.specs.FinSet.{IsAntisymmetric, nat_cmp-IsAntisymmetric, slice_cmp-IsAntisymmetric}
use Rattle.sct_reason.specs.declared.reasons.Reason.{Reason}
use Rattle.sct_reason.specs.declared.reasons.Reason.TheVariants.{FOCR}
use Rattle.sct_reason.specs.Codes.{reason_text}
use Rattle.sct_reason.specs.Reasons.{reason_of}
use Rattle.sct_reason.specs.ReasonLaws.{text_is_read}
use Rattle.sct_message.specs.declared.draft.Head.{Head}
use Rattle.sct_message.specs.declared.draft.Original.{Original}
use Rattle.sct_message.specs.Cells.{text_order, elements_order}

abbrev pub Cells : Type 0
Cells = List (Option (List ℕ))

-- ---- one cell; for an absent cell any value will do

abbrev pub may_cell : ℕ → Cells → Option (List ℕ)
may_cell n es = get_or es n None

abbrev pub text_in : Option (List ℕ) → List ℕ
text_in None = []
text_in (Some s) = s

abbrev pub cell : ℕ → Cells → List ℕ
cell n es = text_in (may_cell n es)

abbrev pub cents : List ℕ → ℕ
cents [] = 0
cents (n ∷ ns) = n

abbrev pub the_reason : Option Reason → Reason
the_reason None = FOCR
the_reason (Some r) = r

pub reason_back : (r : Reason) → the_reason (reason_of (reason_text r)) ≡ r
reason_back r = ap the_reason (text_is_read r)

pub may_reason_back : (r : Option Reason) → option_and_then reason_of (option_map reason_text r) ≡ r
may_reason_back None = refl
may_reason_back (Some r) = text_is_read r

-- ---- the elements that several kinds have

abbrev pub head_from : Cells → Head
head_from es = record {
  message_name = cell 0 es;
  message_id = cell 1 es;
  creation_time = cell 2 es;
  instructing_agent = cell 3 es;
  instructed_agent = may_cell 4 es;
}

abbrev pub original_from : Cells → Original
original_from es = record {
  message_id = cell 0 es;
  message_name = cell 1 es;
  end_to_end_id = may_cell 2 es;
  transaction_id = cell 3 es;
}

-- ---- rows that compare Equal

pub texts_same : IsAntisymmetric text_order
texts_same = slice_cmp-IsAntisymmetric nat_cmp-IsAntisymmetric

options_same : IsAntisymmetric (option_cmp text_order)
options_same None None e = refl
options_same None (Some t) e = cc
options_same (Some s) None e = cc
options_same (Some s) (Some t) e = ap (λ (u : List ℕ). Some u) (texts_same s t e)

pub elements_same : IsAntisymmetric elements_order
elements_same = slice_cmp-IsAntisymmetric options_same
