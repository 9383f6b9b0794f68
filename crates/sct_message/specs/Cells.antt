-- Read by an auditor: the elements of a message in a row, one cell each, and the order of such rows.
-- An amount is compared by its cents, a reason by its code.
use Rattle.std.specs.Prelude.{ℕ, List, [], ◌∷◌, Option, Some}
use Rattle.std.specs.Ordering.{nat_cmp}
use Rattle.std.specs.declared.cmp.Ordering.{Ordering}
use Rattle.std.specs.Option.{option_cmp}
use Rattle.std.specs.Cmp.Lexicographic.{slice_cmp}
use Rattle.sct_message.specs.declared.draft.Head.{Head}
use Rattle.sct_message.specs.declared.draft.Original.{Original}

-- texts are ordered by their bytes
abbrev pub text_order : List ℕ → List ℕ → Ordering
text_order = slice_cmp nat_cmp

-- lists of elements, element by element; an absent element comes first
abbrev pub elements_order : List (Option (List ℕ)) → List (Option (List ℕ)) → Ordering
elements_order = slice_cmp (option_cmp text_order)

-- ---- the elements that several kinds have, in the order of the key tables

abbrev pub head_elements : Head → List (Option (List ℕ))
head_elements h =
    Some h.message_name
    ∷ Some h.message_id
    ∷ Some h.creation_time
    ∷ Some h.instructing_agent
    ∷ h.instructed_agent
    ∷ []

abbrev pub original_elements : Original → List (Option (List ℕ))
original_elements o =
    Some o.message_id
    ∷ Some o.message_name
    ∷ o.end_to_end_id
    ∷ Some o.transaction_id
    ∷ []
