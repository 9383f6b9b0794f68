-- What lines of form 2 are read as, one after another. Proof plumbing.
use Rattle.std.proofs.Common.{ℕ, ◌≡◌, ◌+◌, ◌-◌, ◌++◌, ◌∷◌, [], List, Bool, true, false, cond, Some, None, Err, refl, eqb-true}
use Rattle.std.specs.Prelude.{nat_eq}
use Rattle.std.specs.Result.{result_ok}
use Rattle.sct_message.specs.declared.draft.Draft.{Draft}
use Rattle.sct_json.specs.Reading.{message_in}
use Rattle.sct_delta.specs.Entries.{Placed}
use Rattle.sct_delta.specs.TextLines.{Line, lines_by_end, ended_first, entries_ended}
use Rattle.sct_delta.specs.GroupText.{may_begin, origin_in, groups_in}

-- ---- where a message is due

not_none : (due : ℕ) → (due ≡ 0 → ⊥) → nat_eq due 0 ≡ false
not_none due some =
    elim (nat_eq due 0) as (λ none. nat_eq due 0 ≡ none → none ≡ false) [
      | true ↦ λ none. absurd (some (eqb-true due 0 none))
      | false ↦ λ other. refl
    ] refl

pub read_message_more : (place origin n due : ℕ) (entries : List Placed) (line text after : List ℕ) (message : Draft)
    → lines_by_end text ≡ Some line ∷ lines_by_end after → (due ≡ 0 → ⊥) → Some message ≡ result_ok (message_in line)
    → groups_in place origin n due entries (lines_by_end text) ≡ groups_in (place + 1) origin (n + 1) (due - 1) (entries ++ record { origin = origin; n = n; message = message } ∷ []) (lines_by_end after)
unfolding groups_in
read_message_more place origin n due entries line text after message first some read = rw (first, not_none due some, ← read) refl

pub read_message_wrong : (place origin n due : ℕ) (entries : List Placed) (line text after : List ℕ)
    → lines_by_end text ≡ Some line ∷ lines_by_end after → (due ≡ 0 → ⊥) → None ≡ result_ok (message_in line)
    → groups_in place origin n due entries (lines_by_end text) ≡ Err place
unfolding groups_in
read_message_wrong place origin n due entries line text after first some none = rw (first, not_none due some, ← none) refl

-- ---- where none is due

-- what it says of an origin that its group may begin or not
pub begun : (b : Bool) (origin site : ℕ) → Some site ≡ cond b (Some origin) None → (b ≡ true) × (site ≡ origin)
begun true origin site h = (refl, cc)
begun false origin site h = cc

pub not_begun : (b : Bool) (origin : ℕ) → None ≡ cond b (Some origin) None → b ≡ false
not_begun true origin h = cc
not_begun false origin h = refl

pub read_origin_more : (place origin n due : ℕ) (entries : List Placed) (line text after : List ℕ) (next first count : ℕ)
    → lines_by_end text ≡ Some line ∷ lines_by_end after → due ≡ 0 → Some (next, first, count) ≡ origin_in line → may_begin origin next first count ≡ true
    → groups_in place origin n due entries (lines_by_end text) ≡ groups_in (place + 1) next first count entries (lines_by_end after)
unfolding groups_in
read_origin_more place origin n due entries line text after next first count at none read begins = rw (at, none, ← read, begins) refl

pub read_origin_wrong : (place origin n due : ℕ) (entries : List Placed) (line text after : List ℕ) (next first count : ℕ)
    → lines_by_end text ≡ Some line ∷ lines_by_end after → due ≡ 0 → Some (next, first, count) ≡ origin_in line → may_begin origin next first count ≡ false
    → groups_in place origin n due entries (lines_by_end text) ≡ Err place
unfolding groups_in
read_origin_wrong place origin n due entries line text after next first count at none read other = rw (at, none, ← read, other) refl

pub read_groups_end : (place origin n due : ℕ) (entries : List Placed) (line text after : List ℕ)
    → lines_by_end text ≡ Some line ∷ lines_by_end after → due ≡ 0 → None ≡ origin_in line
    → groups_in place origin n due entries (lines_by_end text) ≡ entries_ended place entries line (lines_by_end after)
unfolding groups_in
read_groups_end place origin n due entries line text after at none read = rw (at, none, ← read) refl

no_line_left : (place origin n due : ℕ) (entries : List Placed) (lines : List Line) → ended_first lines ≡ None → groups_in place origin n due entries lines ≡ Err place
unfolding groups_in
no_line_left place origin n due entries [] none = refl
no_line_left place origin n due entries (None ∷ lines) none = refl
no_line_left place origin n due entries (Some line ∷ lines) none = cc

pub groups_missing : (place origin n due : ℕ) (entries : List Placed) (text : List ℕ) → ended_first (lines_by_end text) ≡ None → groups_in place origin n due entries (lines_by_end text) ≡ Err place
groups_missing place origin n due entries text none = no_line_left place origin n due entries (lines_by_end text) none
