-- The first wrong line of form 2 rests on the lines up to it alone. Proof plumbing.
use Rattle.std.proofs.Common.{ℕ, suc, ◌≡◌, ◌+◌, ◌-◌, ◌≤◌, ◌++◌, ◌∷◌, [], List, true, false, cond, Option, Some, None, Err, take, arith}
use Rattle.std.specs.Prelude.{nat_eq}
use Rattle.std.specs.Result.{result_ok}
use Rattle.sct_message.specs.declared.draft.Draft.{Draft}
use Rattle.sct_json.specs.Reading.{message_in}
use Rattle.sct_delta.specs.Entries.{Placed}
use Rattle.sct_delta.specs.TextLines.{Line}
use Rattle.sct_delta.specs.GroupText.{OriginFields, may_begin, origin_in, origin_on, message_on, groups_in}
use Rattle.sct_delta.proofs.WrongLineLemmas.{Read, same_first, no_lines, told_here, ended_at_least, ended_wrong, further}

-- what is read where no message is due, and where one is
abbrev pub OnOrigin : ℕ → ℕ → List Placed → List ℕ → List Line → Option OriginFields → Read
OnOrigin place origin entries line lines told =
    origin_on place origin entries line lines (λ fields. groups_in (place + 1) fields.0 fields.1 fields.2 entries lines) told

abbrev pub OnMessage : ℕ → ℕ → ℕ → ℕ → List Placed → List Line → Option Draft → Read
OnMessage place origin n due entries lines told =
    message_on place (λ message. groups_in (place + 1) origin (n + 1) (due - 1) (entries ++ record { origin = origin; n = n; message = message } ∷ []) lines) told

pub groups_at_least : (place k origin n due : ℕ) (entries : List Placed) (lines : List Line) → groups_in place origin n due entries lines ≡ Err k → place ≤ k
unfolding groups_in
groups_at_least place k origin n due entries [] h = omega (arith, told_here place k h)
groups_at_least place k origin n due entries (None ∷ lines) h = omega (arith, told_here place k h)
groups_at_least place k origin n due entries (Some line ∷ lines) h =
    (elim (nat_eq due 0) as (λ none. cond none (OnOrigin place origin entries line lines (origin_in line)) (OnMessage place origin n due entries lines (result_ok (message_in line))) ≡ Err k → place ≤ k) [
      | true ↦ (elim (origin_in line) as (λ told. OnOrigin place origin entries line lines told ≡ Err k → place ≤ k) [
        | None ↦ λ e. ended_at_least place k entries line lines e
        | Some fields ↦ (elim (may_begin origin fields.0 fields.1 fields.2) as (λ begins. cond begins (groups_in (place + 1) fields.0 fields.1 fields.2 entries lines) (Err place) ≡ Err k → place ≤ k) [
          | true ↦ λ e. let more : place + 1 ≤ k = groups_at_least (place + 1) k fields.0 fields.1 fields.2 entries lines e in omega (arith, more)
          | false ↦ λ e. omega (arith, told_here place k e)
        ])
      ])
      | false ↦ (elim (result_ok (message_in line)) as (λ told. OnMessage place origin n due entries lines told ≡ Err k → place ≤ k) [
        | None ↦ λ e. omega (arith, told_here place k e)
        | Some message ↦ λ e.
            let more : place + 1 ≤ k = groups_at_least (place + 1) k origin (n + 1) (due - 1) (entries ++ record { origin = origin; n = n; message = message } ∷ []) lines e in
            omega (arith, more)
      ])
    ]) h

pub groups_stay_wrong : (place j origin n due : ℕ) (entries : List Placed) (lines other : List Line) → groups_in place origin n due entries lines ≡ Err (place + j) → take (suc j) lines ≡ take (suc j) other
    → groups_in place origin n due entries other ≡ Err (place + j)
unfolding groups_in
groups_stay_wrong place j origin n due entries [] other h same = rw (no_lines j other same) h
groups_stay_wrong place j origin n due entries (None ∷ lines) other h same =
    let parts = same_first j None lines other same in
    rw parts.1 h
groups_stay_wrong place j origin n due entries (Some line ∷ lines) other h same =
    let parts : (rest : List Line) × (other ≡ Some line ∷ rest) × (take j lines ≡ take j rest) = same_first j (Some line) lines other same in
    let on : groups_in place origin n due entries (Some line ∷ parts.0) ≡ Err (place + j) =
    (elim (nat_eq due 0) as (λ none.
    cond none (OnOrigin place origin entries line lines (origin_in line)) (OnMessage place origin n due entries lines (result_ok (message_in line))) ≡ Err (place + j)
    → cond none (OnOrigin place origin entries line parts.0 (origin_in line)) (OnMessage place origin n due entries parts.0 (result_ok (message_in line))) ≡ Err (place + j)) [
      | true ↦ (elim (origin_in line) as (λ told. OnOrigin place origin entries line lines told ≡ Err (place + j) → OnOrigin place origin entries line parts.0 told ≡ Err (place + j)) [
        | None ↦ λ e. ended_wrong place j entries line lines parts.0 e parts.2
        | Some fields ↦ (elim (may_begin origin fields.0 fields.1 fields.2) as (λ begins.
            cond begins (groups_in (place + 1) fields.0 fields.1 fields.2 entries lines) (Err place) ≡ Err (place + j)
            → cond begins (groups_in (place + 1) fields.0 fields.1 fields.2 entries parts.0) (Err place) ≡ Err (place + j)) [
              | true ↦ λ e. further place j (groups_in (place + 1) fields.0 fields.1 fields.2 entries) lines parts.0 (λ k. groups_at_least (place + 1) k fields.0 fields.1 fields.2 entries lines) e parts.2
                  (λ i wrong agree. groups_stay_wrong (place + 1) i fields.0 fields.1 fields.2 entries lines parts.0 wrong agree)
              | false ↦ λ e. e
            ])
      ])
      | false ↦ (elim (result_ok (message_in line)) as (λ told. OnMessage place origin n due entries lines told ≡ Err (place + j) → OnMessage place origin n due entries parts.0 told ≡ Err (place + j)) [
        | None ↦ λ e. e
        | Some message ↦ λ e. further place j (groups_in (place + 1) origin (n + 1) (due - 1) (entries ++ record { origin = origin; n = n; message = message } ∷ [])) lines parts.0
            (λ k. groups_at_least (place + 1) k origin (n + 1) (due - 1) (entries ++ record { origin = origin; n = n; message = message } ∷ []) lines) e parts.2
            (λ i wrong agree. groups_stay_wrong (place + 1) i origin (n + 1) (due - 1) (entries ++ record { origin = origin; n = n; message = message } ∷ []) lines parts.0 wrong agree)
      ])
    ]) h in
    rw parts.1 on
