-- All origins are written, or none has an entry.
use Rattle.std.proofs.Common.{◌≡◌, ◌≢◌, ◌∙◌, ◌-◌, ◌++◌, ap, sym, arith, length, string_bytes, ℕ, eqb-true}
use Rattle.std.specs.Prelude.{codes}
use Rattle.std.proofs.lemmas.Bool.{eqb-false}
use Rattle.sct_delta.specs.Vectors.{count_in}
use Rattle.sct_delta.specs.VectorText.{joined_pairs, pairs_of, pairs_to}
use Rattle.sct_delta.proofs.VectorTextLemmas.{no_bytes, vector_of_none, vector_of_some}
use Rattle.sct_delta.proofs.text.vectors.write_vector.Goals as goal
use Rattle.sct_delta.proofs.text.vectors.write_vector.Goals.{then-is_empty+in_ok-push_str, else-is_empty}

all_written : (c : goal.Joined-is_empty) → string_bytes c.loop-origin.text ≡ joined_pairs (pairs_of (count_in c.args.vector.now))
all_written c =
    let last : c.loop-origin.origin - 1 ≡ 1024 = omega (arith, c.loop-origin-test.false, c.loop-origin.auto.origin-end (omega arith)) in
    c.loop-origin.invariant ∙ ap (λ (n : ℕ). joined_pairs (pairs_to (count_in c.args.vector.now) n)) last

pub returns : goal.returns
returns c =
    let size : c.loop-origin.text.bytes.len ≡ length (string_bytes c.loop-origin.text) = c.loop-origin.text.bytes.ok.0 in
    elim c.if-is_empty.branch [
      | then-is_empty+in_ok-push_str w ↦
          let none : c.loop-origin.text.bytes.len ≡ 0 = eqb-true c.loop-origin.text.bytes.len 0 (sym c.is_empty.ensures ∙ w.if-is_empty.true) in
          let empty : length (string_bytes c.loop-origin.text) ≡ 0 = omega (arith, size, none) in
          ap string_bytes w.text-is
          ∙ w.in_ok-push_str.ensures.bytes
          ∙ ap (λ t. t ++ codes "-") (no_bytes (string_bytes c.loop-origin.text) empty)
          ∙ vector_of_none (count_in c.args.vector.now) (string_bytes c.loop-origin.text) (all_written c) empty
      | else-is_empty w ↦
          let some : c.loop-origin.text.bytes.len ≢ 0 = eqb-false c.loop-origin.text.bytes.len 0 (sym c.is_empty.ensures ∙ w.if-is_empty.false) in
          ap string_bytes w.text-is
          ∙ vector_of_some (count_in c.args.vector.now) (string_bytes c.loop-origin.text) (all_written c) (λ none. some (omega (arith, size, none)))
    ]
