-- A text written piece by piece. Proof plumbing.
use Rattle.std.proofs.Common.{◌≡◌, false, true, ℕ, ◌+◌, ◌<◌, List, [], ◌∷◌, ◌++◌, Some, length, take, drop, get_or, sym, ap, ◌∙◌, subst, append_assoc, append-nil, arith}
use Rattle.std.specs.Global.{Vec}
use Rattle.std.proofs.lemmas.Grind.{flat_map-append, take_at_read}
use Rattle.std.proofs.lemmas.List.{length-append, nil_from_length, take-append-drop}
use Rattle.sct_set.specs.Pieces.{joined}
use Rattle.sct_streams.specs.Stream.{IsCutOff, IsWritten, Output}
use Rattle.sct_commands.proofs.Prefixes.{both_written, first_cut_off, second_cut_off}

-- a piece more
more_of : (pieces : List (Vec ℕ)) (n : ℕ) (piece : Vec ℕ) → n < length pieces → piece ≡ get_or pieces n piece
    → joined (take (n + 1) pieces) ≡ joined (take n pieces) ++ piece.items
more_of pieces n piece below at =
    ap joined ((take_at_read pieces n piece below).1 ∙ ap (λ (p : Vec ℕ). take n pieces ++ p ∷ []) (sym at))
    ∙ flat_map-append (λ (p : Vec ℕ). p.items) (take n pieces) (piece ∷ [])
    ∙ ap (λ (xs : List ℕ). joined (take n pieces) ++ xs) (append-nil piece.items)

-- the pieces up to a place, and those from there on
parted : (pieces : List (Vec ℕ)) (n : ℕ) → joined (take n pieces) ++ joined (drop n pieces) ≡ joined pieces
parted pieces n = sym (flat_map-append (λ (p : Vec ℕ). p.items) (take n pieces) (drop n pieces)) ∙ ap joined (take-append-drop n pieces)

pub piece_written : (before between after : Output) (pieces : List (Vec ℕ)) (n : ℕ) (piece : Vec ℕ) → n < length pieces → piece ≡ get_or pieces n piece
    → IsWritten before between (Some (joined (take n pieces))) → IsWritten between after (Some piece.items)
    → IsWritten before after (Some (joined (take (n + 1) pieces)))
piece_written before between after pieces n piece below at so_far now =
    subst (λ text. IsWritten before after (Some text)) (sym (more_of pieces n piece below at)) (both_written before between after _ _ so_far now)

pub piece_cut_off : (before between after : Output) (pieces : List (Vec ℕ)) (n : ℕ) (piece : Vec ℕ) → n < length pieces → piece ≡ get_or pieces n piece
    → IsWritten before between (Some (joined (take n pieces))) → IsCutOff between after (Some piece.items) → IsCutOff before after (Some (joined pieces))
piece_cut_off before between after pieces n piece below at so_far cut =
    subst (λ text. IsCutOff before after (Some text)) (parted pieces (n + 1))
    (first_cut_off before after (joined (take (n + 1) pieces)) (joined (drop (n + 1) pieces))
    (subst (λ text. IsCutOff before after (Some text)) (sym (more_of pieces n piece below at)) (second_cut_off before between after _ _ so_far cut)))

-- where the whole is empty each piece is
pub piece_empty : (pieces : List (Vec ℕ)) (n : ℕ) (piece : Vec ℕ) → n < length pieces → piece ≡ get_or pieces n piece → joined pieces ≡ [] → piece.items ≡ []
piece_empty pieces n piece below at none =
    let whole : joined (take n pieces) ++ (piece.items ++ joined (drop (n + 1) pieces)) ≡ [] =
    sym (append_assoc (joined (take n pieces)) piece.items (joined (drop (n + 1) pieces)))
    ∙ ap (λ (xs : List ℕ). xs ++ joined (drop (n + 1) pieces)) (sym (more_of pieces n piece below at)) ∙ parted pieces (n + 1) ∙ none in
    let long = length-append (joined (take n pieces)) (piece.items ++ joined (drop (n + 1) pieces)) in
    let longer = length-append piece.items (joined (drop (n + 1) pieces)) in
    nil_from_length piece.items (omega (arith, ap length whole, long, longer))

-- a failure that is none
pub never : (P : Type 0) → false ≡ true → P
never P e = cc
