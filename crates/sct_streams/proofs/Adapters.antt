-- What the readers and writers of std tell of their bytes, in the words of a source and of a sink.
use Rattle.std.proofs.Common.{◌≡◌, ℕ, ◌<◌, List, [], ◌++◌, Option, Some, None, length, take, IfSome, refl, sym, ap, ◌∙◌, append-nil, arith}
use Rattle.std.specs.Io.KnownBytes.{Consumes, Appends, Keeps, IsAtEnd}
use Rattle.sct_streams.specs.Stream.{AppendsIfTold, Gives, HasTakenIfTold}

pub read_gives : (before after : Option (List ℕ)) (n : ℕ) (piece : List ℕ) → Consumes before after (take n piece)
    → (n ≡ 0 → 0 < length piece → IsAtEnd after) → IfSome before (λ bytes. Gives bytes n (length piece) piece after)
read_gives None after n piece consumed end = tt
read_gives (Some xs) None n piece consumed end = absurd consumed
read_gives (Some xs) (Some ys) n piece consumed end = record {
  rest = ys;
  left = refl;
  front = consumed;
  end = λ none room. consumed ∙ ap (λ k. take k piece ++ ys) none ∙ end none room;
}

pub read_keeps : (before after : Option (List ℕ)) → Keeps before after → HasTakenIfTold before after 0
read_keeps None after kept = tt
read_keeps (Some xs) None kept = absurd kept
read_keeps (Some xs) (Some ys) kept = (omega arith, ap Some kept)

pub write_appends : (before after : Option (List ℕ)) (bytes : List ℕ) → Appends before after bytes → AppendsIfTold before after bytes
write_appends None after bytes appended = tt
write_appends (Some xs) None bytes appended = absurd appended
write_appends (Some xs) (Some ys) bytes appended = ap Some appended

pub write_keeps : (before after : Option (List ℕ)) → Keeps before after → AppendsIfTold before after []
write_keeps None after kept = tt
write_keeps (Some xs) None kept = absurd kept
write_keeps (Some xs) (Some ys) kept = ap Some (kept ∙ sym (append-nil xs))
