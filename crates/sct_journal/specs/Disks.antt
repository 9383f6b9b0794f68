-- What a write of a journal leaves on a disk, as lists. Serves proofs.
use Rattle.std.specs.Prelude.{ℕ, ◌+◌, List, ◌++◌, length, take, drop}

-- `new` is `old` with these bytes at this offset
abbrev pub is_with : List ℕ → ℕ → List ℕ → List ℕ
is_with old at bytes = take at old ++ (bytes ++ drop (at + length bytes) old)
