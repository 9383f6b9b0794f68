-- Banks in front of those that are left. Proof plumbing.
use Rattle.std.proofs.Common.{ℕ, List, ◌++◌, Option, option_map}

-- banks in front of the others
abbrev pub before_banks : List (List ℕ) → Option (List (List ℕ)) → Option (List (List ℕ))
before_banks some banks = option_map (λ others. some ++ others) banks
