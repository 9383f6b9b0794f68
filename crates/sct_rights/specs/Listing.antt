-- A list of banks, such as `BANKDEFF,BANQFRPP`, by the bytes of its text. Read by an auditor.
use Rattle.std.specs.Prelude.{ℕ, List, [], ◌∷◌, length, nat_le, Option, Some, None, option_and_then, option_map, if◌then◌else◌}
use Rattle.std.specs.List.{slice_split}
use Rattle.sct_element.specs.Bank.{written_bic}
use Rattle.sct_delta.specs.VectorText.{is_comma}
use Rattle.sct_reconcile.specs.Lists.{read_by}

-- the greatest number of banks in a list
abbrev pub most_banks : ℕ
most_banks = 16

abbrev pub onto_banks : Option (List (List ℕ)) → Option (List ℕ) → Option (List (List ℕ))
onto_banks banks None = None
onto_banks banks (Some bank) = option_map (λ others. bank ∷ others) banks

-- the bank of each part, a BIC of 8 or 11 characters; none if a part is no BIC
abbrev pub banks_among : List (List ℕ) → Option (List (List ℕ))
banks_among [] = Some []
banks_among (part ∷ parts) = onto_banks (banks_among parts) (read_by written_bic part)

-- the banks, unless they are too many
abbrev pub unless_many : List (List ℕ) → Option (List (List ℕ))
unless_many banks = if nat_le (length banks) most_banks then Some banks else None

-- the banks that a text lists: 1 to 16, with a comma between each two; none if it is no such list
unfoldable pub banks_in : List ℕ → Option (List (List ℕ))
banks_in text = option_and_then unless_many (banks_among (slice_split is_comma text))
