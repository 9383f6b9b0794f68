-- The bytes of files. Read by an auditor.
use Rattle.std.specs.Prelude.{ℕ, ◌≡◌, List, [], ◌∷◌, Option, None, Some, IfSome}

-- the bytes are those of the file at this path, if these are known
abbrev pub IsGiven : (List ℕ → Option (List ℕ)) → List ℕ → List ℕ → Type 0
IsGiven gives path bytes = IfSome (gives path) (λ given. bytes ≡ given)

-- each input has the bytes of the file at its path; there are as many inputs as paths, in the same order
abbrev pub AreGiven : (List ℕ → Option (List ℕ)) → List (List ℕ) → List (List ℕ) → Type 0
AreGiven gives [] [] = Unit {0}
AreGiven gives (path ∷ paths) (bytes ∷ inputs) = IsGiven gives path bytes × AreGiven gives paths inputs
AreGiven gives _ _ = ⊥

-- the bytes that are left of the open file, if they are known; none are left if no file is open
abbrev pub left_in : {F : Type 0} → (F → Option (List ℕ)) → Option F → Option (List ℕ)
left_in remaining None = Some []
left_in remaining (Some file) = remaining file
