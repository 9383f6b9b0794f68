-- Sites that workers filled from inputs. Read by an auditor. Runs use these words.
use Rattle.std.specs.Prelude.{ℕ, ◌≡◌, ◌+◌, List, [], ◌∷◌, length}
use Rattle.sct_lines.specs.Lines.{refusals_told, set_read}
use Rattle.sct_workers.specs.Stands.{Stands}
use Rattle.sct_site.specs.Cores.{Core}
use Rattle.sct_workers.specs.declared.filled.Filled.{Filled}
use Rattle.sct_workers.specs.declared.filled.Sites.{Sites}
use Rattle.sct_workers.specs.Files.{refused_in, told_from, told_of_file}

-- The site of this number in a group of this size was filled from the input.
pub record IsFilled (number size : ℕ) (input : List ℕ) (site : Filled) : Type 0 where
  pub stands : Stands number size (set_read input) site.core
  pub told : site.refusals.text ≡ told_of_file number input
  pub refused : site.refusals.count ≡ length (refusals_told input)

-- each core is that of a site that takes the messages read from its input; the sites are numbered from `number` upwards
abbrev pub AllStand : ℕ → ℕ → List (List ℕ) → List Core → Type 0
AllStand number size [] [] = Unit {0}
AllStand number size (input ∷ inputs) (core ∷ cores) =
    Stands number size (set_read input) core × AllStand (number + 1) size inputs cores
AllStand number size inputs cores = ⊥

-- The sites were filled from the inputs, in their order.
pub record AreFilled (size : ℕ) (inputs : List (List ℕ)) (sites : Sites) : Type 0 where
  pub stand : AllStand 1 size inputs sites.cores.items
  pub told : sites.refusals.text ≡ told_from 1 inputs
  pub refused : sites.refusals.count ≡ refused_in inputs
