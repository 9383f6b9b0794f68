-- The commands on one site of a group: the place of the site, what is wanted of it, and its files. Read by an auditor.
use Rattle.std.specs.Prelude.{ℕ, ◌^◌, List, [], if◌then◌else◌, Option, Some, None, codes, nat_lt, option_and_then, option_map}
use Rattle.clap.specs.Words.{Row, Text, all_of, first_of}
use Rattle.sct_delta.specs.Vectors.{count_in}
use Rattle.sct_delta.specs.TextLines.{number_in}
use Rattle.sct_delta.specs.VectorText.{counts_of, vector_in}
use Rattle.sct_site.specs.Cores.{is_open}
use Rattle.sct_commands.specs.declared.places.Wanting.{Wanting}
use Rattle.sct_commands.specs.declared.places.Wanting.TheVariants as wanting

-- what is wanted of a site: the messages that it holds, its version vector, the digests of its entries, or the delta of its
-- entries above a version vector, which has these counts
pub data Wanted : Type 0 where
  messages : Wanted
  vector : Wanted
  digests : Wanted
  delta : (ℕ → ℕ) → Wanted

abbrev pub wanted_of : Wanting → Wanted
wanted_of wanting.Messages = messages
wanted_of wanting.Vector = vector
wanted_of wanting.Digests = digests
wanted_of (wanting.Delta have) = delta (count_in have)

-- a number below 65,536
abbrev pub site_numbered : ℕ → Option ℕ
site_numbered number = if nat_lt number (2 ^ 16) then Some number else None

-- the number that a word writes in decimals, without a sign and without leading zeros, if it is below 65,536
abbrev pub number_in_word : Text → Option ℕ
number_in_word word = option_and_then site_numbered (number_in word)

-- the number that an argument writes
abbrev pub number_ordered : Text → List Row → Option ℕ
number_ordered name given = option_and_then number_in_word (first_of name given)

-- the number of a site and the number of sites, if a group can have this number of sites and the site is one of them
abbrev pub place_from : ℕ → ℕ → Option (ℕ × ℕ)
place_from site sites = if is_open site sites then Some (site, sites) else None

-- the same from the words that write the numbers
abbrev pub place_named : Text → Text → Option (ℕ × ℕ)
place_named number group = option_and_then (λ site. option_and_then (λ sites. place_from site sites) (number_in_word group)) (number_in_word number)

abbrev pub place_ordered : List Row → Option (ℕ × ℕ)
place_ordered given =
    option_and_then (λ site. option_and_then (λ sites. place_from site sites) (number_ordered (codes "SITES") given))
    (number_ordered (codes "SITE") given)

-- the first site of a group with so many sites, if a group can have them
abbrev pub group_in : Text → Option (ℕ × ℕ)
group_in word = option_and_then (λ sites. place_from 1 sites) (number_in_word word)

-- the paths of the deltas, in the order given; there may be none
abbrev pub texts_or_none : Option (List Text) → List Text
texts_or_none (Some texts) = texts
texts_or_none None = []

abbrev pub deltas_ordered : List Row → List Text
deltas_ordered given = texts_or_none (all_of (codes "DELTA") given)

-- the counts of the version vector that a text writes, if it writes one
abbrev pub counts_in : Text → Option (ℕ → ℕ)
counts_in text = option_map counts_of (vector_in text)

abbrev pub have_ordered : List Row → Option (ℕ → ℕ)
have_ordered given = option_and_then counts_in (first_of (codes "HAVE") given)
