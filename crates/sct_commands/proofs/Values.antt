-- The values of an argument, by the rows of the matches.
use Rattle.std.proofs.Common.{◌≡◌, ℕ, List, map, option_map, slice_get}
use Rattle.std.proofs.lemmas.Option.{slice_get-map}
use Rattle.clap.specs.Words.{Text, all_of, first_of, first_value, matched_of, raw_values, rows_of}
use Rattle.clap.specs.declared.parser.matches.Found.{Found}
use Rattle.clap.proofs.WalkLemmas.{first_value-rows, raw_values-rows}

pub value_given : (f : Found) (id : Text) → first_value f id ≡ first_of id (rows_of f)
value_given f id = first_value-rows f id

pub values_given : (f : Found) (id : Text) → option_map raw_values (matched_of f id) ≡ all_of id (rows_of f)
values_given f id = raw_values-rows f id

pub text_at : {X : Type 0} (text : X → Text) (xs : List X) (place : ℕ) → slice_get (map text xs) place ≡ option_map text (slice_get xs place)
text_at text xs place = slice_get-map text xs place
