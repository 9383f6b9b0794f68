-- What clap finds in the words, computed, and the word of which nothing is read.
use Rattle.std.proofs.Common.{refl}
use Rattle.clap.proofs.OnLiterals.{clap_on_literals}
use Rattle.sct_commands.proofs.request.mistakes_name_their_words.Goals as goal

pub returns : goal.returns
unfolding clap_on_literals
returns c = record {
  keep = λ program day none. record { no_error = refl; no_order = rw none refl; word = rw none refl };
  closed = λ program day none. record { no_error = refl; no_order = rw none refl; word = rw none refl };
}
