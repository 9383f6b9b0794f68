-- What clap finds in the words, computed.
use Rattle.std.proofs.Common.{refl}
use Rattle.clap.proofs.OnLiterals.{clap_on_literals}
use Rattle.sct_commands.proofs.request.commands_ask_for_their_orders.Goals as goal

pub returns : goal.returns
unfolding clap_on_literals
returns c = record {
  status = λ program. record { no_error = refl; found = refl };
  archive = λ program. record { no_error = refl; found = refl };
  totals = λ program. record { no_error = refl; found = refl };
  replay = λ program. record { no_error = refl; found = refl };
  keep = λ program day. record { no_error = refl; found = refl };
  keep_written = λ program. record { no_error = refl; found = refl };
  closed = λ program day. record { no_error = refl; found = refl };
  list = λ program bank day path. record { no_error = refl; found = refl };
  one_file = λ program file. record { no_error = refl; found = refl };
  site = λ program number group journal. record { no_error = refl; found = refl };
  site_with_deltas = λ program number group journal one other. record { no_error = refl; found = refl };
  vector = λ program number group journal. record { no_error = refl; found = refl };
  digests_written = λ program. record { no_error = refl; found = refl };
  digests = λ program number group journal one. record { no_error = refl; found = refl };
  cut = λ program number group have journal one. record { no_error = refl; found = refl };
  cut_all = λ program. record { no_error = refl; found = refl };
  site_written = λ program. record { no_error = refl; found = refl };
  vector_written = λ program. record { no_error = refl; found = refl };
  cut_written = λ program. record { no_error = refl; found = refl };
  serve = λ program number group journal. record { no_error = refl; found = refl };
  two_files = λ program file other. record { no_error = refl; found = refl };
}
