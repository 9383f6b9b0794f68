-- What clap finds in the words, computed.
use Rattle.std.proofs.Common.{refl}
use Rattle.clap.proofs.OnLiterals.{clap_on_literals}
use Rattle.sct_commands.proofs.request.options_ask_for_their_texts.Goals as goal

pub returns : goal.returns
unfolding clap_on_literals
returns c = record {
  help = λ program. record { answer = refl; no_order = refl };
  help_by_letter = λ program. record { answer = refl; no_order = refl };
  version = λ program. record { answer = refl; no_order = refl };
  version_by_letter = λ program. record { answer = refl; no_order = refl };
}
