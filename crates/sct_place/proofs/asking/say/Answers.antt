-- The text of the reason is copied, or there is no memory for it.
use Rattle.std.proofs.Common.{◌∙◌, ap, refl, subst, ℕ, List, Ok, Err, length}
use Rattle.sct_place.specs.Outcomes.{done_as}
use Rattle.sct_place.specs.Places.{IsCopied}
use Rattle.sct_embed.specs.declared.faults.EmbedFault.TheVariants as fault
use Rattle.sct_place.proofs.asking.say.Goals as goal

pub returns-in-Ok-clause-said : goal.returns-in-Ok-clause-said
returns-in-Ok-clause-said c =
    let is = c.as_bytes.ensures.value ∙ c.in-Ok.ensures in
    record {
      done = Ok tt;
      told = c.done.ensures ∙ ap (λ (n : ℕ). done_as (Ok tt) n) (c.copy_text.ensures.length ∙ ap length is);
      copied = subst (λ (text : List ℕ). IsCopied text c.args.out.now c.copy_text.new.out) is c.copy_text.ensures.copied;
      err = tt;
      unwritten = tt;
      same = refl;
    }

pub returns-in-Err-clause-said : goal.returns-in-Err-clause-said
returns-in-Err-clause-said c = record {
  done = Err fault.Memory;
  told = c.refused.ensures;
  copied = tt;
  err = refl;
  unwritten = refl;
  same = refl;
}
