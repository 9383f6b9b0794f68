-- The last member is at the key, or is passed.
use Rattle.std.proofs.Common.{◌∙◌, ap, sym, arith, rules, ◌-◌, length, Some}
use Rattle.std.proofs.lemmas.List.{length-take-le}
use Rattle.sct_json.specs.declared.plain.Member.{Member}
use Rattle.sct_json.proofs.PlainTexts.{last_text_before, last_text_there}
use Rattle.sct_json.proofs.plain.last_text.Goals as goal
use Rattle.sct_json.proofs.plain.last_text.Goals.{then-rest-lt1, in-len1-up+else-not-is}

pub loop-rest-preserved : goal.loop-rest-preserved
loop-rest-preserved c = record {
  same = last_text_before _ c.loop-rest.rest.now _ c.in-len1-up.len_at_least (sym c.if-not-is.ensures) ∙ c.loop-rest.invariant.same;
  fewer = omega (arith, length-take-le (length c.loop-rest.rest.now - 1) c.loop-rest.rest.now (omega arith), c.loop-rest.invariant.fewer);
}

pub returns : goal.returns
returns c = elim c.if-rest-lt1.branch [
  | then-rest-lt1 w ↦ search rules
  | in-len1-up+else-not-is w ↦
      ap (λ (m : Member). Some m.text.now) (c.in_ok-last.ensures.item.3.1 _)
      ∙ last_text_there _ c.loop-rest.rest.now _ w.in-len1-up.len_at_least (sym w.if-not-is.ensures) ∙ c.loop-rest.invariant.same
]
