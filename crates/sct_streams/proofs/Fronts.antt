-- A text that is written by several writes.
use Rattle.std.proofs.Common.{◌∙◌, ap, sym, subst, ℕ, ◌+◌, List, ◌++◌, Option, Some, None, take, drop, take-add, append_assoc}
use Rattle.sct_streams.specs.Stream.{AppendsIfTold}

-- one write more takes a longer front of the text
pub one_write_more : (before between after : Option (List ℕ)) (bytes : List ℕ) (done n : ℕ) → AppendsIfTold before between (take done bytes)
    → AppendsIfTold between after (take n (drop done bytes)) → AppendsIfTold before after (take (done + n) bytes)
one_write_more None between after bytes done n first second = tt
one_write_more (Some held) between after bytes done n first second =
    let told : AppendsIfTold (Some (held ++ take done bytes)) after (take n (drop done bytes)) = subst (λ b. AppendsIfTold b after (take n (drop done bytes))) first second in
    told ∙ ap Some (append_assoc held (take done bytes) (take n (drop done bytes)) ∙ ap (λ xs. held ++ xs) (sym (take-add done n bytes)))
