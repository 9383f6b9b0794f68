-- The lines of a part, or none.
use Rattle.std.proofs.Common.{◌≡◌, ◌≤◌, ◌+◌, ◌∙◌, ℕ, List, sym, ap, arith, length, take, drop, length-take}
use Rattle.sct_journal.proofs.OpeningLemmas.{part_front, part_length, part_shut}
use Rattle.sct_journal.proofs.parts.next_part.Goals as goal

pub returns-then-len-gt0-clause-part : goal.returns-then-len-gt0-clause-part
returns-then-len-gt0-clause-part g c =
    let cut = c.truncate.ensures.items ∙ ap (λ (l : List ℕ). take c.kept_len-len.result l) (sym c.deref.ensures.value) in
    let long : length c.truncate.new.self.items ≡ c.kept_len-len.result = part_length c.deref.result.now c.kept_len-len.result c.truncate.new.self.items c.kept_len-len.ensures cut in
    record {
      some = omega (arith, long, c.if-len-gt0.true);
      within = omega (arith, ap length cut, length-take c.kept_len-len.result c.deref.result.now, ap length c.deref.ensures.value, c.in_ok-text.ensures.length, c.min-count.ensures);
      front = λ clean.
          let fits : c.args.at + c.min-count.result ≤ length (g.D.Disk.seen c.args.disk.now) = omega (arith, c.requires.len (c.read_part.ensures.clean clean), c.min-count.ensures) in
          part_front c.deref.result.now (drop c.args.at (g.D.Disk.seen c.args.disk.now)) c.min-count.result c.kept_len-len.result
          (c.deref.ensures.value ∙ c.in_ok-text.ensures.bytes clean fits) c.kept_len-len.ensures c.truncate.new.self.items cut;
    }

pub returns-then-not-is_ajar-clause-part : goal.returns-then-not-is_ajar-clause-part
returns-then-not-is_ajar-clause-part g c clean =
    let fits : c.args.at + c.min-count.result ≤ length (g.D.Disk.seen c.args.disk.now) = omega (arith, c.requires.len (c.read_part.ensures.clean clean), c.min-count.ensures) in
    part_shut c.deref-2.result.now (drop c.args.at (g.D.Disk.seen c.args.disk.now)) c.min-count.result
    (c.deref-2.ensures.value ∙ c.in_ok-text.ensures.bytes clean fits) (sym c.is_ajar.ensures ∙ c.if-not-is_ajar.true)
