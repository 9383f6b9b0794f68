-- The lines that were read, or none.
use Rattle.std.proofs.Common.{◌≡◌, ◌+◌, ◌-◌, ◌∙◌, [], IsTrue, ap, arith, length, drop, sym, subst}
use Rattle.sct_journal.specs.Kept.{kept}
use Rattle.sct_journal.specs.Parts.{IsNext, IsNextText}
use Rattle.sct_journal.proofs.OpeningLemmas.{next_more, next_read, next_whole}
use Rattle.sct_journal.proofs.opening.Opening.next.Goals as goal

pub returns-in-Some-clause-opening : goal.returns-in-Some-clause-opening
returns-in-Some-clause-opening g c =
    let file = g.D.Disk.seen c.args.self.now.disk in
    let next : IsNext (IsTrue (g.D.Disk.is_clean c.next_text.new.disk)) (drop c.args.self.now.end file) (c.args.self.now.len - c.args.self.now.end) c.in-Some.text.items =
    subst (IsNextText (IsTrue (g.D.Disk.is_clean c.next_text.new.disk)) (drop c.args.self.now.end file) (c.args.self.now.len - c.args.self.now.end)) c.in-Some.is c.in_ok-text.ensures.next in
    let long : c.len.result ≡ length c.in-Some.text.items = omega (arith, c.len.ensures) in
    record {
      usable = c.next_text.ensures.usable;
      durable = λ f left. c.requires.durable f (c.next_text.ensures.crash f left) ∙ sym c.next_text.ensures.seen;
      fits = omega (arith, next.within, long, c.requires.fits);
      len = λ clean. c.requires.len (c.next_text.ensures.clean clean) ∙ ap length (sym c.next_text.ensures.seen);
      read = λ clean.
          next_read file (g.D.Disk.seen c.next_text.new.disk) c.in-Some.text.items c.args.self.now.end (c.args.self.now.end + c.len.result) c.next_text.ensures.seen
          (c.requires.read (c.next_text.ensures.clean clean)) (next.front clean) (ap (λ n. c.args.self.now.end + n) long);
    }

pub returns-in-Some-clause-more : goal.returns-in-Some-clause-more
returns-in-Some-clause-more g c clean =
    let file = g.D.Disk.seen c.args.self.now.disk in
    let next : IsNext (IsTrue (g.D.Disk.is_clean c.next_text.new.disk)) (drop c.args.self.now.end file) (c.args.self.now.len - c.args.self.now.end) c.in-Some.text.items =
    subst (IsNextText (IsTrue (g.D.Disk.is_clean c.next_text.new.disk)) (drop c.args.self.now.end file) (c.args.self.now.len - c.args.self.now.end)) c.in-Some.is c.in_ok-text.ensures.next in
    let long : c.len.result ≡ length c.in-Some.text.items = omega (arith, c.len.ensures) in
    next_more file (g.D.Disk.seen c.next_text.new.disk) c.in-Some.text.items c.args.self.now.end (c.args.self.now.end + c.len.result) c.next_text.ensures.seen
    (c.requires.read (c.next_text.ensures.clean clean)) (next.front clean) (ap (λ n. c.args.self.now.end + n) long)

pub returns-in-None-clause-whole : goal.returns-in-None-clause-whole
returns-in-None-clause-whole g c clean =
    let file = g.D.Disk.seen c.args.self.now.disk in
    let none : IsTrue (g.D.Disk.is_clean c.next_text.new.disk) → kept (drop c.args.self.now.end file) ≡ [] =
    subst (IsNextText (IsTrue (g.D.Disk.is_clean c.next_text.new.disk)) (drop c.args.self.now.end file) (c.args.self.now.len - c.args.self.now.end)) c.in-None.is c.in_ok-text.ensures.next in
    next_whole file (g.D.Disk.seen c.next_text.new.disk) c.args.self.now.end c.next_text.ensures.seen (c.requires.read (c.next_text.ensures.clean clean)) (none clean)
