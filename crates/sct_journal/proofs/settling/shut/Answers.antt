-- The gate that is shut.
use Rattle.std.proofs.Common.{◌≤◌, ◌∙◌, ◌∷◌, [], List, ℕ, IsTrue, ap, sym, subst, length, refl}
use Rattle.sqlite_disk.specs.Disk.{Torn}
use Rattle.sct_journal.specs.Disks.{is_with}
use Rattle.sct_journal.proofs.RecoverLemmas.{after_shut, gate_stands, has_end, is_shut, shut_length}
use Rattle.sct_journal.proofs.settling.shut.Goals as goal

pub returns-in_err-put-clause-crash : goal.returns-in_err-put-clause-crash
returns-in_err-put-clause-crash g c clean ends f left =
    let read : IsTrue (g.D.Disk.is_clean c.stands_ajar.new.disk) = subst (λ b. IsTrue b) c.put.ensures.clean clean in
    after_shut (g.D.Disk.seen c.args.disk.now) c.args.end ends 1 refl (sym (c.in_ok-stands_ajar.ensures.ajar read) ∙ c.if-not-branch.false) f
    (subst (λ (l : List ℕ). Torn c.args.end 1 l f) c.stands_ajar.ensures.seen (c.put.ensures.crash f left))

pub returns-clause-crash : goal.returns-clause-crash
returns-clause-crash g c clean ends f left =
    let read : IsTrue (g.D.Disk.is_clean c.stands_ajar.new.disk) = subst (λ b. IsTrue b) c.put.ensures.clean clean in
    after_shut (g.D.Disk.seen c.args.disk.now) c.args.end ends 1 refl (sym (c.in_ok-stands_ajar.ensures.ajar read) ∙ c.if-not-branch.false) f
    (subst (λ (l : List ℕ). Torn c.args.end 1 l f) c.stands_ajar.ensures.seen (c.put.ensures.crash f left))

pub returns-clause-rest : goal.returns-clause-rest
returns-clause-rest g c clean ends =
    (is_shut (g.D.Disk.seen c.args.disk.now) c.args.end ends (g.D.Disk.seen c.put.new.disk)
    (c.in_ok-put.ensures.written (subst (λ (l : List ℕ). c.args.end ≤ length l) (sym c.stands_ajar.ensures.seen) (has_end (g.D.Disk.seen c.args.disk.now) c.args.end ends))
    ∙ ap (λ (l : List ℕ). is_with l c.args.end (9 ∷ [])) c.stands_ajar.ensures.seen)).0

pub returns-clause-same : goal.returns-clause-same
returns-clause-same g c clean ends =
    (is_shut (g.D.Disk.seen c.args.disk.now) c.args.end ends (g.D.Disk.seen c.put.new.disk)
    (c.in_ok-put.ensures.written (subst (λ (l : List ℕ). c.args.end ≤ length l) (sym c.stands_ajar.ensures.seen) (has_end (g.D.Disk.seen c.args.disk.now) c.args.end ends))
    ∙ ap (λ (l : List ℕ). is_with l c.args.end (9 ∷ [])) c.stands_ajar.ensures.seen)).1

pub returns-clause-length : goal.returns-clause-length
returns-clause-length g c clean ends =
    let before : IsTrue (g.D.Disk.is_clean c.args.disk.now) = c.stands_ajar.ensures.clean (subst (λ b. IsTrue b) c.put.ensures.clean clean) in
    shut_length (g.D.Disk.seen c.args.disk.now) c.args.end ends (g.D.Disk.seen c.put.new.disk) c.args.len (c.requires.len before)
    (c.in_ok-put.ensures.written (subst (λ (l : List ℕ). c.args.end ≤ length l) (sym c.stands_ajar.ensures.seen) (has_end (g.D.Disk.seen c.args.disk.now) c.args.end ends))
    ∙ ap (λ (l : List ℕ). is_with l c.args.end (9 ∷ [])) c.stands_ajar.ensures.seen)

pub returns-then-not-branch-clause-length : goal.returns-then-not-branch-clause-length
returns-then-not-branch-clause-length g c clean ends =
    let all = c.requires.len (c.stands_ajar.ensures.clean clean) in
    ap length c.stands_ajar.ensures.seen
    ∙ sym all
    ∙ gate_stands (g.D.Disk.seen c.args.disk.now) c.args.end ends c.args.len all (sym (c.in_ok-stands_ajar.ensures.ajar clean) ∙ c.if-not-branch.true)
